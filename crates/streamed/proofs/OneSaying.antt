-- After the same lines a line says one thing.
use Rattle.std.proofs.Common.{◌≡◌, ◌≢◌, ℕ, List, [], ◌∷◌, ◌++◌, Option, Some, None, codes, refl, sym, ap, ◌∙◌, subst, arith}
use Rattle.std.proofs.lemmas.List.{append_cancel_left}
use Rattle.game_def.specs.Game.{Game}
use Rattle.betting.specs.declared.action.Action.{Action}
use Rattle.betting.specs.declared.action.Action.TheVariants.{Fold, Call, Raise}
use Rattle.betting.specs.Turns.{Turn}
use Rattle.betting.specs.Rounds.{turns}
use Rattle.slot_log.specs.Hand.{Hand}
use Rattle.slot_log.specs.Dealer.{hands_of}
use Rattle.slot_log.specs.declared.command.Command.{Command}
use Rattle.slot_log.specs.declared.command.Command.TheVariants.{Deal, Act, Away}
use Rattle.matchstate.specs.ActionText.{IsActionText, IsRaiseText}
use Rattle.matchstate.specs.OneReading.{ActionTextsSayOneAction}
use Rattle.matchstate.specs.OneToOne.{DealTextsAreOneToOne}
use Rattle.matchstate.specs.Cards.{deal_text}
use Rattle.match_log.specs.Lines.{names_field}
use Rattle.match_log.proofs.FieldBytes.{names_without_bar}
use Rattle.match_log.proofs.OneLine.{field_tells}
use Rattle.streamed.specs.Names.{IsNamesLine}
use Rattle.streamed.specs.Told.{commands_of, names_of}
use Rattle.streamed.specs.Answer.{Says, Tells}
use Rattle.streamed.specs.Script.{SayInTurn}
use Rattle.streamed.specs.declared.script_line.ScriptLine.{ScriptLine}
use Rattle.streamed.specs.declared.script_line.ScriptLine.TheVariants.{Names, Told, Bad}

-- ---- a line tells one command

same_front : (x y : ℕ) (xs ys : List ℕ) → x ∷ xs ≡ y ∷ ys → x ≡ y
same_front x y xs ys e = cc

-- no action's text begins by this letter
abbrev BeginsNoAction : ℕ → Type 0
BeginsNoAction letter = (letter ≢ 102) × (letter ≢ 99) × (letter ≢ 114)

no_word_acts : (game : Game) (past : List Turn) (text rest : List ℕ) (letter : ℕ) (action : Action) → BeginsNoAction letter → text ≡ letter ∷ rest → IsActionText game past text action → ⊥
no_word_acts game past text rest letter Fold others word says = others.0 (same_front _ _ _ _ (sym word ∙ says))
no_word_acts game past text rest letter Call others word says = others.1 (same_front _ _ _ _ (sym word ∙ says))
no_word_acts game past text rest letter (Raise amount) others word says = by_sizes game.raise_sizes says
  where
    by_sizes : (sizes : Option (List ℕ)) → IsRaiseText sizes game past text amount → ⊥
    by_sizes None raise = others.2 (same_front _ _ _ _ (sym word ∙ raise.0))
    by_sizes (Some sizes) raise = others.2 (same_front _ _ _ _ (sym word ∙ raise.0))

no_d : BeginsNoAction 100
no_d = (λ e. omega (arith, e), λ e. omega (arith, e), λ e. omega (arith, e))

no_a : BeginsNoAction 97
no_a = (λ e. omega (arith, e), λ e. omega (arith, e), λ e. omega (arith, e))

no_deal_and_act : (game : Game) (hands : List Hand) (text : List ℕ) (hand number index : ℕ) (deal : List ℕ) (action : Action) → Tells game hands text (Deal hand deal) → Tells game hands text (Act number index action) → ⊥
no_deal_and_act game [] text hand number index deal action deals acts = acts
no_deal_and_act game (newest ∷ earlier) text hand number index deal action deals acts = no_word_acts game (turns game newest.past) text (codes "eal " ++ deal_text game.players deal) 100 action no_d deals.2 acts.2

no_deal_and_away : (game : Game) (hands : List Hand) (text : List ℕ) (hand number index : ℕ) (deal : List ℕ) → Tells game hands text (Deal hand deal) → Tells game hands text (Away number index) → ⊥
no_deal_and_away game [] text hand number index deal deals aways = aways
no_deal_and_away game (newest ∷ earlier) text hand number index deal deals aways = omega (arith, same_front _ _ _ _ (sym deals.2 ∙ aways.2))

no_act_and_away : (game : Game) (hands : List Hand) (text : List ℕ) (hand index number place : ℕ) (action : Action) → Tells game hands text (Act hand index action) → Tells game hands text (Away number place) → ⊥
no_act_and_away game [] text hand index number place action acts aways = aways
no_act_and_away game (newest ∷ earlier) text hand index number place action acts aways = no_word_acts game (turns game newest.past) text (codes "way") 97 action no_a aways.2 acts.2

one_away : (game : Game) (hands : List Hand) (text : List ℕ) (hand index number place : ℕ) → Tells game hands text (Away hand index) → Tells game hands text (Away number place) → Away hand index ≡ Away number place
one_away game [] text hand index number place told tells = absurd told
one_away game (newest ∷ earlier) text hand index number place told tells = ap (λ (n : ℕ). Away n index) (told.0 ∙ sym tells.0) ∙ ap (Away number) (told.1 ∙ sym tells.1)

same_names : (players : ℕ) (names others : List (List ℕ)) (line : List ℕ) → IsNamesLine players names line → IsNamesLine players others line → names ≡ others
same_names players names others line is names_it =
    let fields : names_field names ≡ names_field others = append_cancel_left (codes "names ") _ _ (sym is.form ∙ names_it.form) in
    field_tells names others (is.are_names.one_each ∙ sym names_it.are_names.one_each) (names_without_bar names is.are_names.each_name) (names_without_bar others names_it.are_names.each_name) fields

-- by the laws of lines: an action's text says one action, and a deal has one text
module _ (actions : ActionTextsSayOneAction) (deals : DealTextsAreOneToOne) where
  one_act : (game : Game) (hands : List Hand) (text : List ℕ) (hand number index place : ℕ) (action other : Action) → Tells game hands text (Act hand index action) → Tells game hands text (Act number place other) → Act hand index action ≡ Act number place other
  one_act game [] text hand number index place action other told tells = absurd told
  one_act game (newest ∷ earlier) text hand number index place action other told tells =
      ap (λ (n : ℕ). Act n index action) (told.0 ∙ sym tells.0)
      ∙ ap (λ (n : ℕ). Act number n action) (told.1 ∙ sym tells.1)
      ∙ ap (λ (a : Action). Act number place a) (actions game (turns game newest.past) text action other told.2 tells.2)

  one_deal : (game : Game) (hands : List Hand) (text : List ℕ) (hand number : ℕ) (deal other : List ℕ) → Tells game hands text (Deal hand deal) → Tells game hands text (Deal number other) → Deal hand deal ≡ Deal number other
  one_deal game hands text hand number deal other told tells =
      let texts : deal_text game.players deal ≡ deal_text game.players other = append_cancel_left (codes "deal ") _ _ (sym told.2 ∙ tells.2) in
      ap (λ (n : ℕ). Deal n deal) (told.0 ∙ sym tells.0)
      ∙ ap (λ (d : List ℕ). Deal number d) (deals game.players deal other told.1 tells.1 texts)

  one_command : (game : Game) (hands : List Hand) (text : List ℕ) (command other : Command) → Tells game hands text command → Tells game hands text other → command ≡ other
  one_command game hands text (Deal hand deal) (Deal number other) told tells = one_deal game hands text hand number deal other told tells
  one_command game hands text (Deal hand deal) (Act number index action) told tells = absurd (no_deal_and_act game hands text hand number index deal action told tells)
  one_command game hands text (Act number index action) (Deal hand deal) told tells = absurd (no_deal_and_act game hands text hand number index deal action tells told)
  one_command game hands text (Act hand index action) (Act number place other) told tells = one_act game hands text hand number index place action other told tells
  one_command game hands text (Deal hand deal) (Away number index) told tells = absurd (no_deal_and_away game hands text hand number index deal told tells)
  one_command game hands text (Away number index) (Deal hand deal) told tells = absurd (no_deal_and_away game hands text hand number index deal tells told)
  one_command game hands text (Act hand index action) (Away number place) told tells = absurd (no_act_and_away game hands text hand index number place action told tells)
  one_command game hands text (Away number place) (Act hand index action) told tells = absurd (no_act_and_away game hands text hand index number place action tells told)
  one_command game hands text (Away hand index) (Away number place) told tells = one_away game hands text hand index number place told tells

  -- ---- a line says one thing

  one_says : (game : Game) (names : Option (List (List ℕ))) (hands : List Hand) (line : List ℕ) (said other : ScriptLine) → Says game names hands line said → Says game names hands line other → said ≡ other
  one_says game None hands line (Names names) (Names others) a b = ap Names (same_names game.players names others line a b)
  one_says game None hands line (Names names) (Told command) a b = absurd b
  one_says game None hands line (Names names) Bad a b = absurd (b names a)
  one_says game None hands line (Told command) other a b = absurd a
  one_says game None hands line Bad (Names others) a b = absurd (a others b)
  one_says game None hands line Bad (Told command) a b = absurd b
  one_says game None hands line Bad Bad a b = refl
  one_says game (Some told) hands line (Names names) other a b = absurd a
  one_says game (Some told) hands line (Told command) (Names others) a b = absurd b
  one_says game (Some told) hands line (Told command) (Told next) a b = ap Told (one_command game hands line command next a b)
  one_says game (Some told) hands line (Told command) Bad a b = absurd (b command a)
  one_says game (Some told) hands line Bad (Names others) a b = absurd b
  one_says game (Some told) hands line Bad (Told next) a b = absurd (a next b)
  one_says game (Some told) hands line Bad Bad a b = refl

  pub same_says : (game : Game) (count : ℕ) (lines : List (List ℕ)) (says others : List ScriptLine) → SayInTurn game count lines says → SayInTurn game count lines others → says ≡ others
  same_says game count [] [] [] a b = refl
  same_says game count [] [] (other ∷ earlier) a b = absurd b
  same_says game count [] (said ∷ before) others a b = absurd a
  same_says game count (line ∷ lines) [] others a b = absurd a
  same_says game count (line ∷ lines) (said ∷ before) [] a b = absurd b
  same_says game count (line ∷ lines) (said ∷ before) (other ∷ earlier) a b =
      let same = same_says game count lines before earlier a.0 b.0 in
      let here = subst (λ (past : List ScriptLine). Says game (names_of past) (hands_of game count (commands_of past)) line other) (sym same) b.1 in
      ap (λ (s : ScriptLine). s ∷ before) (one_says game (names_of before) (hands_of game count (commands_of before)) line said other a.1 here)
      ∙ ap (λ (past : List ScriptLine). other ∷ past) same
