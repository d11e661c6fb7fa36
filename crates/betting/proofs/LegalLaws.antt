-- The laws of legal plays.
use Rattle.std.proofs.Common.{◌≡◌, ℕ, ◌-◌, ◌<◌, ◌≤◌, false, List, [], ◌∷◌, ◌++◌, Some, sym, ap, ◌∙◌, arith, inl, inr, append_assoc, replicate, append-nil}
use Rattle.std.proofs.lemmas.Bool.{cases_eq}
use Rattle.std.proofs.lemmas.Option.{same_Some}
use Rattle.game_def.specs.Game.{Game, IsGame, stack_of}
use Rattle.betting.specs.declared.action.Action.{Action}
use Rattle.betting.specs.declared.action.Action.TheVariants.{Fold, Call, Raise}
use Rattle.betting.specs.Turns.{Turn, turn_by, max_spent, spent, folded}
use Rattle.betting.specs.Rounds.{current_round, to_act, turns}
use Rattle.betting.specs.Legal.{CanAct, Allows}
use Rattle.betting.specs.Text.{text, action_text}
use Rattle.betting.specs.Laws.{SomebodyHasTheGreatestAmount, NobodyPassesHisStack, AmountsNeverFall, HandsEnd, SomebodyMayCall, WhoActsIsLive, NobodyActsOnceOver, RaisesGoUp, AllowedWithoutFault, RoundsGoOn, BettingTextsExtend}
use Rattle.betting.proofs.Steps.{spent-other, spent-fold, spent-call, spent-raise}
use Rattle.betting.proofs.Advance.{round_moves, round_fits}
use Rattle.betting.proofs.Sound.{Sound, IsNext, next_is, somebody_acts, live_parts, acts_unless_over}
use Rattle.betting.proofs.SoundSteps.{raise_between}
use Rattle.betting.proofs.Legal.{sound_legal, length-legal, turns-cons, can_act-none, none-can_act}

pub somebody_has_the_greatest_amount : SomebodyHasTheGreatestAmount
somebody_has_the_greatest_amount game past is_game legal = (sound_legal game is_game past legal).top

pub nobody_passes_his_stack : NobodyPassesHisStack
nobody_passes_his_stack game past position is_game legal within = (sound_legal game is_game past legal).within_stack position within

grows : (game : Game) → IsGame game → (h : List Turn) → Sound game h → (p : ℕ) → p < game.players → (a : Action) → Allows game h p a → (q : ℕ) → q < game.players
    → spent game h q ≤ spent game (turn_by p (current_round game h) a ∷ h) q
grows game is_game h sound p within a allowed q b = elim (cases_eq p q) [
  | inl same ↦ rw (← same) (own a allowed)
  | inr other ↦ rw (spent-other game h p (current_round game h) a q other) (omega arith)
]
  where
    own : (x : Action) → Allows game h p x → spent game h p ≤ spent game (turn_by p (current_round game h) x ∷ h) p
    own Fold may = rw (spent-fold game h p (current_round game h) p) (omega arith)
    own Call may =
        let most : spent game h p ≤ max_spent game h = sound.within_most p within in
        let stack : spent game h p ≤ stack_of game p = sound.within_stack p within in
        rw (spent-call game h p (current_round game h)) (omega arith)
    own (Raise amount) may =
        let most : spent game h p ≤ max_spent game h = sound.within_most p within in
        let between : (max_spent game h < amount) × (amount ≤ stack_of game p) = raise_between game is_game h p amount sound.round_fits sound.full_raise may.0 may.1 may.2 in
        rw (spent-raise game h p (current_round game h) amount) (omega (arith, between.0))

pub amounts_never_fall : AmountsNeverFall
unfolding CanAct
amounts_never_fall game past action position is_game legal within =
    let sound : Sound game (turns game past) = sound_legal game is_game past legal.0 in
    let next : IsNext game (turns game past) legal.1.0 = next_is game (turns game past) sound legal.1.0 legal.1.1 in
    rw (turns-cons game past legal.1.0 action legal.1.1) (grows game is_game (turns game past) sound legal.1.0 next.found.most action legal.1.2 position within)

pub hands_end : HandsEnd
hands_end game past is_game legal = length-legal game is_game past legal

pub somebody_may_call : SomebodyMayCall
unfolding CanAct
somebody_may_call game past is_game legal open_hand =
    let acts : (position : ℕ) × (to_act game (turns game past) ≡ Some position) = somebody_acts game (turns game past) (sound_legal game is_game past legal) open_hand in
    (acts.0, acts.1, tt)

pub who_acts_is_live : WhoActsIsLive
who_acts_is_live game past position is_game legal acts =
    let next : IsNext game (turns game past) position = next_is game (turns game past) (sound_legal game is_game past legal) position acts in
    let parts : (folded (turns game past) position ≡ false) × (spent game (turns game past) position < stack_of game position) = live_parts game (turns game past) position next.found.passes in
    (next.found.most, parts.0, parts.1)

pub nobody_acts_once_over : NobodyActsOnceOver
nobody_acts_once_over game past is_game legal = acts_unless_over game (turns game past) (sound_legal game is_game past legal)

pub raises_go_up : RaisesGoUp
unfolding CanAct
raises_go_up game past position amount is_game legal acts can =
    let sound : Sound game (turns game past) = sound_legal game is_game past legal in
    let same : can.0 ≡ position = same_Some _ _ (sym can.1 ∙ acts) in
    let between : (max_spent game (turns game past) < amount) × (amount ≤ stack_of game can.0) =
    raise_between game is_game (turns game past) can.0 amount sound.round_fits sound.full_raise can.2.0 can.2.1 can.2.2 in
    (between.0, rw (← same) between.1)

pub allowed_without_fault : AllowedWithoutFault
allowed_without_fault game past action = (can_act-none game past action, none-can_act game past action)

pub rounds_go_on : RoundsGoOn
unfolding CanAct
rounds_go_on game past action is_game legal =
    let sound : Sound game (turns game past) = sound_legal game is_game past legal.0 in
    let fits : current_round game (turns game past) ≤ 3 = sound.round_fits in
    rw (turns-cons game past legal.1.0 action legal.1.1)
    (elim (round_moves game legal.1.0 (current_round game (turns game past)) action (turns game past) fits) [
      | inl same ↦ (omega (arith, same), omega (arith, same))
      | inr later ↦ (omega (arith, later), round_fits game legal.1.0 (current_round game (turns game past)) action (turns game past) fits)
    ])

pub betting_texts_extend : BettingTextsExtend
unfolding text
betting_texts_extend game [] past = ([], sym (append-nil (text game past)))
betting_texts_extend game (action ∷ later) past =
    let before : (rest : List ℕ) × (text game (later ++ past) ≡ text game past ++ rest) = betting_texts_extend game later past in
    let added : List ℕ = action_text game action in
    let slashes : List ℕ = replicate (current_round game (turns game (action ∷ (later ++ past))) - current_round game (turns game (later ++ past))) 47 in (
      before.0 ++ added ++ slashes,
      ap (λ t. t ++ added ++ slashes) before.1
          ∙ simp append_assoc,
    )
