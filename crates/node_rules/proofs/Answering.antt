-- What a session answers fits, and what it says is heard.
use Rattle.std.proofs.Common.{◌≡◌, ℕ, ◌<◌, ◌≤◌, ◌+◌, Bool, true, false, List, [], ◌∷◌, Option, Some, None, Ok, refl, sym, ap, subst, ◌∙◌, arith, length, cond}
use Rattle.std.specs.Prelude.{is_none}
use Rattle.std.specs.List.{count_by}
use Rattle.std.proofs.lemmas.Option.{same_Some}
use Rattle.std.proofs.lemmas.List.Sums.{sum_by-cons, count_by-le-length}
use Rattle.game_def.specs.Game.{Game}
use Rattle.betting.specs.declared.action.Action.{Action}
use Rattle.betting.specs.Rounds.{over, turns, to_act}
use Rattle.betting.specs.Legal.{CanAct}
use Rattle.slot_log.specs.Hand.{Hand}
use Rattle.slot_log.specs.Dealer.{is_finished, finished_count, Fits}
use Rattle.slot_log.specs.Played.{AreHands}
use Rattle.slot_log.specs.declared.command.Command.{Command}
use Rattle.slot_log.specs.declared.command.Command.TheVariants.{Deal, Act, Away}
use Rattle.matchstate.specs.View.{View, view_of, position_of}
use Rattle.seat_session.specs.Lines.{text_of}
use Rattle.seat_session.specs.Saying.{SaysAct, Says}
use Rattle.seat_session.specs.Session.{Standing as Talk, Answers}
use Rattle.seat_session.specs.Laws.{HoldsLine, IsRestOf}
use Rattle.seat_session.specs.declared.phase.Phase.{Phase}
use Rattle.seat_session.specs.declared.phase.Phase.TheVariants.{Greeting, Ready as InPlay, Closed}
use Rattle.seat_session.specs.declared.said.Said.TheVariants.{Act as SaidAct}
use Rattle.protocol_model.specs.Dealers.{HasLine}
use Rattle.dealer_kind.specs.Kind.{Setting, hands_after, fits, says}
use Rattle.node_rules.specs.Given.{Given}

-- ---- an act that a line says fits

acting_by : {A : Type 0} (b : Bool) (x : Option A) (y : A) → (elim b as (λ z. Option A) [ true ↦ None | false ↦ x ]) ≡ Some y → b ≡ false
acting_by true x y e = absurd (cc)
acting_by false x y e = refl

-- somebody is to act, so the betting isn't over
goes_on : (game : Game) (past : List Action) (position : ℕ) → to_act game (turns game past) ≡ Some position → over game (turns game past) ≡ false
unfolding to_act
goes_on game past position e = acting_by (over game (turns game past)) _ position e

unfinished : (game : Game) (newest : Hand) (earlier : List Hand) → is_finished game newest ≡ false → finished_count game (newest ∷ earlier) ≤ length earlier
unfinished game newest earlier e =
    let counted : finished_count game (newest ∷ earlier) ≡ 0 + count_by (is_finished game) earlier =
    sum_by-cons (λ hand. cond (is_finished game hand) 1 0) newest earlier ∙ ap (λ (b : Bool). cond b 1 0 + count_by (is_finished game) earlier) e in
    let l = count_by-le-length (is_finished game) earlier in omega (arith, counted, l)

act_fits : (game : Game) (count : ℕ) (hands : List Hand) (seat : ℕ) (text : List ℕ) (hand index : ℕ) (action : Action) → AreHands game count hands
    → SaysAct game hands seat text hand index action → Fits game count hands (Act hand index action)
act_fits game count [] seat text hand index action are said = let clash : ◌≡◌ {A = Option View} None (Some said.view) = said.echoes.current in absurd (cc)
act_fits game count (newest ∷ earlier) seat text hand index action are said =
    let view : view_of game (position_of game.players (length earlier) seat) (length earlier) newest ≡ said.view =
    same_Some (view_of game (position_of game.players (length earlier) seat) (length earlier) newest) said.view said.echoes.current in
    let past : said.view.past ≡ newest.past = ap (λ (v : View). v.past) (sym view) in
    let runs : is_finished game newest ≡ false =
    goes_on game newest.past said.view.position (ap (λ (p : List Action). to_act game (turns game p)) (sym past) ∙ said.turn) in
    record {
      goes_on = (let l = unfinished game newest earlier runs in let w = are.within in omega arith);
      runs = runs;
      same_hand = said.same_hand ∙ ap (λ (v : View). v.hand) (sym view);
      next_index = said.next_index ∙ ap length past;
      allowed = subst (λ (p : List Action). CanAct game (turns game p) action) past said.allowed;
    }

says_fits : (game : Game) (count : ℕ) (hands : List Hand) (seat : ℕ) (phase : Phase) (text : List ℕ) (act : Command) → AreHands game count hands
    → Says game hands seat phase text (Ok (SaidAct act)) → Fits game count hands act
says_fits game count hands seat Greeting text act are said = absurd said
says_fits game count hands seat InPlay text (Deal hand deal) are said = absurd said
says_fits game count hands seat InPlay text (Away hand index) are said = absurd said
says_fits game count hands seat InPlay text (Act hand index action) are said = act_fits game count hands seat text hand index action are said
says_fits game count hands seat (Closed fault) text act are said = absurd said

-- an act that a session answers fits
pub answer_fits : (g : Given) (setting : Setting) (before : List Command) (seat : ℕ) (bytes : List ℕ) (old new : Talk) (act : Command) → IsRestOf bytes old
    → Answers setting.game (hands_after setting before) seat old (Some (Ok (SaidAct act))) new
    → Fits setting.game setting.title.hands (hands_after setting before) act
answer_fits g setting before seat bytes old new act rest answers =
    let said = g.whole.said setting.game (hands_after setting before) seat bytes old (SaidAct act) new rest answers in
    says_fits setting.game setting.title.hands (hands_after setting before) seat old.phase (text_of said.0) act (g.make setting.game setting.title.hands before) said.2

pub fits_if : (g : Given) (setting : Setting) (before : List Command) (act : Command) → Fits setting.game setting.title.hands (hands_after setting before) act
    → fits setting before act ≡ true
fits_if g setting before act fit = ap is_none ((g.fits setting.game setting.title.hands (hands_after setting before) act).0 fit)

-- a line among the bytes says it
pub answer_heard : (g : Given) (setting : Setting) (before : List Command) (seat : ℕ) (bytes : List ℕ) (old new : Talk) (act : Command) → seat < setting.game.players → IsRestOf bytes old
    → Answers setting.game (hands_after setting before) seat old (Some (Ok (SaidAct act))) new
    → (line : List ℕ) × HasLine bytes line × (says setting before seat line act ≡ true)
answer_heard g setting before seat bytes old new (Deal hand deal) seated rest answers = absurd (no_deal old.phase said.2)
  where
    said : (line : List ℕ) × HoldsLine bytes line × Says setting.game (hands_after setting before) seat old.phase (text_of line) (Ok (SaidAct (Deal hand deal)))
    said = g.whole.said setting.game (hands_after setting before) seat bytes old (SaidAct (Deal hand deal)) new rest answers

    no_deal : (phase : Phase) → Says setting.game (hands_after setting before) seat phase (text_of said.0) (Ok (SaidAct (Deal hand deal))) → ⊥
    no_deal Greeting h = h
    no_deal InPlay h = h
    no_deal (Closed fault) h = h
answer_heard g setting before seat bytes old new (Away hand index) seated rest answers = absurd (no_away old.phase said.2)
  where
    said : (line : List ℕ) × HoldsLine bytes line × Says setting.game (hands_after setting before) seat old.phase (text_of line) (Ok (SaidAct (Away hand index)))
    said = g.whole.said setting.game (hands_after setting before) seat bytes old (SaidAct (Away hand index)) new rest answers

    no_away : (phase : Phase) → Says setting.game (hands_after setting before) seat phase (text_of said.0) (Ok (SaidAct (Away hand index))) → ⊥
    no_away Greeting h = h
    no_away InPlay h = h
    no_away (Closed fault) h = h
answer_heard g setting before seat bytes old new (Act hand index action) seated rest answers =
    g.heard setting before seat bytes old new hand index action seated rest answers (answer_fits g setting before seat bytes old new (Act hand index action) rest answers)
