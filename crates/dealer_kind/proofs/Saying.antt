-- What sessions take from lines, and what lines say to the protocol.
use Rattle.std.proofs.Common.{◌≡◌, ℕ, true, List, [], ◌∷◌, ◌++◌, Some, None, Option, length, refl, ap, sym, ◌∙◌, subst, arith, nat_lt, eq-eqb}
use Rattle.std.proofs.lemmas.Option.{same_Some}
use Rattle.std.specs.Prelude.{bytes_eq, Ok}
use Rattle.std.proofs.lemmas.Bool.{and_from, and_parts}
use Rattle.std.proofs.lemmas.Bool.Decides.{nat_tests}
use Rattle.std.proofs.lemmas.Slice.Eq.{bytes_eq-Decides}
use Rattle.game_def.specs.Game.{Game}
use Rattle.betting.specs.declared.action.Action.{Action}
use Rattle.betting.specs.Rounds.{turns, to_act}
use Rattle.betting.specs.Legal.{CanAct}
use Rattle.betting.specs.Text.{action_text}
use Rattle.slot_log.specs.Hand.{Hand}
use Rattle.slot_log.specs.Dealer.{Fits}
use Rattle.slot_log.specs.Laws.{FitsWithoutReason}
use Rattle.slot_log.specs.declared.command.Command.TheVariants.{Act}
use Rattle.matchstate.specs.View.{View, seat_view}
use Rattle.matchstate.specs.Line.{line_text}
use Rattle.matchstate.specs.OneReading.{AnswersAreTexts}
use Rattle.seat_session.specs.Lines.{text_of}
use Rattle.seat_session.specs.Saying.{SaysAct, Says}
use Rattle.seat_session.specs.RightLines.{RightLinesAct}
use Rattle.seat_session.specs.Laws.{WholeLines}
use Rattle.seat_session.specs.declared.phase.Phase.{Phase}
use Rattle.seat_session.specs.declared.phase.Phase.TheVariants.{Greeting, Ready as InPlay, Closed}
use Rattle.seat_session.specs.declared.said.Said.TheVariants.{Act as SaidAct}
use Rattle.dealer_kind.specs.Kind.{hands_after, fits, is_position, echoes}
use Rattle.dealer_kind.specs.Laws.{SessionsSay, SaidIsHeard, AnswersAreHeard}
use Rattle.dealer_kind.proofs.Fitting.{fitting}
use Rattle.dealer_kind.proofs.Holding.{held}

-- ---- from sessions to the protocol

turn_is : (game : Game) (view : View) → to_act game (turns game view.past) ≡ Some view.position
    → is_position (to_act game (turns game view.past)) view.position ≡ true
turn_is game view turn = ap (λ p. is_position p view.position) turn ∙ eq-eqb view.position view.position refl

pub sessions_say : AnswersAreTexts → FitsWithoutReason → SessionsSay
sessions_say texts law setting before seat line hand index action within said takes =
    let game : Game = setting.game in
    let view : View = said.view in
    let whole : text_of line ≡ line_text view ++ 58 ∷ action_text game action = texts game (text_of line) view action said.echoes.reads in
    let seated : nat_lt seat game.players ≡ true = grind (arith, nat_tests) in
    let fit : fits setting before (Act hand index action) ≡ true = (fitting law setting before (Act hand index action)).1 takes in
    let echoed : echoes game (Some view) (text_of line) action ≡ true
    = and_from _ _ (turn_is game view said.turn) ((bytes_eq-Decides (text_of line) (line_text view ++ 58 ∷ action_text game action)).1 whole) in
    and_from _ _ (and_from _ _ seated fit) (ap (λ (v : Option View). echoes game v (text_of line) action) said.echoes.current ∙ echoed)

-- ---- and back

position_then : (to_act : Option ℕ) (position : ℕ) → is_position to_act position ≡ true → to_act ≡ Some position
position_then None position is = absurd cc
position_then (Some found) position is = ap Some (let same : found ≡ position = grind (arith, nat_tests) in same)

-- the view is of the hand that the act is for, after as many actions as the act's index
of_running : (game : Game) (count : ℕ) (hands : List Hand) (seat hand index : ℕ) (action : Action) (view : View) → seat_view game hands seat ≡ Some view
    → Fits game count hands (Act hand index action) → (view.hand ≡ hand) × (length view.past ≡ index)
of_running game count [] seat hand index action view is takes = absurd takes
of_running game count (newest ∷ earlier) seat hand index action view is takes =
    let shown = same_Some _ _ is in (ap (λ (v : View). v.hand) (sym shown) ∙ sym takes.same_hand, ap (λ (v : View). length v.past) (sym shown) ∙ sym takes.next_index)

allowed_there : (game : Game) (count : ℕ) (hands : List Hand) (seat hand index : ℕ) (action : Action) (view : View) → seat_view game hands seat ≡ Some view
    → Fits game count hands (Act hand index action) → CanAct game (turns game view.past) action
allowed_there game count [] seat hand index action view is takes = absurd takes
allowed_there game count (newest ∷ earlier) seat hand index action view is takes =
    subst (λ past. CanAct game (turns game past) action) (same_past is) takes.allowed
  where
    same_past : {a b : View} → Some a ≡ Some b → a.past ≡ b.past
    same_past e = cc

pub said_is_heard : FitsWithoutReason → RightLinesAct → SaidIsHeard
said_is_heard law right setting before seat line hand index action view is_game current is_view said =
    let game : Game = setting.game in
    let hands : List Hand = hands_after setting before in
    let conditions = (and_parts _ _ said).0 in
    let takes = (fitting law setting before (Act hand index action)).0 (and_parts _ _ conditions).1 in
    let echoed : echoes game (Some view) (text_of line) action ≡ true
    = ap (λ (v : Option View). echoes game v (text_of line) action) (sym current) ∙ (and_parts _ _ said).1 in
    let turn = position_then (to_act game (turns game view.past)) view.position (and_parts _ _ echoed).0 in
    let whole = (bytes_eq-Decides (text_of line) (line_text view ++ 58 ∷ action_text game action)).0 (and_parts _ _ echoed).1 in
    let of = of_running game setting.title.hands hands seat hand index action view current takes in
    let plays = right game hands seat view action is_game is_view current turn (allowed_there game setting.title.hands hands seat hand index action view current takes) in (
      subst (λ text. SaysAct game hands seat text hand index action) (sym whole)
          (subst (λ k. SaysAct game hands seat (line_text view ++ 58 ∷ action_text game action) hand k action) of.1
          (subst (λ h. SaysAct game hands seat (line_text view ++ 58 ∷ action_text game action) h (length view.past) action) of.0 plays)),
      takes,
    )

-- ---- what a session answers

-- what a line says in a phase, where it is an act
act_in : (game : Game) (hands : List Hand) (seat : ℕ) (phase : Phase) (text : List ℕ) (hand index : ℕ) (action : Action)
    → Says game hands seat phase text (Ok (SaidAct (Act hand index action))) → SaysAct game hands seat text hand index action
act_in game hands seat Greeting text hand index action said = absurd said
act_in game hands seat InPlay text hand index action said = said
act_in game hands seat (Closed fault) text hand index action said = absurd said

pub answers_are_heard : WholeLines → AnswersAreTexts → FitsWithoutReason → AnswersAreHeard
answers_are_heard lines texts law setting before seat bytes old new hand index action within rest answers takes =
    let game : Game = setting.game in
    let hands : List Hand = hands_after setting before in
    let found = lines.said game hands seat bytes old (SaidAct (Act hand index action)) new rest answers in (
      found.0,
      held bytes found.0 found.1,
      sessions_say texts law setting before seat found.0 hand index action within
          (act_in game hands seat old.phase (text_of found.0) hand index action found.2) takes,
    )
