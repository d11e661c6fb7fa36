-- What a line of the game says at a table.
use Rattle.std.proofs.Common.{◌≡◌, ℕ, ◌≤◌, Bool, true, false, List, [], ◌∷◌, ◌++◌, length, Option, Some, None, Result, Ok, Err, IfSome, IfOk, refl, sym, ◌∙◌, ap, arith}
use Rattle.std.proofs.lemmas.List.Sums.{count_by-le-length}
use Rattle.game_def.specs.Game.{Game}
use Rattle.betting.specs.declared.action.Action.{Action}
use Rattle.betting.specs.Text.{text}
use Rattle.betting.specs.Turns.{Turn}
use Rattle.betting.specs.Rounds.{turns, to_act, over}
use Rattle.betting.specs.Legal.{fault_of}
use Rattle.betting.specs.Laws.{AllowedWithoutFault}
use Rattle.slot_log.specs.Hand.{Hand, Match}
use Rattle.slot_log.specs.Range.{IsInRange}
use Rattle.slot_log.specs.declared.command.Command.{Command}
use Rattle.slot_log.specs.Dealer.{is_finished, finished_count, Fits}
use Rattle.slot_log.specs.declared.command.Command.TheVariants.{Act}
use Rattle.matchstate.specs.View.{View, view_of, position_of, seat_view}
use Rattle.matchstate.specs.Answer.{AnswerReadsAs}
use Rattle.seat_session.specs.Saying.{Echoes, SaysAct, SaidFits, IsSaidInRange}
use Rattle.seat_session.specs.declared.said.Said.{Said}
use Rattle.seat_session.specs.declared.said.Said.TheVariants.{Ready, Act as Says}
use Rattle.seat_session.specs.declared.session_fault.SessionFault.{SessionFault}
use Rattle.matchstate.proofs.OneLine.{line_is_text}

-- an answer whose line is the one that the seat has now
pub echoes_now : (game : Game) (hands : List Hand) (seat : ℕ) (text : List ℕ) (view : View) (action : Action)
    → AnswerReadsAs game text (Ok (view, action)) → seat_view game hands seat ≡ Some view → Echoes game hands seat text view action
echoes_now game hands seat text view action reads current =
    record {
      reads = reads;
      current = current;
      field = reads.field;
      whole = reads.cut.whole ∙ ap (λ (l : List ℕ). l ++ 58 ∷ reads.field) (line_is_text game reads.line view reads.line_is);
      action_text = reads.action_is;
    }

-- the newest hand, of which the seat has a view
pub record IsOfNewest (hands : List Hand) (view : View) : Type 0 where
  pub newest : Hand
  pub earlier : List Hand
  pub hands_are : hands ≡ newest ∷ earlier
  pub hand_is : view.hand ≡ length earlier
  pub past_is : view.past ≡ newest.past

pub of_newest : (game : Game) (hands : List Hand) (seat : ℕ) (view : View) → seat_view game hands seat ≡ Some view → IsOfNewest hands view
of_newest game [] seat view current = absurd (let e : ◌≡◌ {A = Option View} None (Some view) = current in cc)
of_newest game (newest ∷ earlier) seat view current =
    let same : view_of game (position_of game.players (length earlier) seat) (length earlier) newest ≡ view = cc in
    record {
      newest = newest;
      earlier = earlier;
      hands_are = refl;
      hand_is = ap (λ (v : View). v.hand) (sym same);
      past_is = ap (λ (v : View). v.past) (sym same);
    }

-- where somebody is to act, the betting isn't over
not_over : (game : Game) (past : List Turn) (position : ℕ) → to_act game past ≡ Some position → over game past ≡ false
unfolding to_act
not_over game past position turn =
    let split : (b : Bool) → over game past ≡ b → b ≡ false = λ b e. elim b as (λ v. over game past ≡ v → v ≡ false) [ true ↦ λ e. absurd (let clash : ◌≡◌ {A = Option ℕ} None (Some position) = rw (e, to_act) at turn in cc) | false ↦ λ e. refl ] e in
    split (over game past) refl

-- a seat's act fits the table
pub act_fits : (game : Game) (count : ℕ) (hands : List Hand) (seat : ℕ) (text : List ℕ) (hand index : ℕ) (action : Action)
    → length hands ≤ count → SaysAct game hands seat text hand index action → Fits game count hands (Act hand index action)
act_fits game count [] seat text hand index action most says = let at = of_newest game [] seat says.view says.echoes.current in absurd (let e : ◌≡◌ {A = List Hand} [] (at.newest ∷ at.earlier) = at.hands_are in cc)
act_fits game count (newest ∷ earlier) seat text hand index action most says =
    let at = of_newest game (newest ∷ earlier) seat says.view says.echoes.current in
    let is : ◌≡◌ {A = List Hand} (newest ∷ earlier) (at.newest ∷ at.earlier) = at.hands_are in
    let same_hand : newest ≡ at.newest = cc in
    let same_earlier : earlier ≡ at.earlier = cc in
    let past : says.view.past ≡ newest.past = at.past_is ∙ ap (λ (h : Hand). h.past) (sym same_hand) in
    let number : says.view.hand ≡ length earlier = at.hand_is ∙ ap length (sym same_earlier) in
    let turn : to_act game (turns game newest.past) ≡ Some says.view.position = ap (λ (p : List Action). to_act game (turns game p)) (sym past) ∙ says.turn in
    let runs : is_finished game newest ≡ false = not_over game (turns game newest.past) says.view.position turn in
    let counted : finished_count game (newest ∷ earlier) ≡ finished_count game earlier = rw runs refl in
    record {
      goes_on = omega (arith, counted, count_by-le-length (is_finished game) earlier, most);
      runs = runs;
      same_hand = says.same_hand ∙ number;
      next_index = says.next_index ∙ ap length past;
      allowed = rw past at says.allowed;
    }

-- an action that is allowed, behind the line that the seat has now
pub says_act : (game : Game) (hands : List Hand) (seat : ℕ) (text : List ℕ) (view : View) (action : Action) (hand index : ℕ)
    → AnswerReadsAs game text (Ok (view, action)) → seat_view game hands seat ≡ Some view → to_act game (turns game view.past) ≡ Some view.position
    → AllowedWithoutFault → fault_of game (turns game view.past) action ≡ None → hand ≡ view.hand → index ≡ length view.past
    → SaysAct game hands seat text hand index action
says_act game hands seat text view action hand index reads current turn law faultless same_hand next_index = record {
  view = view;
  echoes = echoes_now game hands seat text view action reads current;
  turn = turn;
  allowed = (law game (turns game view.past) action).1 faultless;
  same_hand = same_hand;
  next_index = next_index;
}

-- what is said fits the table, and so its numbers are in their ranges
pub said_in_range : (table : Match) (answer : Option (Result Said SessionFault)) → ((command : Command) → Fits table.game table.count table.hands command → IsInRange command)
    → IfSome answer (λ said. IfOk said (λ s. SaidFits table s)) → IfSome answer (λ said. IfOk said (λ s. IsSaidInRange s))
said_in_range table None range fits = tt
said_in_range table (Some (Err fault)) range fits = tt
said_in_range table (Some (Ok Ready)) range fits = tt
said_in_range table (Some (Ok (Says command))) range fits = range command fits
