-- What a seat's line says at a table: each line has one meaning, by the first test that it fails.
use Rattle.std.specs.Prelude.{◌≡◌, ◌≢◌, ℕ, List, ◌∷◌, ◌++◌, length, Some, Result, Ok, Err}
use Rattle.game_def.specs.Game.{Game}
use Rattle.betting.specs.declared.action.Action.{Action}
use Rattle.betting.specs.Rounds.{turns, to_act}
use Rattle.betting.specs.Legal.{CanAct, fault_of}
use Rattle.slot_log.specs.Hand.{Hand, Match}
use Rattle.slot_log.specs.Dealer.{Fits}
use Rattle.slot_log.specs.Range.{IsInRange}
use Rattle.slot_log.specs.declared.command.Command.TheVariants.{Deal, Act as Acts, Away}
use Rattle.matchstate.specs.ActionText.{IsActionText}
use Rattle.matchstate.specs.Answer.{AnswerReadsAs}
use Rattle.matchstate.specs.Line.{line_text}
use Rattle.matchstate.specs.View.{View, seat_view}
use Rattle.seat_session.specs.Version.{IsVersion}
use Rattle.seat_session.specs.declared.phase.Phase.{Phase}
use Rattle.seat_session.specs.declared.phase.Phase.TheVariants.{Greeting, Ready as InPlay, Closed}
use Rattle.seat_session.specs.declared.said.Said.{Said}
use Rattle.seat_session.specs.declared.said.Said.TheVariants.{Ready, Act}
use Rattle.seat_session.specs.declared.session_fault.SessionFault.{SessionFault}
use Rattle.seat_session.specs.declared.session_fault.SessionFault.TheVariants.{BadVersion, LineTooLong, Malformed, NotCurrent, NotYourTurn, Illegal}

-- the first line: it names the version, or it closes the session
abbrev pub Greets : List ℕ → Result Said SessionFault → Type 0
Greets text (Ok Ready) = IsVersion text
Greets text (Ok (Act command)) = ⊥
Greets text (Err BadVersion) = ¬ (IsVersion text)
Greets text (Err fault) = ⊥

-- the text is an answer, and its line is the one that the seat has now: `line_text` of its view, `:` and an action's text
pub record Echoes (game : Game) (hands : List Hand) (seat : ℕ) (text : List ℕ) (view : View) (action : Action) : Type 0 where
  pub reads : AnswerReadsAs game text (Ok (view, action))
  pub current : seat_view game hands seat ≡ Some view
  pub field : List ℕ
  pub whole : text ≡ line_text view ++ 58 ∷ field
  pub action_text : IsActionText game (turns game view.past) field action

-- the view's position is to act
abbrev pub IsTurn : Game → View → Type 0
IsTurn game view = to_act game (turns game view.past) ≡ Some view.position

-- an answer of the seat whose turn it is, and the command of its allowed action
pub record SaysAct (game : Game) (hands : List Hand) (seat : ℕ) (text : List ℕ) (hand index : ℕ) (action : Action) : Type 0 where
  pub view : View
  pub echoes : Echoes game hands seat text view action
  pub turn : IsTurn game view
  pub allowed : CanAct game (turns game view.past) action
  pub same_hand : hand ≡ view.hand
  pub next_index : index ≡ length view.past

-- a line of the game: an act, or the first fault in this order
abbrev pub Plays : Game → List Hand → ℕ → List ℕ → Result Said SessionFault → Type 0
Plays game hands seat text (Ok Ready) = ⊥
Plays game hands seat text (Ok (Act (Deal hand deal))) = ⊥
Plays game hands seat text (Ok (Act (Away hand index))) = ⊥
Plays game hands seat text (Ok (Act (Acts hand index action))) = SaysAct game hands seat text hand index action
Plays game hands seat text (Err BadVersion) = ⊥
Plays game hands seat text (Err LineTooLong) = ⊥
Plays game hands seat text (Err (Malformed fault)) = AnswerReadsAs game text (Err fault)
Plays game hands seat text (Err NotCurrent) =
    (view : View) × (action : Action) × AnswerReadsAs game text (Ok (view, action)) × (seat_view game hands seat ≢ Some view)
Plays game hands seat text (Err NotYourTurn) =
    (view : View) × (action : Action) × Echoes game hands seat text view action × ¬ (IsTurn game view)
Plays game hands seat text (Err (Illegal fault)) =
    (view : View) × (action : Action) × Echoes game hands seat text view action × IsTurn game view
    × (fault_of game (turns game view.past) action ≡ Some fault)

-- what a line says, by what the session waits for
abbrev pub Says : Game → List Hand → ℕ → Phase → List ℕ → Result Said SessionFault → Type 0
Says game hands seat Greeting text said = Greets text said
Says game hands seat InPlay text said = Plays game hands seat text said
Says game hands seat (Closed fault) text said = ⊥

-- a command that is given fits the table: it takes effect there
abbrev pub SaidFits : Match → Said → Type 0
SaidFits table Ready = Unit {0}
SaidFits table (Act command) = Fits table.game table.count table.hands command

-- its numbers are within the ranges of every match, and so of frames: its hand below 10000, its index below 256, the amount of a raise at most 2147483647
abbrev pub IsSaidInRange : Said → Type 0
IsSaidInRange Ready = Unit {0}
IsSaidInRange (Act command) = IsInRange command
