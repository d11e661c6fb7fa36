-- How it is told that what a seat sent was refused.
use Rattle.std.specs.Prelude.{◌≡◌, ◌⊎◌, ℕ, Bool, true, false, List, [], ◌∷◌, ◌++◌, Option, Ok, Err}
use Rattle.std.specs.Io.KnownBytes.{Keeps}
use Rattle.game_def.specs.Game.{Game}
use Rattle.betting.specs.declared.action.Action.{Action}
use Rattle.matchstate.specs.View.{View as Sight}
use Rattle.matchstate.specs.Answer.{IsCut, AnswerReadsAs}
use Rattle.matchstate.specs.declared.line_fault.LineFault.{LineFault}
use Rattle.seat_session.specs.Lines.{text_of}
use Rattle.seat_session.specs.declared.session_fault.SessionFault.{SessionFault}
use Rattle.seat_session.specs.declared.session_fault.SessionFault.TheVariants.{NotCurrent, NotYourTurn, Illegal}
use Rattle.dealer_node.specs.declared.seat_fault.SeatFault.{SeatFault}
use Rattle.dealer_world.specs.Records.{Record}
use Rattle.dealer_world.specs.Stepping.{View}
use Rattle.operator_notes.specs.Notes.{AreNoted, faulty_text, refused_text}
use Rattle.match_runs.specs.Notes.{names_in, seat_lines}
use Rattle.match_runs.specs.SeatLines.{IsLate}

-- ---- what a piece says

-- the piece is a line with its end, and this is what the line says
pub record IsOneLine (piece text : List ℕ) : Type 0 where
  pub line : List ℕ
  pub ended : piece ≡ line ++ 10 ∷ []
  pub is_text : text ≡ text_of line

-- the piece is an answer in a hand of this number: a line that is sent back, and what the player does
pub record Answers (game : Game) (piece : List ℕ) (hand : ℕ) (line action : List ℕ) : Type 0 where
  pub text : List ℕ
  pub one_line : IsOneLine piece text
  pub cut : IsCut text line action
  pub sight : Sight
  pub act : Action
  pub reads : AnswerReadsAs game text (Ok (sight, act))
  pub of_hand : hand ≡ sight.hand

-- the piece is none: it isn't one line, or that reads as a fault
abbrev pub AnswersNothing : Game → List ℕ → Type 0
AnswersNothing game piece = (text : List ℕ) → IsOneLine piece text → (fault : LineFault) × AnswerReadsAs game text (Err fault)

-- ---- what is told

-- the faults of a line that reads as an answer
abbrev pub is_of_answer : SessionFault → Bool
is_of_answer NotCurrent = true
is_of_answer NotYourTurn = true
is_of_answer (Illegal why) = true
is_of_answer other = false

-- that it came late is told of a line that isn't the current one, and of nothing else
abbrev pub IsToldLate : Record → ℕ → ℕ → List ℕ → SessionFault → Bool → Type 0
IsToldLate all seat node line NotCurrent late = IsLate all seat node line late
IsToldLate all seat node line other late = late ≡ false

-- a fault in this piece, which a seat sent to a node: of a refused answer its hand, what the player does, the fault, and whether it came late;
-- else the fault alone
pub data IsTold (game : Game) (all : Record) (piece : List ℕ) (node seat : ℕ) (fault : SessionFault) (text : List ℕ) : Type 0 where
  answer : (hand : ℕ) (line action : List ℕ) (late : Bool) → is_of_answer fault ≡ true → Answers game piece hand line action → IsToldLate all seat node line fault late
      → text ≡ refused_text node hand action fault late → IsTold game all piece node seat fault text
  alone : (is_of_answer fault ≡ false) ⊎ AnswersNothing game piece → text ≡ faulty_text node fault → IsTold game all piece node seat fault text

-- a fault was told, with its seat's name
pub record TellsFault {N : Type 0} (view : View N) (piece : List ℕ) (node : ℕ) (found : SeatFault) (held held_after : Option (List ℕ)) : Type 0 where
  pub text : List ℕ
  pub is_told : IsTold view.config.setting.game view.all piece node found.seat found.fault text
  pub noted : AreNoted (seat_lines (names_in view) found.seat text) held held_after

-- faults in this piece were told, one after another
abbrev pub TellsFaults : {N : Type 0} → View N → List ℕ → ℕ → List SeatFault → Option (List ℕ) → Option (List ℕ) → Type 0
TellsFaults view piece node [] held held_after = Keeps held held_after
TellsFaults view piece node (found ∷ faults) held held_after =
    (between : Option (List ℕ)) × TellsFault view piece node found held between × TellsFaults view piece node faults between held_after
