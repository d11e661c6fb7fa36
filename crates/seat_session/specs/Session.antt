-- The answers of a session, by cases on what a seat sent.
use Rattle.std.specs.Prelude.{◌≡◌, ℕ, ◌⊎◌, Bool, true, false, List, [], ◌++◌, if◌then◌else◌, Option, Some, None, Result, Ok, Err}
use Rattle.game_def.specs.Game.{Game}
use Rattle.slot_log.specs.Hand.{Hand}
use Rattle.seat_session.specs.Lines.{BeginsWith, IsPartial, IsOverlong, text_of}
use Rattle.seat_session.specs.Skipped.{Skips, is_skipped}
use Rattle.seat_session.specs.Saying.{Says}
use Rattle.seat_session.specs.declared.phase.Phase.{Phase}
use Rattle.seat_session.specs.declared.phase.Phase.TheVariants.{Greeting, Ready, Closed}
use Rattle.seat_session.specs.declared.said.Said.{Said}
use Rattle.seat_session.specs.declared.session_fault.SessionFault.{SessionFault}
use Rattle.seat_session.specs.declared.session_fault.SessionFault.TheVariants.{LineTooLong}
use Rattle.seat_session.specs.Fault.{closes}

-- where a session stands: what it waits for, and the bytes that no answer took yet
pub record Standing : Type 0 where
  pub phase : Phase
  pub waiting : List ℕ

-- a session: whose it is, where it stands, and how many more bytes may come without taking memory
pub record Conversation : Type 0 where
  pub seat : ℕ
  pub standing : Standing
  pub room : ℕ

-- a new session waits for the version
abbrev pub fresh : Standing
fresh = record { phase = Greeting; waiting = [] }

-- this fault closed it, and it keeps nothing
abbrev pub closed_by : SessionFault → Standing
closed_by fault = record { phase = Closed fault; waiting = [] }

-- the version was named
abbrev pub is_ready : Phase → Bool
is_ready Greeting = false
is_ready Ready = true
is_ready (Closed fault) = false

-- a fault closed it
abbrev pub is_closed : Phase → Bool
is_closed Greeting = false
is_closed Ready = false
is_closed (Closed fault) = true

-- the next piece stands behind what waits; a closed session keeps nothing of it
abbrev pub with_piece : Standing → List ℕ → Standing
with_piece standing piece =
    elim standing.phase [
      | Greeting ↦ record standing { waiting = standing.waiting ++ piece }
      | Ready ↦ record standing { waiting = standing.waiting ++ piece }
      | Closed fault ↦ standing
    ]

-- where it stands after a line: ready for what stands behind it, but the first two faults close it
abbrev pub after_line : Result Said SessionFault → List ℕ → Standing
after_line (Ok said) behind = record { phase = Ready; waiting = behind }
after_line (Err fault) behind = if closes fault then closed_by fault else record { phase = Ready; waiting = behind }

-- nothing yet: behind the lines that are skipped there is no whole line, and nothing that is too long
pub record Waits (old new : Standing) : Type 0 where
  pub skips : Skips old.waiting new.waiting
  pub partial : IsPartial new.waiting
  pub same_phase : new.phase ≡ old.phase

-- too long: 4097 bytes without a line feed stand in front
pub record IsTooLong (stream : List ℕ) (said : Result Said SessionFault) : Type 0 where
  pub front : List ℕ
  pub more : List ℕ
  pub overlong : IsOverlong stream front more
  pub fault : said ≡ Err LineTooLong

-- a whole line stands in front, and says this
pub record LineSays (game : Game) (hands : List Hand) (seat : ℕ) (phase : Phase) (stream : List ℕ) (said : Result Said SessionFault) : Type 0 where
  pub line : List ℕ
  pub behind : List ℕ
  pub begins : BeginsWith stream line behind
  pub says : Says game hands seat phase (text_of line) said

-- what stands in front says this
abbrev pub FrontSays : Game → List Hand → ℕ → Phase → List ℕ → Result Said SessionFault → Type 0
FrontSays game hands seat phase stream said = IsTooLong stream said ⊎ LineSays game hands seat phase stream said

-- too long behind the lines that are skipped: the session is closed
pub record Overflows (old : Standing) (said : Result Said SessionFault) (new : Standing) : Type 0 where
  pub rest : List ℕ
  pub skips : Skips old.waiting rest
  pub too_long : IsTooLong rest said
  pub closed : new ≡ closed_by LineTooLong

-- a line behind those that are skipped says this: the session goes on behind it, or is closed
pub record Hears (game : Game) (hands : List Hand) (seat : ℕ) (old : Standing) (said : Result Said SessionFault) (new : Standing) : Type 0 where
  pub rest : List ℕ
  pub skips : Skips old.waiting rest
  pub line : LineSays game hands seat old.phase rest said
  pub counts : is_skipped (text_of line.line) ≡ false
  pub after : new ≡ after_line said line.behind

-- the answer of a session that isn't closed
abbrev pub AnswersOpen : Game → List Hand → ℕ → Standing → Option (Result Said SessionFault) → Standing → Type 0
AnswersOpen game hands seat old None new = Waits old new
AnswersOpen game hands seat old (Some said) new = Overflows old said new ⊎ Hears game hands seat old said new

-- the answer to what waits, and where the session then stands; a closed one answers its fault from then on
abbrev pub Answers : Game → List Hand → ℕ → Standing → Option (Result Said SessionFault) → Standing → Type 0
Answers game hands seat old answer new =
    elim old.phase [
      | Greeting ↦ AnswersOpen game hands seat old answer new
      | Ready ↦ AnswersOpen game hands seat old answer new
      | Closed fault ↦ (answer ≡ Some (Err fault)) × (new ≡ old)
    ]
