-- What holds of the answers of every session.
use Rattle.std.specs.Prelude.{◌≡◌, ℕ, false, List, [], ◌∷◌, ◌++◌, Option, Some, None, Result, Ok}
use Rattle.game_def.specs.Game.{Game, IsGame}
use Rattle.slot_log.specs.Hand.{Hand}
use Rattle.seat_session.specs.Lines.{HasNoFeed, text_of}
use Rattle.seat_session.specs.Skipped.{on_stream, Skips}
use Rattle.seat_session.specs.Saying.{Says}
use Rattle.seat_session.specs.Session.{Standing, fresh, with_piece, is_closed, Answers}
use Rattle.seat_session.specs.declared.said.Said.{Said}
use Rattle.seat_session.specs.declared.session_fault.SessionFault.{SessionFault}

-- ---- one answer

-- what waits and the hands of a table have one answer, and it leaves the session in one standing
abbrev pub OneAnswer : Type 0
OneAnswer = (game : Game) (hands : List Hand) (seat : ℕ) (old : Standing) (answer other : Option (Result Said SessionFault)) (new next : Standing) → IsGame game
    → Answers game hands seat old answer new → Answers game hands seat old other next → (answer ≡ other) × (new ≡ next)

-- ---- any pieces

-- what becomes of a session, in order: a piece comes, or it is asked and answers by the hands of that time
pub data Event : Type 0 where
  fed : (piece : List ℕ) → Event
  asked : (hands : List Hand) (answer : Option (Result Said SessionFault)) → Event

-- the pieces that came, joined
abbrev pub joined : List Event → List ℕ
joined [] = []
joined (fed piece ∷ events) = piece ++ joined events
joined (asked hands answer ∷ events) = joined events

-- an answer, with the hands of its time
pub record Given : Type 0 where
  pub hands : List Hand
  pub said : Result Said SessionFault

-- the answers that it gave, but for those that say that there is none yet
abbrev pub given : List Event → List Given
given [] = []
given (fed piece ∷ events) = given events
given (asked hands None ∷ events) = given events
given (asked hands (Some said) ∷ events) = let first : Given = record { hands = hands; said = said } in first ∷ given events

-- these events lead from one standing to another
abbrev pub Happens : Game → ℕ → Standing → List Event → Standing → Type 0
Happens game seat old [] new = new ≡ old
Happens game seat old (fed piece ∷ events) new = Happens game seat (with_piece old piece) events new
Happens game seat old (asked hands answer ∷ events) new =
    (between : Standing) × Answers game hands seat old answer between × Happens game seat between events new

-- what happens first and what happens later are one list of events
abbrev pub RunsGoOn : Type 0
RunsGoOn = (game : Game) (seat : ℕ) (old : Standing) (first : List Event) (between : Standing) (later : List Event) (new : Standing)
    → Happens game seat old first between → Happens game seat between later new
    → Happens game seat old (first ++ later) new × (joined (first ++ later) ≡ joined first ++ joined later)
    × (given (first ++ later) ≡ given first ++ given later)

-- these answers follow one another, and no bytes come between them
abbrev pub Gives : Game → ℕ → Standing → List Given → Standing → Type 0
Gives game seat old [] new = new ≡ old
Gives game seat old (first ∷ more) new =
    (between : Standing) × Answers game first.hands seat old (Some first.said) between × Gives game seat between more new

-- the second stands behind lines that are skipped in the first
pub record SkipsTo (first second : Standing) : Type 0 where
  pub same_phase : first.phase ≡ second.phase
  pub skips : Skips first.waiting second.waiting

-- however the bytes are cut, the answers are those to the joined bytes
abbrev pub AnyPieces : Type 0
AnyPieces = (game : Game) (seat : ℕ) (old : Standing) (events : List Event) (new : Standing) → Happens game seat old events new
    → (last : Standing) × Gives game seat (with_piece old (joined events)) (given events) last × SkipsTo last new

-- ---- whole lines

-- a whole line stands among the bytes: at their beginning or behind a line feed, and with its own
pub record HoldsLine (bytes line : List ℕ) : Type 0 where
  pub before : List (List ℕ)
  pub behind : List ℕ
  pub whole : bytes ≡ on_stream before ++ (line ++ 10 ∷ behind)
  pub one_line : HasNoFeed line

-- what waits in a session that isn't closed is what came behind whole lines
abbrev pub IsRestOf : List ℕ → Standing → Type 0
IsRestOf bytes standing = is_closed standing.phase ≡ false → (lines : List (List ℕ)) × (bytes ≡ on_stream lines ++ standing.waiting)

-- of all bytes that came, the answers took whole lines, and what a seat said is what one of them says
pub record WholeLines : Type 0 where
  pub begun : IsRestOf [] fresh
  pub fed_more : (bytes piece : List ℕ) (standing : Standing) → IsRestOf bytes standing → IsRestOf (bytes ++ piece) (with_piece standing piece)
  pub answered : (game : Game) (hands : List Hand) (seat : ℕ) (bytes : List ℕ) (old : Standing) (answer : Option (Result Said SessionFault)) (new : Standing)
      → IsRestOf bytes old → Answers game hands seat old answer new → IsRestOf bytes new
  pub said : (game : Game) (hands : List Hand) (seat : ℕ) (bytes : List ℕ) (old : Standing) (said : Said) (new : Standing)
      → IsRestOf bytes old → Answers game hands seat old (Some (Ok said)) new
      → (line : List ℕ) × HoldsLine bytes line × Says game hands seat old.phase (text_of line) (Ok said)
