-- What is written to those who ask, call by call.
use Rattle.std.specs.Prelude.{◌≡◌, ◌≢◌, ◌⊎◌, ℕ, ◌<◌, ◌≤◌, nat_lt, Bool, true, false, List, [], ◌∷◌, ◌++◌, take, length, Result, Ok, Err}
use Rattle.std.specs.declared.alloc.AllocError.{AllocError}
use Rattle.node_wires.specs.declared.line.Line.{Line}
use Rattle.node_wires.specs.declared.line.Line.TheVariants.{Peer, Caller, Seat, Guest, Asker as AskerAt}
use Rattle.node_wires.specs.declared.limits.TheConstants.{ASKERS}
use Rattle.node_wires.specs.Passages.{Passage, Began, Came, Wrote, Gave, Logged, Tried, Ended, Closed, Saw, Waited, Called, came_over, wrote_over, seats_in, logged_in}
use Rattle.node_status.specs.declared.asker.Asker.{Asker}
use Rattle.node_status.specs.Given.{Given, given_at, come_at, with_line, IsServed}

-- what was written to one who asks is a beginning of the line that he was given
abbrev pub IsAnswered : List Passage → ℕ → Given → Type 0
IsAnswered passed place g = wrote_over passed (AskerAt place) ≡ take g.written g.line

abbrev pub AreAnswered : List Passage → List Asker → Type 0
AreAnswered passed askers = (place : ℕ) → IsAnswered passed place (given_at askers place)

abbrev pub is_asker : Line → Bool
is_asker (AskerAt place) = true
is_asker (Peer number) = false
is_asker (Caller place) = false
is_asker (Seat number) = false
is_asker (Guest place) = false

-- one who asks came, was written to, perhaps in vain, or let go of: nothing is read of him, and it isn't waited for him
abbrev pub IsOfAskers : Passage → Type 0
IsOfAskers (Began line) = is_asker line ≡ true
IsOfAskers (Came line bytes) = ⊥
IsOfAskers (Wrote line bytes) = is_asker line ≡ true
IsOfAskers (Gave place seat) = ⊥
IsOfAskers (Logged text) = ⊥
IsOfAskers (Tried line way) = is_asker line ≡ true
IsOfAskers (Ended line way) = is_asker line ≡ true
IsOfAskers (Closed line) = is_asker line ≡ true
IsOfAskers (Saw moment) = ⊥
IsOfAskers (Waited most) = ⊥
IsOfAskers Called = ⊥

abbrev pub AreOfAskers : List Passage → Type 0
AreOfAskers [] = Unit {0}
AreOfAskers (p ∷ more) = IsOfAskers p × AreOfAskers more

-- over no line of others anything passed, and the log got nothing
pub record KeepsOthers (old new : List Passage) : Type 0 where
  pub more : List Passage
  pub passed : new ≡ old ++ more
  pub of_askers : AreOfAskers more
  pub wrote : (line : Line) → is_asker line ≡ false → wrote_over new line ≡ wrote_over old line
  pub came : (line : Line) → is_asker line ≡ false → came_over new line ≡ came_over old line
  pub seats : seats_in new ≡ seats_in old
  pub log : logged_in new ≡ logged_in old

-- some of his line was written to the one at this place, or nothing, and to no other
pub record Writes (place : ℕ) (before after : Given) (old new : List Passage) : Type 0 where
  pub others : KeepsOthers old new
  pub answered : IsAnswered old place before → IsAnswered new place after
  pub elsewhere : (other : ℕ) → other ≢ place → wrote_over new (AskerAt other) ≡ wrote_over old (AskerAt other)
  pub since : after.since ≡ before.since
  pub line : after.line ≡ before.line

-- one came to this place, who has no line yet, and at the others is who was there
pub record Comes (now place : ℕ) (before after : List Asker) : Type 0 where
  pub here : place < length before → given_at after place ≡ come_at now
  pub beyond : length before ≤ place → given_at after place ≡ given_at before place
  pub others : (other : ℕ) → other ≢ place → given_at after other ≡ given_at before other

-- who comes where there is no place for him is let go of
abbrev pub closed_by : Bool → ℕ → List Passage
closed_by true place = []
closed_by false place = Closed (AskerAt place) ∷ []

abbrev pub arrived : List Asker → ℕ → List Passage
arrived before place = Began (AskerAt place) ∷ closed_by (nat_lt place (length before)) place

-- these came one after another, each to his place, and nothing else changed
abbrev pub Arrivals : ℕ → List ℕ → List Asker → List Asker → List Passage → List Passage → Type 0
Arrivals now [] before after old new = (new ≡ old) × (after ≡ before)
Arrivals now (place ∷ more) before after old new = (between : List Asker) × (Comes now place before between × Arrivals now more between after (old ++ arrived before place) new)

-- so many came at most
pub record Accepts (now most : ℕ) (before after : List Asker) (old new : List Passage) : Type 0 where
  pub places : List ℕ
  pub within : length places ≤ most
  pub arrivals : Arrivals now places before after old new
  pub others : KeepsOthers old new
  pub answered : AreAnswered old before → AreAnswered new after

-- who waits has the line; where memory was refused he may wait further
abbrev pub IsGiven : List ℕ → Result Unit AllocError → Given → Given → Type 0
IsGiven line (Ok done) before after = after ≡ with_line line before
IsGiven line (Err refused) before after = (after ≡ before) ⊎ (after ≡ with_line line before)

-- the one at this place was given the line, and the others weren't
pub record Gives (place : ℕ) (line : List ℕ) (result : Result Unit AllocError) (before after : List Asker) : Type 0 where
  pub given : IsGiven line result (given_at before place) (given_at after place)
  pub others : (other : ℕ) → other ≢ place → given_at after other ≡ given_at before other

pub record Answers (line : List ℕ) (result : Result Unit AllocError) (before after : List Asker) : Type 0 where
  pub given : (place : ℕ) → place < ASKERS → IsGiven line result (given_at before place) (given_at after place)
  pub answered : (passed : List Passage) → AreAnswered passed before → AreAnswered passed after

-- some of his line was written to the one at this place, or nothing; and he is let go of where he has all of it or took too long
pub record Serves (now place : ℕ) (before after : List Asker) (old new : List Passage) : Type 0 where
  pub wrote : Writes place (given_at before place) (given_at after place) old new
  pub served : IsServed now (given_at after place)
  pub others : (other : ℕ) → other ≢ place → given_at after other ≡ given_at before other

pub record Flushes (now : ℕ) (before after : List Asker) (old new : List Passage) : Type 0 where
  pub others : KeepsOthers old new
  pub answered : AreAnswered old before → AreAnswered new after
  pub lines : (place : ℕ) → (given_at after place).line ≡ (given_at before place).line
  pub served : (place : ℕ) → place < ASKERS → IsServed now (given_at after place)
