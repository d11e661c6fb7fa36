-- How many notes a process writes in a second: what came, what was told of it, and what waits to be told.
use Rattle.std.specs.Prelude.{◌≡◌, ℕ, ◌+◌, ◌-◌, ◌^◌, ◌<◌, ◌≤◌, ◌==◌, ◌&&◌, max, nat_lt, nat_le, Bool, true, false, cond, List, length, get_or}
use Rattle.std.specs.List.{sum_by, count_by, filter, fold}
use Rattle.node_runs.specs.NoteGroups.{is_outside, most_of, room_of}
use Rattle.node_runs.specs.declared.note_limits.Count.{Count}
use Rattle.node_runs.specs.declared.note_limits.NoteLimits.{NoteLimits}

-- a second, in microseconds
abbrev pub second : ℕ
second = 1000000

-- the latest of these moments and of one before them
abbrev pub latest : ℕ → List ℕ → ℕ
latest first moments = fold max first moments

-- whether it is of this group
abbrev pub is_of : ℕ → Count → Bool
is_of group one = one.group == group

-- whether it is of a group of which fewer than 50 lines may be told in a second
abbrev pub is_low : Count → Bool
is_low one = is_outside one.group

-- how many they are of a group, in all
abbrev pub sum_of : ℕ → List Count → ℕ
sum_of group counts = sum_by (λ one. cond (is_of group one) one.count 0) counts

-- whether it was in the second that begins then
abbrev pub is_within : ℕ → Count → Bool
is_within start one = nat_le start one.time && nat_lt one.time (start + second)

-- how many of these lines were told in the second that begins then
abbrev pub lines_within : ℕ → (Count → Bool) → List Count → ℕ
lines_within start which told = count_by (λ one. which one && is_within start one) told

-- in any second so many of these lines were told at most
abbrev pub IsAtMost : ℕ → (Count → Bool) → List Count → Type 0
IsAtMost most which told = (start : ℕ) → lines_within start which told ≤ most

-- whether it was told less than a second before
abbrev pub is_recent : ℕ → Count → Bool
is_recent clock one = nat_lt (clock - one.time) second

-- how many wait to be told of a group
abbrev pub waiting_at : NoteLimits → ℕ → ℕ
waiting_at limits group = get_or limits.waiting group 0

-- whether one more line of a group may be told, where these were told in the last second
abbrev pub has_room : List Count → ℕ → Bool
has_room recent group = nat_lt (length recent) (room_of group) && nat_lt (count_by (is_of group) recent) (most_of group)

-- whether something waits of a group of which a line may be told now
abbrev pub has_due : NoteLimits → ℕ → Bool
has_due limits group = nat_lt 0 (waiting_at limits group) && has_room limits.recent.items group

-- so many of a group at this time
abbrev pub counted_at : ℕ → ℕ → ℕ → Count
counted_at time group count = record { time = time; group = group; count = count }

-- what came and what was told of it, line by line, so that this is known of the last second, and waits
pub record IsAccount (came told : List Count) (limits : NoteLimits) : Type 0 where
  pub recent : limits.recent.items ≡ filter (is_recent limits.clock) told
  -- in any second 50 lines at most, of seats and callers together 40, and of each group as many as it may have
  pub all : IsAtMost 50 (λ _. true) told
  pub low : IsAtMost 40 is_low told
  pub each : (group : ℕ) → IsAtMost (most_of group) (is_of group) told
  -- of each group all that came was told or waits; what waits is counted as far as eight bytes hold
  pub least : (group : ℕ) → sum_of group told + waiting_at limits group ≤ sum_of group came
  pub exact : (group : ℕ) → sum_of group came < 2 ^ 64 → sum_of group told + waiting_at limits group ≡ sum_of group came

-- what came and what was told of it: in lines that are so far apart, and in the lines of what was left when no more came
pub record IsWhole (came told rest : List Count) : Type 0 where
  pub all : IsAtMost 50 (λ _. true) told
  pub low : IsAtMost 40 is_low told
  pub each : (group : ℕ) → IsAtMost (most_of group) (is_of group) told
  pub exact : (group : ℕ) → sum_of group came < 2 ^ 64 → sum_of group told + sum_of group rest ≡ sum_of group came
  -- one line at most was left of a group
  pub few : (group : ℕ) → count_by (is_of group) rest ≤ 1

-- a note of a group that comes at this time, behind these, is told at once exactly where nothing of its group waits and there is room for a line of it
abbrev pub IsAtOnce : (came told : List Count) → (time group : ℕ) → Bool → Type 0
IsAtOnce came told time group is_told = sum_of group came < 2 ^ 64 → is_told ≡ (sum_of group told == sum_of group came && has_room (filter (is_recent time) told) group)

-- of no group of which something waits, by what came and what was told, a line may be told at this time
abbrev pub IsNoneDue : (came told : List Count) → (time : ℕ) → Type 0
IsNoneDue came told time = (group : ℕ) → sum_of group came < 2 ^ 64 → sum_of group told < sum_of group came → has_room (filter (is_recent time) told) group ≡ false
