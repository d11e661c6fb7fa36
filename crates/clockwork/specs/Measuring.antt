-- The longest of what was measured in the last minute. Times are in microseconds.
use Rattle.std.specs.Prelude.{ℕ, ◌+◌, ◌-◌, ◌*◌, ◌≤◌, ◌<◌, max, if◌then◌else◌, nat_lt, List, [], ◌∷◌}
use Rattle.clockwork.specs.declared.longest.Longest.{Longest}
use Rattle.clockwork.specs.declared.longest.Measure.{Measure}
use Rattle.clockwork.specs.declared.limits.TheConstants.{PART}

-- nothing was measured
abbrev pub fresh : Longest
fresh = record { begun = 0; newest = 0; middle = 0; oldest = 0 }

-- at a later moment: each part that has ended moves on, and the oldest is forgotten
abbrev pub moved_on : Longest → ℕ → Longest
moved_on parts now =
    if nat_lt (now - parts.begun) PART then parts
    else if nat_lt (now - parts.begun) (2 * PART) then record { begun = parts.begun + PART; newest = 0; middle = parts.newest; oldest = parts.middle }
    else if nat_lt (now - parts.begun) (3 * PART) then record { begun = parts.begun + 2 * PART; newest = 0; middle = 0; oldest = parts.newest }
    else record { begun = now; newest = 0; middle = 0; oldest = 0 }

-- so long was measured now
abbrev pub noted_in : Longest → ℕ → Longest
noted_in parts length = record parts { newest = max parts.newest length }

abbrev pub noted : Longest → (length now : ℕ) → Longest
noted parts length now = noted_in (moved_on parts now) length

-- the longest of all parts
abbrev pub longest_in : Longest → ℕ
longest_in parts = max parts.newest (max parts.middle parts.oldest)

abbrev pub lately : Longest → ℕ → ℕ
lately parts now = longest_in (moved_on parts now)

-- ---- what counts

-- of measures the newest first
abbrev pub noted_all : List Measure → Longest
noted_all [] = fresh
noted_all (measure ∷ earlier) = noted (noted_all earlier) measure.length measure.at

-- none was taken later than one before it in the list, nor than this moment
abbrev pub AreInOrder : List Measure → ℕ → Type 0
AreInOrder [] now = Unit {0}
AreInOrder (measure ∷ earlier) now = (measure.at ≤ now) × AreInOrder earlier measure.at

-- each that was taken so lately is no longer than this
abbrev pub AreWithin : List Measure → (now age most : ℕ) → Type 0
AreWithin [] now age most = Unit {0}
AreWithin (measure ∷ earlier) now age most = (now - measure.at < age → measure.length ≤ most) × AreWithin earlier now age most

-- all of the last minute count, and none that is half a minute older: what was measured counts for a minute, and is then forgotten
abbrev pub CountForAMinute : List Measure → ℕ → Type 0
CountForAMinute measures now =
    AreInOrder measures now → AreWithin measures now (2 * PART + 1) (lately (noted_all measures) now) × ((most : ℕ) → AreWithin measures now (3 * PART) most → lately (noted_all measures) now ≤ most)
