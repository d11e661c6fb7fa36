-- By how much turns of a process come later than they were to. Times are in microseconds.
use Rattle.std.specs.Prelude.{ℕ, suc, ◌+◌, ◌-◌, ◌≤◌, min, max, if◌then◌else◌, nat_lt, List, [], ◌∷◌}
use Rattle.clockwork.specs.declared.lateness.Lateness.{Lateness}
use Rattle.clockwork.specs.declared.lateness.LateTurn.{LateTurn}
use Rattle.clockwork.specs.declared.limits.TheConstants.{STRETCH}

-- no turn has come
abbrev pub punctual : Lateness
punctual = record { begun = 0; newest = 0; before = 0 }

-- a turn came so much later: by it a stretch begins where the one before is over
abbrev pub late_after : Lateness → (late now : ℕ) → Lateness
late_after lateness late now =
    if nat_lt (now - lateness.begun) STRETCH then record lateness { newest = max lateness.newest late }
    else record { begun = now; newest = late; before = lateness.newest }

-- of two stretches in a row the lesser
abbrev pub counted_of : Lateness → ℕ
counted_of lateness = min lateness.newest lateness.before

-- ---- what counts

-- turns the newest first
abbrev pub late_behind : List LateTurn → Lateness
late_behind [] = punctual
late_behind (turn ∷ earlier) = late_after (late_behind earlier) turn.late turn.at

-- of how many turns it was more than this
abbrev pub later_than : ℕ → List LateTurn → ℕ
later_than most [] = 0
later_than most (turn ∷ earlier) = if nat_lt most turn.late then suc (later_than most earlier) else later_than most earlier

-- one that was later than all others counts for nothing: neither one hang nor one sleep of the machine makes anything longer
abbrev pub OneCountsForNothing : List LateTurn → ℕ → Type 0
OneCountsForNothing turns most = later_than most turns ≤ 1 → counted_of (late_behind turns) ≤ most

-- each was so late, none came before one that is behind it in the list, and the last of the list came a stretch before this moment
abbrev pub AreLate : List LateTurn → (least now : ℕ) → Type 0
AreLate [] least now = ⊥
AreLate (turn ∷ []) least now = (least ≤ turn.late) × (turn.at + STRETCH ≤ now)
AreLate (turn ∷ (next ∷ earlier)) least now = (least ≤ turn.late) × ((next.at ≤ turn.at) × AreLate (next ∷ earlier) least now)

-- where all turns of a stretch were so late, and one behind it is, that counts
abbrev pub LateOnesCount : LateTurn → List LateTurn → ℕ → Type 0
LateOnesCount turn earlier least = AreLate earlier least turn.at → least ≤ turn.late → least ≤ counted_of (late_behind (turn ∷ earlier))
