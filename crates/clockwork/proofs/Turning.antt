-- One late turn counts for nothing, and what all of a stretch were late by counts.
use Rattle.std.proofs.Common.{ℕ, suc, ◌≡◌, ◌⊎◌, ◌+◌, ◌-◌, ◌≤◌, List, [], ◌∷◌, inl, inr, arith}
use Rattle.std.specs.Prelude.{nat_lt}
use Rattle.std.proofs.lemmas.Bool.{cases_Bool, ltb-true, ltb-false}
use Rattle.clockwork.specs.declared.lateness.Lateness.{Lateness}
use Rattle.clockwork.specs.declared.lateness.LateTurn.{LateTurn}
use Rattle.clockwork.specs.declared.limits.TheConstants.{STRETCH}
use Rattle.clockwork.specs.LateTurns.{punctual, late_after, counted_of, late_behind, later_than, OneCountsForNothing, AreLate, LateOnesCount}

-- ---- one counts for nothing

-- where none was later both stretches are within it, and where one was one of them is
abbrev AreWithin : Lateness → (most count : ℕ) → Type 0
AreWithin lateness most count = (count ≡ 0 → (lateness.newest ≤ most) × (lateness.before ≤ most)) × (count ≤ 1 → counted_of lateness ≤ most)

punctual_one : (lateness : Lateness) (late now most count : ℕ) → late ≤ most → AreWithin lateness most count → AreWithin (late_after lateness late now) most count
punctual_one lateness late now most count short was = elim (cases_Bool (nat_lt (now - lateness.begun) STRETCH)) [
  | inl so ↦ rw so (λ none. (let both = was.0 none in (omega (arith, both.0, short), both.1)), λ one. let least = was.1 one in omega (arith, least, short))
  | inr not_so ↦ rw not_so (λ none. (let both = was.0 none in (short, both.0)), λ one. omega (arith, short))
]

late_one : (lateness : Lateness) (late now most count : ℕ) → AreWithin lateness most count → AreWithin (late_after lateness late now) most (suc count)
late_one lateness late now most count was = elim (cases_Bool (nat_lt (now - lateness.begun) STRETCH)) [
  | inl so ↦ rw so (λ none. absurd (omega arith), λ one. let both = was.0 (omega (arith, one)) in omega (arith, both.1))
  | inr not_so ↦ rw not_so (λ none. absurd (omega arith), λ one. let both = was.0 (omega (arith, one)) in omega (arith, both.0))
]

all_within : (turns : List LateTurn) (most : ℕ) → AreWithin (late_behind turns) most (later_than most turns)
all_within [] most = (λ none. (omega arith, omega arith), λ one. omega arith)
all_within (turn ∷ earlier) most = elim (cases_Bool (nat_lt most turn.late)) [
  | inl so ↦ rw so (late_one (late_behind earlier) turn.late turn.at most (later_than most earlier) (all_within earlier most))
  | inr not_so ↦ rw not_so (punctual_one (late_behind earlier) turn.late turn.at most (later_than most earlier) (ltb-false most turn.late not_so) (all_within earlier most))
]

pub one_counts_for_nothing : (turns : List LateTurn) (most : ℕ) → OneCountsForNothing turns most
one_counts_for_nothing turns most = (all_within turns most).1

-- ---- late ones count

-- the newest stretch is so late, and began a stretch before this moment, or the one before it is so late too
abbrev IsLateBy : Lateness → (least now : ℕ) → Type 0
IsLateBy lateness least now = (least ≤ lateness.newest) × ((lateness.begun + STRETCH ≤ now) ⊎ (least ≤ lateness.before))

first_late : (late at least now : ℕ) → least ≤ late → at + STRETCH ≤ now → IsLateBy (late_after punctual late at) least now
first_late late at least now long passed = elim (cases_Bool (nat_lt (at - 0) STRETCH)) [
  | inl so ↦ rw so (omega (arith, long), inl (omega (arith, passed)))
  | inr not_so ↦ rw not_so (long, inl passed)
]

next_late : (lateness : Lateness) (late at least now : ℕ) → least ≤ late → IsLateBy lateness least now → IsLateBy (late_after lateness late at) least now
next_late lateness late at least now long was = elim (cases_Bool (nat_lt (at - lateness.begun) STRETCH)) [
  | inl so ↦ rw so (omega (arith, long), was.1)
  | inr not_so ↦ rw not_so (long, inr was.0)
]

all_late : (turns : List LateTurn) (least now : ℕ) → AreLate turns least now → IsLateBy (late_behind turns) least now
all_late [] least now late = absurd late
all_late (turn ∷ []) least now late = first_late turn.late turn.at least now late.0 late.1
all_late (turn ∷ (next ∷ earlier)) least now late = next_late (late_behind (next ∷ earlier)) turn.late turn.at least now late.0 (all_late (next ∷ earlier) least now late.1.1)

last_late : (lateness : Lateness) (late at least : ℕ) → least ≤ late → IsLateBy lateness least at → least ≤ counted_of (late_after lateness late at)
last_late lateness late at least long was = elim (cases_Bool (nat_lt (at - lateness.begun) STRETCH)) [
  | inl so ↦ let few = ltb-true (at - lateness.begun) STRETCH so in elim was.1 [
    | inl past ↦ absurd (omega (arith, few, past))
    | inr before ↦ rw so (omega (arith, long, before))
  ]
  | inr not_so ↦ let newest = was.0 in rw not_so (omega (arith, long, newest))
]

pub late_ones_count : (turn : LateTurn) (earlier : List LateTurn) (least : ℕ) → LateOnesCount turn earlier least
late_ones_count turn earlier least = λ are long. last_late (late_behind earlier) turn.late turn.at least long (all_late earlier least turn.at are)
