-- What was measured counts for a minute.
use Rattle.std.proofs.Common.{ℕ, ◌+◌, ◌-◌, ◌*◌, ◌<◌, ◌≤◌, List, [], ◌∷◌, inl, inr, arith}
use Rattle.std.specs.Prelude.{max, nat_lt}
use Rattle.std.proofs.lemmas.Bool.{cases_Bool, ltb-true, ltb-false}
use Rattle.clockwork.specs.declared.longest.Longest.{Longest}
use Rattle.clockwork.specs.declared.longest.Measure.{Measure}
use Rattle.clockwork.specs.declared.limits.TheConstants.{PART}
use Rattle.clockwork.specs.Measuring.{moved_on, noted_in, noted, longest_in, lately, noted_all, AreInOrder, AreWithin, CountForAMinute}

-- each that was taken at this moment or later is no longer than so long
abbrev Since : List Measure → (begun most : ℕ) → Type 0
Since [] begun most = Unit {0}
Since (measure ∷ earlier) begun most = (begun ≤ measure.at → measure.length ≤ most) × Since earlier begun most

-- each was taken before this moment
abbrev Before : List Measure → ℕ → Type 0
Before [] ended = Unit {0}
Before (measure ∷ earlier) ended = (measure.at < ended) × Before earlier ended

since_weaker : (measures : List Measure) (begun most later more : ℕ) → begun ≤ later → most ≤ more → Since measures begun most → Since measures later more
since_weaker [] begun most later more after longer since = tt
since_weaker (measure ∷ earlier) begun most later more after longer since =
    ((λ is. let short = since.0 (omega (arith, after, is)) in omega (arith, short, longer)), since_weaker earlier begun most later more after longer since.1)

since_none : (measures : List Measure) (ended begun most : ℕ) → ended ≤ begun → Before measures ended → Since measures begun most
since_none [] ended begun most after before = tt
since_none (measure ∷ earlier) ended begun most after before =
    ((λ is. let first = before.0 in absurd (omega (arith, first, after, is))), since_none earlier ended begun most after before.1)

before_weaker : (measures : List Measure) (ended later : ℕ) → ended ≤ later → Before measures ended → Before measures later
before_weaker [] ended later after before = tt
before_weaker (measure ∷ earlier) ended later after before = let first = before.0 in (omega (arith, first, after), before_weaker earlier ended later after before.1)

-- what three parts keep of measures by this moment: no less than the longest since each of three moments, and no more
record IsKept (parts : Longest) (measures : List Measure) (now : ℕ) : Type 0 where
  begun : parts.begun ≤ now
  ends : Before measures (parts.begun + PART)
  newest : Since measures parts.begun parts.newest
  middle : Since measures (parts.begun - PART) (max parts.newest parts.middle)
  oldest : Since measures (parts.begun - 2 * PART) (max parts.newest (max parts.middle parts.oldest))
  most_newest : (most : ℕ) → Since measures parts.begun most → parts.newest ≤ most
  most_middle : (most : ℕ) → Since measures (parts.begun - PART) most → parts.middle ≤ most
  most_oldest : (most : ℕ) → Since measures (parts.begun - 2 * PART) most → parts.oldest ≤ most

module _ (parts : Longest) (measures : List Measure) (now later : ℕ) (after : now ≤ later) (kept : IsKept parts measures now) where
  none : (begun most : ℕ) → parts.begun + PART ≤ begun → Since measures begun most
  none begun most past = since_none measures (parts.begun + PART) begun most past kept.ends

  stays : later - parts.begun < PART → IsKept parts measures later
  stays short = record {
    begun = (let begun = kept.begun in omega (arith, begun, after));
    ends = kept.ends;
    newest = kept.newest;
    middle = kept.middle;
    oldest = kept.oldest;
    most_newest = kept.most_newest;
    most_middle = kept.most_middle;
    most_oldest = kept.most_oldest;
  }

  by_one : PART ≤ later - parts.begun → IsKept (record { begun = parts.begun + PART; newest = 0; middle = parts.newest; oldest = parts.middle }) measures later
  by_one long = record {
    begun = omega (arith, long);
    ends = before_weaker measures (parts.begun + PART) (parts.begun + PART + PART) (omega arith) kept.ends;
    newest = none (parts.begun + PART) 0 (omega arith);
    middle = since_weaker measures parts.begun parts.newest (parts.begun + PART - PART) (max 0 parts.newest) (omega arith) (omega arith) kept.newest;
    oldest = since_weaker measures (parts.begun - PART) (max parts.newest parts.middle) (parts.begun + PART - 2 * PART) (max 0 (max parts.newest parts.middle)) (omega arith) (omega arith) kept.middle;
    most_newest = λ most since. omega arith;
    most_middle = λ most since. kept.most_newest most (since_weaker measures (parts.begun + PART - PART) most parts.begun most (omega arith) (omega arith) since);
    most_oldest = λ most since. kept.most_middle most (since_weaker measures (parts.begun + PART - 2 * PART) most (parts.begun - PART) most (omega arith) (omega arith) since);
  }

  by_two : 2 * PART ≤ later - parts.begun → IsKept (record { begun = parts.begun + 2 * PART; newest = 0; middle = 0; oldest = parts.newest }) measures later
  by_two long = record {
    begun = omega (arith, long);
    ends = before_weaker measures (parts.begun + PART) (parts.begun + 2 * PART + PART) (omega arith) kept.ends;
    newest = none (parts.begun + 2 * PART) 0 (omega arith);
    middle = none (parts.begun + 2 * PART - PART) (max 0 0) (omega arith);
    oldest = since_weaker measures parts.begun parts.newest (parts.begun + 2 * PART - 2 * PART) (max 0 (max 0 parts.newest)) (omega arith) (omega arith) kept.newest;
    most_newest = λ most since. omega arith;
    most_middle = λ most since. omega arith;
    most_oldest = λ most since. kept.most_newest most (since_weaker measures (parts.begun + 2 * PART - 2 * PART) most parts.begun most (omega arith) (omega arith) since);
  }

  by_all : 3 * PART ≤ later - parts.begun → IsKept (record { begun = later; newest = 0; middle = 0; oldest = 0 }) measures later
  by_all long = record {
    begun = omega arith;
    ends = before_weaker measures (parts.begun + PART) (later + PART) (omega (arith, long)) kept.ends;
    newest = none later 0 (omega (arith, long));
    middle = none (later - PART) (max 0 0) (omega (arith, long));
    oldest = none (later - 2 * PART) (max 0 (max 0 0)) (omega (arith, long));
    most_newest = λ most since. omega arith;
    most_middle = λ most since. omega arith;
    most_oldest = λ most since. omega arith;
  }

  moves : IsKept (moved_on parts later) measures later × (later < (moved_on parts later).begun + PART)
  moves = elim (cases_Bool (nat_lt (later - parts.begun) PART)) [
    | inl so ↦ let short = ltb-true (later - parts.begun) PART so in rw so (stays short, omega (arith, short))
    | inr not_one ↦
        let one = ltb-false (later - parts.begun) PART not_one in
        rw not_one (elim (cases_Bool (nat_lt (later - parts.begun) (2 * PART))) [
          | inl so ↦ let short = ltb-true (later - parts.begun) (2 * PART) so in rw so (by_one one, omega (arith, short))
          | inr not_two ↦
              let two = ltb-false (later - parts.begun) (2 * PART) not_two in
              rw not_two (elim (cases_Bool (nat_lt (later - parts.begun) (3 * PART))) [
                | inl so ↦ let short = ltb-true (later - parts.begun) (3 * PART) so in rw so (by_two two, omega (arith, short))
                | inr not_three ↦ let three = ltb-false (later - parts.begun) (3 * PART) not_three in rw not_three (by_all three, omega arith)
              ])
        ])
  ]

notes : (parts : Longest) (measure : Measure) (earlier : List Measure) → IsKept parts earlier measure.at → measure.at < parts.begun + PART
    → IsKept (noted_in parts measure.length) (measure ∷ earlier) measure.at
notes parts measure earlier kept short = record {
  begun = kept.begun;
  ends = (short, kept.ends);
  newest = ((λ is. omega arith), since_weaker earlier parts.begun parts.newest parts.begun (max parts.newest measure.length) (omega arith) (omega arith) kept.newest);
  middle = ((λ is. omega arith), since_weaker earlier (parts.begun - PART) (max parts.newest parts.middle) (parts.begun - PART) (max (max parts.newest measure.length) parts.middle) (omega arith) (omega arith) kept.middle);
  oldest = ((λ is. omega arith), since_weaker earlier (parts.begun - 2 * PART) (max parts.newest (max parts.middle parts.oldest)) (parts.begun - 2 * PART) (max (max parts.newest measure.length) (max parts.middle parts.oldest)) (omega arith) (omega arith) kept.oldest);
  most_newest = λ most since. let rest = kept.most_newest most since.1 in let first = since.0 kept.begun in omega (arith, rest, first);
  most_middle = λ most since. kept.most_middle most since.1;
  most_oldest = λ most since. kept.most_oldest most since.1;
}

kept_later : (parts : Longest) (measures : List Measure) (now later : ℕ) → now ≤ later → IsKept parts measures now → IsKept parts measures later
kept_later parts measures now later after kept = record {
  begun = (let begun = kept.begun in omega (arith, begun, after));
  ends = kept.ends;
  newest = kept.newest;
  middle = kept.middle;
  oldest = kept.oldest;
  most_newest = kept.most_newest;
  most_middle = kept.most_middle;
  most_oldest = kept.most_oldest;
}

kept_all : (measures : List Measure) (now : ℕ) → AreInOrder measures now → IsKept (noted_all measures) measures now
kept_all [] now order = record {
  begun = omega arith;
  ends = tt;
  newest = tt;
  middle = tt;
  oldest = tt;
  most_newest = λ most since. omega arith;
  most_middle = λ most since. omega arith;
  most_oldest = λ most since. omega arith;
}
kept_all (measure ∷ earlier) now order =
    let moved = moves (noted_all earlier) earlier measure.at measure.at (omega arith) (kept_all earlier measure.at order.1) in
    kept_later (noted (noted_all earlier) measure.length measure.at) (measure ∷ earlier) measure.at now order.0 (notes (moved_on (noted_all earlier) measure.at) measure earlier moved.0 moved.1)

-- of the last minute
within_of_since : (measures : List Measure) (begun now most : ℕ) → begun ≤ now → Since measures (begun - 2 * PART) most → AreWithin measures now (2 * PART + 1) most
within_of_since [] begun now most past since = tt
within_of_since (measure ∷ earlier) begun now most past since = ((λ young. since.0 (omega (arith, past, young))), within_of_since earlier begun now most past since.1)

since_of_within : (measures : List Measure) (begun now most : ℕ) → now < begun + PART → AreWithin measures now (3 * PART) most → Since measures (begun - 2 * PART) most
since_of_within [] begun now most short within = tt
since_of_within (measure ∷ earlier) begun now most short within = ((λ late. within.0 (omega (arith, short, late))), since_of_within earlier begun now most short within.1)

all_short : (parts : Longest) (measures : List Measure) (now most : ℕ) → IsKept parts measures now → Since measures (parts.begun - 2 * PART) most → longest_in parts ≤ most
all_short parts measures now most kept since =
    let newest = kept.most_newest most (since_weaker measures (parts.begun - 2 * PART) most parts.begun most (omega arith) (omega arith) since) in
    let middle = kept.most_middle most (since_weaker measures (parts.begun - 2 * PART) most (parts.begun - PART) most (omega arith) (omega arith) since) in
    let oldest = kept.most_oldest most since in
    omega (arith, newest, middle, oldest)

pub count : (measures : List Measure) (now : ℕ) → CountForAMinute measures now
count measures now = λ order.
    let moved = moves (noted_all measures) measures now now (omega arith) (kept_all measures now order) in
    let parts = moved_on (noted_all measures) now in (
      within_of_since measures parts.begun now (lately (noted_all measures) now) moved.0.begun moved.0.oldest,
      λ most within. all_short parts measures now most moved.0 (since_of_within measures parts.begun now most moved.1 within),
    )
