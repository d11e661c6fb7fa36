-- What is kept of a seat is what its looks were.
use Rattle.std.proofs.Common.{ℕ, ◌≡◌, ◌⊎◌, ◌-◌, ◌≤◌, Bool, true, false, List, [], ◌∷◌, Option, Some, None, inl, inr, refl, sym, subst, ◌∙◌, arith}
use Rattle.std.specs.Prelude.{◌&&◌, ◌||◌, ◌==◌, not, nat_lt, is_some}
use Rattle.std.specs.List.{list_any}
use Rattle.std.proofs.lemmas.Bool.{cases_eq, and_parts, and_from, and_right, or_parts, or_from, false≢true, not-true, not_from_false, ltb-true, leb-true, le-leb, lt-ltb, eq-eqb, ne_eqb}
use Rattle.clockwork.specs.declared.seat_watch.Acts.{Acts}
use Rattle.clockwork.specs.declared.seat_watch.SeatLook.{SeatLook}
use Rattle.clockwork.specs.declared.seat_watch.SeatWatch.{SeatWatch}
use Rattle.clockwork.specs.Watches.{since}
use Rattle.clockwork.specs.SeatWatches.{sits_somewhere, has_passed, given_up_after, is_given_up, nowhere_after, sat_after, Sighting, seat_behind, is_here, ComesExactlyThen, IsNowhereSince, IsNowhereFor, GivesUpOnlyThen, IsPast, GivesUpThen, CountsOn}

-- ---- that it has come

by_turns : (here earlier before : Bool) → earlier ≡ before → (earlier || here) ≡ (here || before)
by_turns true true before same = refl
by_turns true false before same = refl
by_turns false true before same = same
by_turns false false before same = same

pub comes_exactly_then : (looks : List Sighting) → ComesExactlyThen looks
comes_exactly_then [] = refl
comes_exactly_then (look ∷ earlier) = by_turns (is_here look) (seat_behind earlier).has_come (list_any is_here earlier) (comes_exactly_then earlier)

-- ---- that it sat nowhere since its newest act

of_and : (a b : Bool) → b ≡ true → (a && b) ≡ false → a ≡ false
of_and true b is none = absurd (false≢true (sym none ∙ is))
of_and false b is none = refl

and_left_false : (a b : Bool) → a ≡ false → (a && b) ≡ false
and_left_false true b is = absurd (false≢true (sym is))
and_left_false false b is = refl

abbrev defaults_of : List Sighting → ℕ
defaults_of looks = (seat_behind looks).defaults

-- the newest look had so many
newest : (looks : List Sighting) (defaults : ℕ) → (defaults ≡ defaults_of looks → ⊥) → IsNowhereSince defaults looks
newest [] defaults differs = tt
newest (look ∷ earlier) defaults differs = λ same. absurd (differs (sym same))

nowhere_since : (looks : List Sighting) → (seat_behind looks).has_sat ≡ false → IsNowhereSince (defaults_of looks) looks
nowhere_since [] none = tt
nowhere_since (look ∷ earlier) none =
    let before = seat_behind earlier in
    let parts = or_parts (sits_somewhere look.places) (before.has_sat && (look.acts.defaults == before.defaults)) none in
    λ same. (
      parts.0,
      elim (cases_eq look.acts.defaults before.defaults) [
        | inl is ↦
            let not_sat : before.has_sat ≡ false = of_and before.has_sat (look.acts.defaults == before.defaults) (eq-eqb look.acts.defaults before.defaults is) parts.1 in
            subst (λ defaults. IsNowhereSince defaults earlier) (sym is) (nowhere_since earlier not_sat)
        | inr differs ↦ newest earlier look.acts.defaults differs
      ],
    )

has_not_sat : (looks : List Sighting) → IsNowhereSince (defaults_of looks) looks → (seat_behind looks).has_sat ≡ false
has_not_sat [] nowhere = refl
has_not_sat (look ∷ earlier) nowhere =
    let before = seat_behind earlier in
    let now = nowhere refl in
    or_from (sits_somewhere look.places) (before.has_sat && (look.acts.defaults == before.defaults)) now.0 (elim (cases_eq look.acts.defaults before.defaults) [
      | inl is ↦ and_left_false before.has_sat (look.acts.defaults == before.defaults) (has_not_sat earlier (subst (λ defaults. IsNowhereSince defaults earlier) is now.1))
      | inr differs ↦ and_right before.has_sat (look.acts.defaults == before.defaults) (ne_eqb look.acts.defaults before.defaults differs)
    ])

-- ---- that it sat nowhere for so long

none_some : (moment : ℕ) → None ≡ Some moment → ⊥
none_some moment is = cc

some_by : (a b : ℕ) → Some a ≡ Some b → a ≡ b
some_by a b is = cc

-- where it sits nowhere since a moment, it is so now, and since then or since now
since_by : (earlier : Option ℕ) (so : Bool) (now moment : ℕ) → since earlier so now ≡ Some moment → (so ≡ true) × ((earlier ≡ Some moment) ⊎ (now ≡ moment))
since_by earlier false now moment is = absurd (none_some moment is)
since_by None true now moment is = (refl, inr (some_by now moment is))
since_by (Some first) true now moment is = (refl, inl is)

so_by : (quorate sits : Bool) → (quorate && not sits) ≡ true → (quorate ≡ true) × (sits ≡ false)
so_by quorate sits so = let both = and_parts quorate (not sits) so in (both.0, not-true sits both.1)

nowhere_for : (looks : List Sighting) (length now moment : ℕ) → (seat_behind looks).nowhere ≡ Some moment → length ≤ now - moment → IsNowhereFor length now looks
nowhere_for [] length now moment is long = absurd (none_some moment is)
nowhere_for (look ∷ earlier) length now moment is long =
    let by = since_by (seat_behind earlier).nowhere (look.seen.quorate && not (sits_somewhere look.places)) look.seen.now moment is in (
      so_by look.seen.quorate (sits_somewhere look.places) by.0,
      elim by.1 [
        | inl before ↦ inr (nowhere_for earlier length now moment before long)
        | inr here ↦ inl (omega (arith, here, long))
      ],
    )

passed_by : (looks : List Sighting) (length now : ℕ) (nowhere : Option ℕ) → (seat_behind looks).nowhere ≡ nowhere → has_passed nowhere length now ≡ true → IsNowhereFor length now looks
passed_by looks length now None is passed = absurd (false≢true passed)
passed_by looks length now (Some moment) is passed = nowhere_for looks length now moment is (leb-true length (now - moment) passed)

nowhere_past : (looks : List Sighting) (now moment : ℕ) → IsPast now looks → (seat_behind looks).nowhere ≡ Some moment → moment ≤ now
nowhere_past [] now moment past is = absurd (none_some moment is)
nowhere_past (look ∷ earlier) now moment past is =
    let by = since_by (seat_behind earlier).nowhere (look.seen.quorate && not (sits_somewhere look.places)) look.seen.now moment is in
    let ahead = past.0 in
    elim by.1 [
      | inl before ↦ let within = nowhere_past earlier look.seen.now moment past.1 before in omega (arith, within, ahead)
      | inr here ↦ omega (arith, here, ahead)
    ]

now_passed : (earlier : Option ℕ) (length look now : ℕ) → ((moment : ℕ) → earlier ≡ Some moment → moment ≤ look) → length ≤ now - look → has_passed (since earlier true look) length now ≡ true
now_passed None length look now past long = le-leb length (now - look) long
now_passed (Some moment) length look now past long = let before = past moment refl in le-leb length (now - moment) (omega (arith, before, long))

still_passed : (earlier : Option ℕ) (length look now : ℕ) → has_passed earlier length now ≡ true → has_passed (since earlier true look) length now ≡ true
still_passed None length look now passed = absurd (false≢true passed)
still_passed (Some moment) length look now passed = passed

so_from : (quorate sits : Bool) → quorate ≡ true → sits ≡ false → (quorate && not sits) ≡ true
so_from quorate sits is none = and_from quorate (not sits) is (not_from_false sits none)

has_passed_by : (looks : List Sighting) (length now ahead : ℕ) → IsPast ahead looks → IsNowhereFor length now looks → has_passed (seat_behind looks).nowhere length now ≡ true
has_passed_by [] length now ahead past nowhere = absurd nowhere
has_passed_by (look ∷ earlier) length now ahead past nowhere =
    let before = (seat_behind earlier).nowhere in
    let so = so_from look.seen.quorate (sits_somewhere look.places) nowhere.0.0 nowhere.0.1 in
    elim nowhere.1 [
      | inl here ↦ rw so (now_passed before length look.seen.now now (λ moment is. nowhere_past earlier look.seen.now moment past.1 is) here)
      | inr rest ↦ rw so (still_passed before length look.seen.now now (has_passed_by earlier length now look.seen.now past.1 rest))
    ]

-- ---- that it is given up

given_by : (earlier : Option ℕ) (given : Bool) (defaults : ℕ) → is_some (given_up_after earlier given defaults) ≡ given
unfolding given_up_after
given_by earlier true defaults = refl
given_by earlier false defaults = refl

pub only_then : (looks : List Sighting) → GivesUpOnlyThen looks
only_then [] = λ is. absurd (false≢true is)
only_then (look ∷ earlier) = λ is.
    let before = record (seat_behind earlier) { places = look.places } in
    let seen = look.seen in
    let given = sym (given_by before.given_up (is_given_up before look.acts seen) look.acts.defaults) ∙ is in
    let first = and_parts seen.gives_up (nat_lt 0 look.acts.defaults && (not (sat_after before look.acts) && has_passed (nowhere_after before seen) seen.patience seen.now)) given in
    let second = and_parts (nat_lt 0 look.acts.defaults) (not (sat_after before look.acts) && has_passed (nowhere_after before seen) seen.patience seen.now) first.1 in
    let third = and_parts (not (sat_after before look.acts)) (has_passed (nowhere_after before seen) seen.patience seen.now) second.1 in (
      (first.0, ltb-true 0 look.acts.defaults second.0),
      (
        nowhere_since (look ∷ earlier) (not-true (sat_after before look.acts) third.0),
        passed_by (look ∷ earlier) seen.patience seen.now (nowhere_after before seen) refl third.1,
      ),
    )

pub and_then : (looks : List Sighting) (now : ℕ) → GivesUpThen looks now
and_then [] now = λ past away. absurd away
and_then (look ∷ earlier) now = λ past away.
    let before = record (seat_behind earlier) { places = look.places } in
    let seen = look.seen in
    let not_sat = has_not_sat (look ∷ earlier) away.1.0 in
    let long = has_passed_by (look ∷ earlier) seen.patience seen.now now past away.1.1 in
    given_by before.given_up (is_given_up before look.acts seen) look.acts.defaults
    ∙ and_from seen.gives_up (nat_lt 0 look.acts.defaults && (not (sat_after before look.acts) && has_passed (nowhere_after before seen) seen.patience seen.now)) away.0.0
    (and_from (nat_lt 0 look.acts.defaults) (not (sat_after before look.acts) && has_passed (nowhere_after before seen) seen.patience seen.now)
    (lt-ltb 0 look.acts.defaults away.0.1)
    (and_from (not (sat_after before look.acts)) (has_passed (nowhere_after before seen) seen.patience seen.now) (not_from_false (sat_after before look.acts) not_sat) long))

-- ---- its turns

turns_on : (earlier : Option ℕ) (given : Bool) (defaults first : ℕ) → earlier ≡ Some first → is_some (given_up_after earlier given defaults) ≡ true → given_up_after earlier given defaults ≡ Some first
unfolding given_up_after
turns_on None given defaults first is so = absurd (none_some first is)
turns_on (Some moment) true defaults first is so = is
turns_on (Some moment) false defaults first is so = absurd (false≢true so)

pub counts_on : (seat : SeatWatch) (acts : Acts) (seen : SeatLook) (first : ℕ) → CountsOn seat acts seen first
counts_on seat acts seen first = λ is so.
    let still = turns_on seat.given_up (is_given_up seat acts seen) acts.defaults first is so in rw still refl
