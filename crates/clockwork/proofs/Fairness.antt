-- Why the seat to act is played for, so that it is fair, and that it is.
use Rattle.std.proofs.Common.{ℕ, zero, suc, ◌≡◌, ◌⊎◌, ◌+◌, ◌-◌, ◌*◌, ◌<◌, ◌≤◌, Bool, true, false, List, [], ◌∷◌, Option, Some, None, inl, inr, refl, ap, arith}
use Rattle.std.specs.Prelude.{min, max, ◌&&◌, ◌||◌, not, if◌then◌else◌, nat_lt, nat_le, is_some}
use Rattle.std.proofs.lemmas.Bool.{cases_Bool, and_parts, and_from, or_cases, not-true, or_left, or_right, false≢true, ltb-true, ltb-false, lt-ltb, le-ltb, le-leb, leb-true}
use Rattle.clockwork.specs.declared.seat_watch.At.{At}
use Rattle.clockwork.specs.declared.seat_watch.At.TheVariants.{Gone, Empty, Sits, Taken}
use Rattle.clockwork.specs.declared.seat_watch.Place.{Place}
use Rattle.clockwork.specs.declared.order.Expected.{Expected}
use Rattle.clockwork.specs.declared.answer.Due.{Due}
use Rattle.clockwork.specs.declared.answer.Due.TheVariants.{Now, Nothing}
use Rattle.clockwork.specs.declared.limits.TheConstants.{SLOW_TURNS, SLOW_TURN, LOOK}
use Rattle.clockwork.specs.Waits.{left}
use Rattle.clockwork.specs.Dues.{due_in}
use Rattle.clockwork.specs.ActionTimeout.{is_able, order_left, seated_after, IsOrderedLongAgo}
use Rattle.clockwork.specs.SeatWatches.{place_after, has_passed, BeginsAnewOnce, BeginsAnew}
use Rattle.clockwork.specs.Openings.{first_after, looked_all, OpeningLook, HadQuorum, OpensOnlyThen, IsPast, OpensThen}
use Rattle.clockwork.specs.Orders.{wait_of, longest_of, has_stood, is_its_turn, may_be_kept_out, turn_since, is_to_order, turn_left, order_due_of, turn_wait, more_of, IsAble, IsItsTurn, HasBeenPatient, IsOrderedAtTheLatest, IsOrderedInTurn, WaitsBehindACrowd, IsWaitedForAsEver, waits_together, CostsTenSeconds}
use Rattle.clockwork.proofs.Ticking.{max_parts, none_left, tick_of_none, none_of_tick, until_of, cases_none}
use Rattle.clockwork.proofs.Ordering.{long_ago, none_of_long_ago}

-- ---- why it is

pub order_by : (expected : Expected) → order_due_of expected ≡ Now → (is_to_order expected ≡ true) × (turn_left expected ≡ 0)
unfolding order_due_of
order_by expected is = elim (cases_Bool (is_to_order expected)) [
  | inl so ↦ (so, none_of_tick expected.awaited.time (turn_left expected) (rw so at is))
  | inr not_so ↦ let none : LOOK ≡ 0 = none_of_tick expected.awaited.time LOOK (rw not_so at is) in absurd (omega arith)
]

pub later_than_now : (expected : Expected) (until : ℕ) → order_due_of expected ≡ Nothing until → (expected.awaited.time < until) × (until ≤ expected.awaited.time + LOOK)
unfolding order_due_of
later_than_now expected until is = elim (cases_Bool (is_to_order expected)) [
  | inl so ↦ until_of expected.awaited.time (turn_left expected) until (rw so at is)
  | inr not_so ↦ until_of expected.awaited.time LOOK until (rw not_so at is)
]

pub able_by : (expected : Expected) → is_to_order expected ≡ true → IsAble expected × IsItsTurn expected
unfolding is_to_order
able_by expected so =
    let first = and_parts (is_able expected.awaited) (expected.is_awake && (expected.is_open && is_its_turn expected)) so in
    let second = and_parts expected.is_awake (expected.is_open && is_its_turn expected) first.1 in
    let third = and_parts expected.is_open (is_its_turn expected) second.1 in
    (record { able = first.0; awake = second.0; opened = third.0 }, third.1)

parts_of_none : (expected : Expected) → turn_left expected ≡ 0
    → (min (left expected.awaited.time (turn_since expected) (wait_of expected)) (left expected.awaited.time expected.stood (longest_of expected)) ≡ 0)
    × (order_left expected.awaited.time expected.awaited.ordered expected.awaited.patience ≡ 0)
unfolding turn_left
parts_of_none expected none =
    max_parts (min (left expected.awaited.time (turn_since expected) (wait_of expected)) (left expected.awaited.time expected.stood (longest_of expected)))
    (order_left expected.awaited.time expected.awaited.ordered expected.awaited.patience) none

pub has_been_patient : (expected : Expected) → turn_left expected ≡ 0 → HasBeenPatient expected
has_been_patient expected none =
    elim (cases_none (left expected.awaited.time (turn_since expected) (wait_of expected)) (left expected.awaited.time expected.stood (longest_of expected)) (parts_of_none expected none).0) [
      | inl turn ↦ inl (none_left (wait_of expected) (expected.awaited.time - turn_since expected) turn)
      | inr longest ↦ inr (none_left (longest_of expected) (expected.awaited.time - expected.stood) longest)
    ]

pub ordered_long_ago : (expected : Expected) → turn_left expected ≡ 0 → IsOrderedLongAgo expected.awaited
ordered_long_ago expected none = long_ago expected.awaited.time expected.awaited.ordered expected.awaited.patience (parts_of_none expected none).1

-- ---- that it is

its_turn : (expected : Expected) → longest_of expected ≤ expected.awaited.time - expected.stood → IsItsTurn expected
its_turn expected long =
    or_right expected.awaited.sits_here (not expected.awaited.sits_elsewhere || has_stood expected)
    (or_right (not expected.awaited.sits_elsewhere) (has_stood expected) (le-leb (longest_of expected) (expected.awaited.time - expected.stood) long))

to_order : (expected : Expected) → IsAble expected → IsItsTurn expected → is_to_order expected ≡ true
unfolding is_to_order
to_order expected able turn =
    and_from (is_able expected.awaited) (expected.is_awake && (expected.is_open && is_its_turn expected)) able.able
    (and_from expected.is_awake (expected.is_open && is_its_turn expected) able.awake (and_from expected.is_open (is_its_turn expected) able.opened turn))

none_of_long : (wait past : ℕ) → wait ≤ past → wait - past ≡ 0
none_of_long wait past long = omega (arith, long)

none_of_first : (a b c : ℕ) → a ≡ 0 → c ≡ 0 → max (min a b) c ≡ 0
none_of_first a b c first last = omega (arith, first, last)

none_of_second : (a b c : ℕ) → b ≡ 0 → c ≡ 0 → max (min a b) c ≡ 0
none_of_second a b c second last = omega (arith, second, last)

pub in_turn : (expected : Expected) → IsOrderedInTurn expected
unfolding order_due_of turn_left
in_turn expected = λ able turn waited ago.
    let so = to_order expected able turn in
    let first = none_of_long (wait_of expected) (expected.awaited.time - turn_since expected) waited in
    let last = none_of_long_ago expected.awaited.time expected.awaited.ordered expected.awaited.patience ago in
    rw so (tick_of_none expected.awaited.time (turn_left expected) (none_of_first
    (left expected.awaited.time (turn_since expected) (wait_of expected)) (left expected.awaited.time expected.stood (longest_of expected))
    (order_left expected.awaited.time expected.awaited.ordered expected.awaited.patience) first last))

pub at_the_latest : (expected : Expected) → IsOrderedAtTheLatest expected
unfolding order_due_of turn_left
at_the_latest expected = λ able long ago.
    let so = to_order expected able (its_turn expected long) in
    let second = none_of_long (longest_of expected) (expected.awaited.time - expected.stood) long in
    let last = none_of_long_ago expected.awaited.time expected.awaited.ordered expected.awaited.patience ago in
    rw so (tick_of_none expected.awaited.time (turn_left expected) (none_of_second
    (left expected.awaited.time (turn_since expected) (wait_of expected)) (left expected.awaited.time expected.stood (longest_of expected))
    (order_left expected.awaited.time expected.awaited.ordered expected.awaited.patience) second last))

-- ---- a seat that may be kept out

-- it isn't given up
not_given_up : (expected : Expected) → may_be_kept_out expected ≡ true → is_some expected.turns ≡ false
not_given_up expected may =
    let second = and_parts (not expected.awaited.sits_here) (not expected.awaited.sits_elsewhere && not (is_some expected.turns)) may in
    not-true (is_some expected.turns) (and_parts (not expected.awaited.sits_elsewhere) (not (is_some expected.turns)) second.1).1

whole_patience : (patience : ℕ) (turns : Option ℕ) → is_some turns ≡ false → turn_wait patience turns ≡ patience
whole_patience patience None none = refl
whole_patience patience (Some turns) none = cc

later_of : (patience wait more time since crowded : ℕ) → wait ≡ patience → wait + more ≤ time - max since crowded → patience ≤ time - crowded
later_of patience wait more time since crowded same long = omega (arith, same, long)

pub waits_behind_a_crowd : (expected : Expected) → WaitsBehindACrowd expected
waits_behind_a_crowd expected = λ may is. elim (has_been_patient expected (order_by expected is).1) [
  | inl long ↦
      let past : wait_of expected ≤ expected.awaited.time - max expected.awaited.since expected.crowded = rw may at long in
      inl (later_of expected.awaited.patience (turn_wait expected.awaited.patience expected.turns) (more_of expected) expected.awaited.time expected.awaited.since expected.crowded
      (whole_patience expected.awaited.patience expected.turns (not_given_up expected may)) past)
  | inr longest ↦ inr (le-leb (longest_of expected) (expected.awaited.time - expected.stood) longest)
]

same_since : (test : Bool) (since crowded : ℕ) → (test ≡ false) ⊎ (crowded ≤ since) → (if test then max since crowded else since) ≡ (if test then max since 0 else since)
same_since false since crowded other = refl
same_since true since crowded (inl is) = cc
same_since true since crowded (inr before) = omega (arith, before)

due_of_since : Expected → ℕ → Due
due_of_since expected since =
    if is_to_order expected then due_in expected.awaited.time (max (min (left expected.awaited.time since (wait_of expected)) (left expected.awaited.time expected.stood (longest_of expected))) (order_left expected.awaited.time expected.awaited.ordered expected.awaited.patience))
    else due_in expected.awaited.time LOOK

pub waited_for_as_ever : (expected : Expected) → IsWaitedForAsEver expected
unfolding order_due_of turn_left is_to_order is_able due_of_since
waited_for_as_ever expected = λ other. ap (due_of_since expected) (same_since (may_be_kept_out expected) expected.awaited.since expected.crowded other)

-- ---- turns of a seat that is given up

slow_turns : (patience turns : ℕ) → waits_together patience turns ≤ SLOW_TURN * min turns SLOW_TURNS
slow_turns patience zero = omega arith
slow_turns patience (suc turns) =
    let before = slow_turns patience turns in
    elim (cases_Bool (nat_lt turns SLOW_TURNS)) [
      | inl so ↦ let few = ltb-true turns SLOW_TURNS so in rw so (omega (arith, before, few))
      | inr not_so ↦ let many = ltb-false turns SLOW_TURNS not_so in rw not_so (omega (arith, before, many))
    ]

pub costs_ten_seconds : (patience turns : ℕ) → CostsTenSeconds patience turns
costs_ten_seconds patience turns = let slow = slow_turns patience turns in omega (arith, slow)

-- ---- a wait begins anew by a node once

begun_still : (begun : Option ℕ) (moved first second : ℕ) → moved ≤ first → begun ≡ Some first → Some (seated_after begun moved second) ≡ Some first
begun_still begun moved first second past is = rw is (rw (le-ltb first moved past) refl)

either_way : (so : Bool) (x y z : Option ℕ) → x ≡ z → y ≡ z → (if so then x else y) ≡ z
either_way true x y z one other = one
either_way false x y z one other = other

stays : (place : Place) (later : At) (moved first second : ℕ) → moved ≤ first → place.begun ≡ Some first → (place_after place later moved second).begun ≡ Some first
unfolding place_after
stays place Gone moved first second past is =
    either_way place.sits (Some (seated_after place.begun moved second)) place.begun (Some first) (begun_still place.begun moved first second past is) is
stays place Empty moved first second past is = is
stays place Sits moved first second past is =
    either_way place.sits place.begun (Some (seated_after place.begun moved second)) (Some first) is (begun_still place.begun moved first second past is)
stays place Taken moved first second past is = begun_still place.begun moved first second past is

pub begins_once : (place : Place) (at : At) (moved first later : ℕ) → BeginsAnewOnce place at moved first later
begins_once place at moved first later = λ is past. stays place at moved first later past is

now_first : (begun : Option ℕ) (moved now : ℕ) → ((first : ℕ) → begun ≡ Some first → first < moved) → Some (seated_after begun moved now) ≡ Some now
now_first None moved now before = refl
now_first (Some first) moved now before = rw (lt-ltb first moved (before first refl)) refl

if_sits : (place : Place) (at : At) (moved now : ℕ) → ((first : ℕ) → place.begun ≡ Some first → first < moved)
    → ((place.sits ≡ false) × ((place_after place at moved now).sits ≡ true)) ⊎ ((place.sits ≡ true) × (at ≡ Gone)) → (place_after place at moved now).begun ≡ Some now
unfolding place_after
if_sits place Gone moved now before why = elim why [
  | inl came ↦ absurd (false≢true came.1)
  | inr left ↦ let sat = left.0 in rw sat (now_first place.begun moved now before)
]
if_sits place Empty moved now before why = elim why [ inl came ↦ absurd (false≢true came.1) | inr left ↦ let is = left.1 in cc ]
if_sits place Sits moved now before why = elim why [
  | inl came ↦ let none = came.0 in rw none (now_first place.begun moved now before)
  | inr left ↦ let is = left.1 in cc
]
if_sits place Taken moved now before why = now_first place.begun moved now before

pub begins_anew : (place : Place) (at : At) (moved now : ℕ) → BeginsAnew place at moved now
begins_anew place at moved now = λ before why. if_sits place at moved now before why

-- ---- the opening

none_some : {X : Type 0} (x : X) → None ≡ Some x → ⊥
none_some x is = cc

some_by : (a b : ℕ) → Some a ≡ Some b → a ≡ b
some_by a b is = cc

first_by : (earlier : Option ℕ) (so : Bool) (now moment : ℕ) → first_after earlier so now ≡ Some moment → (earlier ≡ Some moment) ⊎ ((so ≡ true) × (now ≡ moment))
first_by None true now moment is = inr (refl, some_by now moment is)
first_by None false now moment is = absurd (none_some moment is)
first_by (Some earlier) so now moment is = inl is

had_quorum : (looks : List OpeningLook) (start moment now : ℕ) → (looked_all looks start).first ≡ Some moment → start ≤ now - moment → HadQuorum looks start now
had_quorum [] start moment now is long = absurd (none_some moment is)
had_quorum (look ∷ earlier) start moment now is long = elim (first_by (looked_all earlier start).first look.quorate look.now moment is) [
  | inl before ↦ inr (had_quorum earlier start moment now before long)
  | inr here ↦ let same = here.1 in inl (here.0, omega (arith, same, long))
]

passed_by : (looks : List OpeningLook) (start now : ℕ) (first : Option ℕ) → (looked_all looks start).first ≡ first → has_passed first start now ≡ true → HadQuorum looks start now
passed_by looks start now None is passed = absurd (false≢true passed)
passed_by looks start now (Some moment) is passed = had_quorum looks start moment now is (leb-true start (now - moment) passed)

open_by : (earlier : Option ℕ) (so : Bool) (now : ℕ) → is_some (first_after earlier so now) ≡ true → (is_some earlier ≡ true) ⊎ (so ≡ true)
open_by None true now is = inr refl
open_by None false now is = absurd (false≢true is)
open_by (Some moment) so now is = inl refl

pub opens_only_then : (looks : List OpeningLook) (start : ℕ) → OpensOnlyThen looks start
opens_only_then [] start = λ is. absurd (false≢true is)
opens_only_then (look ∷ earlier) start = λ is.
    let first = (looked_all (look ∷ earlier) start).first in
    elim (open_by (looked_all earlier start).opened (look.all_came || has_passed first start look.now) look.now is) [
      | inl before ↦ inr (opens_only_then earlier start before)
      | inr here ↦ elim (or_cases look.all_came (has_passed first start look.now) here) [
        | inl came ↦ inl (inl came)
        | inr passed ↦ inl (inr (passed_by (look ∷ earlier) start look.now first refl passed))
      ]
    ]

-- ---- and that it opens

first_past : (looks : List OpeningLook) (start now moment : ℕ) → IsPast now looks → (looked_all looks start).first ≡ Some moment → moment ≤ now
first_past [] start now moment past is = absurd (none_some moment is)
first_past (look ∷ earlier) start now moment past is = elim (first_by (looked_all earlier start).first look.quorate look.now moment is) [
  | inl before ↦ let within = first_past earlier start look.now moment past.1 before in let ahead = past.0 in omega (arith, within, ahead)
  | inr here ↦ let same = here.1 in let ahead = past.0 in omega (arith, same, ahead)
]

kept : (earlier : Option ℕ) (so : Bool) (start look now : ℕ) → has_passed earlier start now ≡ true → has_passed (first_after earlier so look) start now ≡ true
kept None so start look now passed = absurd (false≢true passed)
kept (Some moment) so start look now passed = passed

longer : (start now moment later : ℕ) → moment ≤ later → start ≤ now - later → nat_le start (now - moment) ≡ true
longer start now moment later before long = le-leb start (now - moment) (omega (arith, before, long))

begun_by : (earlier : Option ℕ) (start look now : ℕ) → ((moment : ℕ) → earlier ≡ Some moment → moment ≤ look) → start ≤ now - look → has_passed (first_after earlier true look) start now ≡ true
begun_by None start look now past long = le-leb start (now - look) long
begun_by (Some moment) start look now past long = longer start now moment look (past moment refl) long

passed_since : (looks : List OpeningLook) (start now ahead : ℕ) → IsPast ahead looks → HadQuorum looks start now → has_passed (looked_all looks start).first start now ≡ true
passed_since [] start now ahead past had = absurd had
passed_since (look ∷ earlier) start now ahead past had = elim had [
  | inl here ↦
      let quorate = here.0 in
      rw quorate (begun_by (looked_all earlier start).first start look.now now (λ moment is. first_past earlier start look.now moment past.1 is) here.1)
  | inr before ↦ kept (looked_all earlier start).first look.quorate start look.now now (passed_since earlier start now look.now past.1 before)
]

open_now : (earlier : Option ℕ) (so : Bool) (now : ℕ) → so ≡ true → is_some (first_after earlier so now) ≡ true
open_now None so now is = rw is refl
open_now (Some moment) so now is = refl

open_still : (earlier : Option ℕ) (so : Bool) (now : ℕ) → is_some earlier ≡ true → is_some (first_after earlier so now) ≡ true
open_still None so now is = absurd (false≢true is)
open_still (Some moment) so now is = refl

pub opens_then : (looks : List OpeningLook) (start now : ℕ) → OpensThen looks start now
opens_then [] start now = λ past could. absurd could
opens_then (look ∷ earlier) start now = λ past could.
    let first = (looked_all (look ∷ earlier) start).first in
    let so = look.all_came || has_passed first start look.now in
    elim could [
      | inl here ↦ open_now (looked_all earlier start).opened so look.now (elim here [
        | inl came ↦ or_left look.all_came (has_passed first start look.now) came
        | inr had ↦ or_right look.all_came (has_passed first start look.now) (passed_since (look ∷ earlier) start look.now now past had)
      ])
      | inr before ↦ open_still (looked_all earlier start).opened so look.now (opens_then earlier start look.now past.1 before)
    ]
