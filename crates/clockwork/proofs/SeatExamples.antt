-- Where seats sit, who is given up, when a match opens, who is awake, and who is played for, on values; moments in microseconds.
use Rattle.std.proofs.Common.{◌≡◌, ℕ, true, false, [], ◌∷◌, Some, None, ◌⊎◌, ◌-◌, ◌≤◌, inl, inr, refl, sym, arith}
use Rattle.std.proofs.lemmas.Bool.{false≢true}
use Rattle.clockwork.specs.declared.action_timeout.Awaited.{Awaited}
use Rattle.clockwork.specs.declared.answer.Due.TheVariants.{Now, Nothing}
use Rattle.clockwork.specs.declared.seat_watch.At.TheVariants.{Gone, Empty, Sits, Taken}
use Rattle.clockwork.specs.declared.seat_watch.Place.{Place}
use Rattle.clockwork.specs.declared.seat_watch.Acts.{Acts}
use Rattle.clockwork.specs.declared.seat_watch.SeatLook.{SeatLook}
use Rattle.clockwork.specs.declared.seat_watch.SeatWatch.{SeatWatch}
use Rattle.clockwork.specs.declared.waking.Happening.TheVariants.{Passed, Stood, ReadAll, Beat}
use Rattle.clockwork.specs.declared.order.Expected.{Expected}
use Rattle.clockwork.specs.ActionTimeout.{is_able, IsOrderedLongAgo}
use Rattle.clockwork.specs.Dues.{due_in}
use Rattle.clockwork.specs.SeatWatches.{place_after, since_of, given_up_after, seat_of, looked_at, turns_of, Sighting, IsAway}
use Rattle.clockwork.specs.Openings.{opening_of, looked, OpeningLook, CouldOpen}
use Rattle.clockwork.specs.Wakings.{asleep, is_enough, is_awake, waking_behind, behind_sleep, further, HasHeardEnough}
use Rattle.clockwork.specs.Orders.{turn_wait, may_be_kept_out, is_to_order, turn_left, order_due_of, HasBeenPatient, waits_together}

-- ---- a seat at a node

abbrev there : Place
there = record { sits = true; begun = None }

abbrev nobody : Place
nobody = record { sits = false; begun = None }

gone_while_it_sat : place_after there Gone 100 150 ≡ record { sits = false; begun = Some 150 }
unfolding place_after
gone_while_it_sat = refl

gone_while_nobody_sat : place_after nobody Gone 100 150 ≡ nobody
unfolding place_after
gone_while_nobody_sat = refl

it_left : place_after there Empty 100 150 ≡ nobody
unfolding place_after
it_left = refl

it_came : place_after nobody Sits 100 150 ≡ record { sits = true; begun = Some 150 }
unfolding place_after
it_came = refl

it_sits_on : place_after there Sits 100 150 ≡ there
unfolding place_after
it_sits_on = refl

it_was_taken_again : place_after there Taken 100 150 ≡ record { sits = true; begun = Some 150 }
unfolding place_after
it_was_taken_again = refl

but_once_while_the_front_stands : place_after (record { sits = true; begun = Some 120 }) Taken 100 150 ≡ record { sits = true; begun = Some 120 }
unfolding place_after
but_once_while_the_front_stands = refl

the_latest_counts : since_of (record { sits = false; begun = Some 150 } ∷ record { sits = true; begun = Some 120 } ∷ nobody ∷ []) 130 ≡ 150
unfolding since_of
the_latest_counts = refl

or_the_front : since_of (record { sits = false; begun = Some 150 } ∷ []) 160 ≡ 160
unfolding since_of
or_the_front = refl

-- ---- a seat that is given up

-- it has sat nowhere since a millisecond, of three that a seat may hold the table
abbrev gone : SeatWatch
gone = record { places = nobody ∷ []; has_come = true; nowhere = Some 1000; has_sat = false; defaults = 0; given_up = None }

abbrev acts : ℕ → Acts
acts defaults = record { has_acted = true; defaults = defaults }

abbrev at : ℕ → SeatLook
at now = record { quorate = true; gives_up = true; patience = 3000; now = now }

given_up_behind_a_default_action : (looked_at gone (acts 1) (at 4000)).given_up ≡ Some 1
unfolding given_up_after
given_up_behind_a_default_action = refl

not_before_a_whole_patience : (looked_at gone (acts 1) (at 3999)).given_up ≡ None
unfolding given_up_after
not_before_a_whole_patience = refl

not_behind_an_act_of_its_own : (looked_at gone (acts 0) (at 4000)).given_up ≡ None
unfolding given_up_after
not_behind_an_act_of_its_own = refl

not_where_it_sat_since_that_act : (looked_at (record gone { has_sat = true; defaults = 1 }) (acts 1) (at 4000)).given_up ≡ None
unfolding given_up_after
not_where_it_sat_since_that_act = refl

but_behind_the_next : (looked_at (record gone { has_sat = true; defaults = 1 }) (acts 2) (at 4000)).given_up ≡ Some 2
unfolding given_up_after
but_behind_the_next = refl

no_longer_where_it_sits : (looked_at (record gone { places = there ∷ []; defaults = 30; given_up = Some 1 }) (acts 30) (at 9000)).given_up ≡ None
unfolding given_up_after
no_longer_where_it_sits = refl

never_where_the_match_waits : (looked_at gone (acts 1) (record (at 4000) { gives_up = false })).given_up ≡ None
unfolding given_up_after
never_where_the_match_waits = refl

nothing_is_known_without_a_quorum : (looked_at gone (acts 1) (record (at 4000) { quorate = false })).nowhere ≡ None
nothing_is_known_without_a_quorum = refl

it_came_by_its_act : (looked_at (record seat_of { places = [] }) (acts 0) (at 10)).has_come ≡ true
it_came_by_its_act = refl

turns_since_then : turns_of (record gone { defaults = 22; given_up = Some 1 }) ≡ Some 21
turns_since_then = refl

-- ---- by its looks

abbrev away : ℕ → Sighting
away now = record { places = nobody ∷ []; acts = acts 1; seen = at now }

it_is_away : IsAway (away 4000 ∷ away 1000 ∷ [])
it_is_away = ((refl, omega arith), ((λ one. (refl, λ other. (refl, tt))), ((refl, refl), inr ((refl, refl), inl (omega arith)))))

shorter : (3000 ≤ 3999 - 1000) ⊎ ⊥ → ⊥
shorter (inl long) = omega (arith, long)
shorter (inr none) = none

too_short : (3000 ≤ 3999 - 3999) ⊎ (((true ≡ true) × (false ≡ false)) × ((3000 ≤ 3999 - 1000) ⊎ ⊥)) → ⊥
too_short (inl long) = omega (arith, long)
too_short (inr rest) = shorter rest.1

not_for_long_enough : IsAway (away 3999 ∷ away 1000 ∷ []) → ⊥
not_for_long_enough is = too_short is.1.1.1

it_sat_since : IsAway (away 9000 ∷ record (away 5000) { places = there ∷ [] } ∷ away 1000 ∷ []) → ⊥
it_sat_since is = false≢true (sym ((is.1.0 refl).1 refl).0)

-- ---- the opening

opens_once_all_came : (looked opening_of false true 600 50).opened ≡ Some 50
opens_once_all_came = refl

waits_for_them : (looked opening_of true false 600 50).opened ≡ None
waits_for_them = refl

until_start_has_passed : (looked (record { first = Some 50; opened = None }) false false 600 650).opened ≡ Some 650
until_start_has_passed = refl

and_not_before : (looked (record { first = Some 50; opened = None }) true false 600 649).opened ≡ None
and_not_before = refl

it_stays_open : (looked (record { first = Some 50; opened = Some 60 }) true false 600 70).opened ≡ Some 60
it_stays_open = refl

abbrev look : OpeningLook
look = record { quorate = false; all_came = false; now = 700 }

abbrev with_quorum : OpeningLook
with_quorum = record { quorate = true; all_came = false; now = 100 }

it_could_open : CouldOpen (record look { all_came = true } ∷ []) 600
it_could_open = inl (inl refl)

and_could_once_start_had_passed : CouldOpen (look ∷ with_quorum ∷ []) 600
and_could_once_start_had_passed = inl (inr (inr (inl (refl, omega arith))))

not_a_moment_before_that : CouldOpen (record look { now = 699 } ∷ with_quorum ∷ []) 600 → ⊥
not_a_moment_before_that (inl (inl came)) = false≢true came
not_a_moment_before_that (inl (inr (inl had))) = false≢true had.0
not_a_moment_before_that (inl (inr (inr (inl had)))) = let long = had.1 in omega (arith, long)
not_a_moment_before_that (inl (inr (inr (inr never)))) = never
not_a_moment_before_that (inr (inl (inl came))) = false≢true came
not_a_moment_before_that (inr (inl (inr (inl had)))) = let long = had.1 in omega (arith, long)
not_a_moment_before_that (inr (inl (inr (inr never)))) = never
not_a_moment_before_that (inr (inr never)) = never

-- ---- a sleep

it_slept_at_first : is_awake asleep 3 ≡ false
unfolding is_enough
it_slept_at_first = refl

two_beats_of_one_of_two : is_awake (waking_behind (Beat 1 ∷ Beat 1 ∷ ReadAll ∷ [])) 3 ≡ true
unfolding is_enough
two_beats_of_one_of_two = refl

of_two_of_four : is_awake (waking_behind (Beat 2 ∷ Beat 2 ∷ Beat 1 ∷ Beat 1 ∷ ReadAll ∷ [])) 5 ≡ true
unfolding is_enough
of_two_of_four = refl

one_of_four_is_too_few : is_awake (waking_behind (Beat 1 ∷ Beat 1 ∷ ReadAll ∷ [])) 5 ≡ false
unfolding is_enough
one_of_four_is_too_few = refl

one_of_each_is_too_few : is_awake (waking_behind (Beat 2 ∷ Beat 1 ∷ ReadAll ∷ [])) 3 ≡ false
unfolding is_enough
one_of_each_is_too_few = refl

older_beats_count_for_nothing : is_awake (waking_behind (ReadAll ∷ Beat 1 ∷ Beat 1 ∷ [])) 3 ≡ false
unfolding is_enough
older_beats_count_for_nothing = refl

it_slept_again : is_awake (waking_behind (Passed 100001 ∷ Beat 1 ∷ Beat 1 ∷ ReadAll ∷ [])) 3 ≡ false
unfolding is_enough
it_slept_again = refl

it_slept_so_long : (waking_behind (Passed 5000000 ∷ Passed 100000 ∷ Passed 2000000 ∷ Stood 7 ∷ [])).slept ≡ 7000000
it_slept_so_long = refl

not_while_another_stood : (waking_behind (Stood 8 ∷ Passed 5000000 ∷ Stood 7 ∷ [])).slept ≡ 0
not_while_another_stood = refl

but_while_the_same_did : (waking_behind (Stood 7 ∷ Passed 5000000 ∷ Stood 7 ∷ [])).slept ≡ 5000000
but_while_the_same_did = refl

it_heard_before_it_slept : HasHeardEnough 3 (behind_sleep (Passed 100001 ∷ Beat 1 ∷ Beat 1 ∷ ReadAll ∷ [])) → ⊥
it_heard_before_it_slept heard = false≢true heard.0

a_short_pause_is_no_sleep : is_awake (waking_behind (Passed 100000 ∷ Beat 1 ∷ Beat 1 ∷ ReadAll ∷ [])) 3 ≡ true
unfolding is_enough
a_short_pause_is_no_sleep = refl

further_ones_alone : further 1 (Beat 1 ∷ Beat 2 ∷ ReadAll ∷ Beat 1 ∷ []) ≡ 1
further_ones_alone = refl

-- ---- the order

-- a seat that sits here alone has held the table for ten seconds, of twenty
abbrev held : Awaited
held = record { time = 50000000; patience = 20000000; over = false; hand_runs = true; quorate = true; replays = false; sits_here = true; sits_elsewhere = false; rank = 0; since = 40000000; ordered = None }

abbrev known : Expected
known = record { awaited = held; is_awake = true; is_open = true; turns = None; stood = 40000000; slept = 0; nodes = 3; crowded = 0 }

ten_are_left : order_due_of known ≡ Nothing 51000000
unfolding order_due_of is_to_order is_able turn_left due_in
ten_are_left = refl

after_its_patience : order_due_of (record known { awaited = record held { since = 30000000 } }) ≡ Now
unfolding order_due_of is_to_order is_able turn_left due_in
after_its_patience = refl

not_a_moment_before : order_due_of (record known { awaited = record held { since = 30000001 } }) ≡ Nothing 50000001
unfolding order_due_of is_to_order is_able turn_left due_in
not_a_moment_before = refl

what_it_slept_through_does_not_count : order_due_of (record known { awaited = record held { since = 30000000 }; slept = 400000 }) ≡ Nothing 50400000
unfolding order_due_of is_to_order is_able turn_left due_in
what_it_slept_through_does_not_count = refl

nor_for_the_longest : order_due_of (record known { awaited = record held { patience = 10000000; since = 49000000 }; stood = 10000000; slept = 400000 }) ≡ Nothing 50400000
unfolding order_due_of is_to_order is_able turn_left due_in
nor_for_the_longest = refl

two_steps_later_behind_two_others : order_due_of (record known { awaited = record held { rank = 2; since = 29950000 } }) ≡ Nothing 50010000
unfolding order_due_of is_to_order is_able turn_left due_in
two_steps_later_behind_two_others = refl

two_steps_later_where_it_sits_nowhere : order_due_of (record known { awaited = record held { sits_here = false; rank = 2; since = 29950000 } }) ≡ Nothing 50010000
unfolding order_due_of is_to_order is_able turn_left due_in
two_steps_later_where_it_sits_nowhere = refl

who_sits_here_too : order_due_of (record known { awaited = record held { sits_elsewhere = true; since = 30000000 } }) ≡ Now
unfolding order_due_of is_to_order is_able turn_left due_in
who_sits_here_too = refl

not_again_for_eight_seconds : order_due_of (record known { awaited = record held { since = 0; ordered = Some 42500000 } }) ≡ Nothing 50500000
unfolding order_due_of is_to_order is_able turn_left due_in
not_again_for_eight_seconds = refl

nor_for_the_patience_where_that_is_shorter : order_due_of (record known { awaited = record held { patience = 3000000; since = 0; ordered = Some 47000001 } }) ≡ Nothing 50000001
unfolding order_due_of is_to_order is_able turn_left due_in
nor_for_the_patience_where_that_is_shorter = refl

ordered_eight_seconds_ago : IsOrderedLongAgo (record held { ordered = Some 42000000 })
ordered_eight_seconds_ago = omega arith

ordered_just_now : IsOrderedLongAgo (record held { ordered = Some 42000001 }) → ⊥
ordered_just_now ago = omega arith

not_after_the_end : is_able (record held { over = true }) ≡ false
unfolding is_able
not_after_the_end = refl

not_between_hands : is_able (record held { hand_runs = false }) ≡ false
unfolding is_able
not_between_hands = refl

not_apart : is_able (record held { quorate = false }) ≡ false
unfolding is_able
not_apart = refl

not_while_it_replays : is_able (record held { replays = true }) ≡ false
unfolding is_able
not_while_it_replays = refl

not_asleep : order_due_of (record known { awaited = record held { since = 0 }; is_awake = false }) ≡ Nothing 51000000
unfolding order_due_of is_to_order is_able turn_left due_in
not_asleep = refl

not_before_all_came : order_due_of (record known { awaited = record held { since = 0 }; is_open = false }) ≡ Nothing 51000000
unfolding order_due_of is_to_order is_able turn_left due_in
not_before_all_came = refl

not_where_it_sits_elsewhere : order_due_of (record known { awaited = record held { sits_here = false; sits_elsewhere = true; since = 0 } }) ≡ Nothing 51000000
unfolding order_due_of is_to_order is_able turn_left due_in
not_where_it_sits_elsewhere = refl

-- four times ten seconds with three nodes
unless_for_the_longest : order_due_of (record known { awaited = record held { patience = 10000000; sits_here = false; sits_elsewhere = true; since = 49000000 }; stood = 10000000 }) ≡ Now
unfolding order_due_of is_to_order is_able turn_left due_in
unless_for_the_longest = refl

not_before_the_longest : order_due_of (record known { awaited = record held { patience = 10000000; sits_here = false; sits_elsewhere = true; since = 49000000 }; stood = 10000001 }) ≡ Nothing 51000000
unfolding order_due_of is_to_order is_able turn_left due_in
not_before_the_longest = refl

half_a_second_of_one_that_is_given_up : order_due_of (record known { awaited = record held { sits_here = false; since = 49500000 }; turns = Some 19; stood = 49500000 }) ≡ Now
unfolding order_due_of is_to_order is_able turn_left due_in
half_a_second_of_one_that_is_given_up = refl

and_no_less : order_due_of (record known { awaited = record held { sits_here = false; since = 49500001 }; turns = Some 0; stood = 49500001 }) ≡ Nothing 50000001
unfolding order_due_of is_to_order is_able turn_left due_in
and_no_less = refl

then_nothing : order_due_of (record known { awaited = record held { sits_here = false; since = 50000000 }; turns = Some 20; stood = 50000000 }) ≡ Now
unfolding order_due_of is_to_order is_able turn_left due_in
then_nothing = refl

-- it sits nowhere, and callers at its port were last kept out five seconds ago; it is waited for since forty seconds, of eighty
abbrev kept_out : Expected
kept_out = record known { awaited = record held { sits_here = false; since = 10000000 }; stood = 10000000; crowded = 45000000 }

it_may_be_kept_out : may_be_kept_out kept_out ≡ true
it_may_be_kept_out = refl

not_where_it_is_given_up : may_be_kept_out (record kept_out { turns = Some 0 }) ≡ false
not_where_it_is_given_up = refl

its_patience_counts_from_then : order_due_of kept_out ≡ Nothing 51000000
unfolding order_due_of is_to_order is_able turn_left due_in
its_patience_counts_from_then = refl

not_a_moment_before_that_has_passed : order_due_of (record kept_out { crowded = 30000001 }) ≡ Nothing 50000001
unfolding order_due_of is_to_order is_able turn_left due_in
not_a_moment_before_that_has_passed = refl

then_it_is_played_for : order_due_of (record kept_out { crowded = 30000000 }) ≡ Now
unfolding order_due_of is_to_order is_able turn_left due_in
then_it_is_played_for = refl

for_the_longest_at_most : order_due_of (record kept_out { awaited = record held { patience = 10000000; sits_here = false; since = 10000000 } }) ≡ Now
unfolding order_due_of is_to_order is_able turn_left due_in
for_the_longest_at_most = refl

not_one_that_sits_here : order_due_of (record kept_out { awaited = record held { since = 30000000 } }) ≡ Now
unfolding order_due_of is_to_order is_able turn_left due_in
not_one_that_sits_here = refl

nor_one_that_is_given_up : order_due_of (record kept_out { awaited = record held { sits_here = false; since = 49500000 }; turns = Some 0; stood = 49500000 }) ≡ Now
unfolding order_due_of is_to_order is_able turn_left due_in
nor_one_that_is_given_up = refl

it_has_held_the_table : HasBeenPatient (record known { awaited = record held { since = 30000000 } })
it_has_held_the_table = inl (omega arith)

or_for_the_longest : HasBeenPatient (record known { awaited = record held { patience = 10000000; since = 49000000 }; stood = 10000000 })
or_for_the_longest = inr (omega arith)

neither_yet : HasBeenPatient (record known { awaited = record held { since = 30000001 } }) → ⊥
neither_yet (inl waited) = omega (arith, waited)
neither_yet (inr waited) = omega (arith, waited)

no_longer_than_the_patience : turn_wait 100000 (Some 0) ≡ 100000
no_longer_than_the_patience = refl

twenty_halves : waits_together 3000000 25 ≡ 10000000
twenty_halves = refl
