-- What is kept from turn to turn, on values; moments in microseconds.
use Rattle.std.proofs.Common.{◌≡◌, ℕ, ◌*◌, true, false, List, [], ◌∷◌, Option, Some, None, refl, arith}
use Rattle.clockwork.specs.declared.known.PeerReport.{PeerReport}
use Rattle.clockwork.specs.declared.watch.Seen.{Seen}
use Rattle.clockwork.specs.declared.watch.Watch.{Watch}
use Rattle.clockwork.specs.declared.longest.Measure.{Measure}
use Rattle.clockwork.specs.declared.lateness.LateTurn.{LateTurn}
use Rattle.clockwork.specs.LateTurns.{late_behind, counted_of, later_than, AreLate}
use Rattle.clockwork.specs.Silence.{is_heard}
use Rattle.clockwork.specs.Measuring.{fresh, noted, lately, AreInOrder, AreWithin}
use Rattle.clockwork.specs.PeerReports.{report_after}
use Rattle.clockwork.specs.Watches.{watch_of, seen_at, stood, ticked_at, passed_in, waited}

-- heard within the limit, not at it, and at a moment that lies ahead
heard_within : is_heard 100 1099 1000 ≡ true
heard_within = refl

silent_at_the_limit : is_heard 100 1100 1000 ≡ false
silent_at_the_limit = refl

heard_ahead : is_heard 2000 100 1000 ≡ true
heard_ahead = refl

abbrev before : PeerReport
before = record { front = 10; below = 100; campaigns = true; told = 50; over = false; risen = 70 }

-- it stands still below this node's front, and campaigns as it did
stands_still : report_after (Some before) 10 true false 12 900 ≡ before
stands_still = refl

-- it isn't below: from now on it may be
not_below : report_after (Some before) 10 true false 10 900 ≡ record { front = 10; below = 900; campaigns = true; told = 50; over = false; risen = 70 }
not_below = refl

-- it no longer campaigns, as it first tells now
no_longer_campaigns : report_after (Some before) 10 false false 12 900 ≡ record { front = 10; below = 100; campaigns = false; told = 900; over = false; risen = 70 }
no_longer_campaigns = refl

first_heartbeat : report_after None 10 true true 12 900 ≡ record { front = 10; below = 900; campaigns = true; told = 900; over = true; risen = 900 }
first_heartbeat = refl

-- its front rises; and it went back, since the peer began anew over the same connection
it_rises : report_after (Some before) 11 true false 12 900 ≡ record { front = 11; below = 900; campaigns = true; told = 50; over = false; risen = 900 }
it_rises = refl

it_went_back : (report_after (Some before) 9 true false 12 900).risen ≡ 70
it_went_back = refl

abbrev seen : ℕ → Option ℕ → Seen
seen front promised = record { front = front; promised = promised; campaigns = false; over = false; hand_runs = true; act_waits = true; vote_waits = false }

abbrev ticked : Watch
ticked = ticked_at (ticked_at (watch_of (seen 5 None) 100) 200) 300

two_in_vain : ticked.ticks ≡ Some (record { last = 300; in_vain = 2 })
two_in_vain = refl

-- the front moves: no tick was in vain
front_moves : (seen_at ticked (seen 6 None) 7 400).ticks ≡ Some (record { last = 300; in_vain = 0 })
front_moves = refl

front_stays : (seen_at ticked (seen 5 (Some 1)) 7 400).moved ≡ 100
front_stays = refl

promise_changes : (seen_at ticked (seen 5 (Some 1)) 7 400).promised_since ≡ 400
promise_changes = refl

-- work counts from when it is there without a break, and not while the node is behind
work_stays : (stood (stood ticked true false 500) true false 600).work_since ≡ Some 500
work_stays = refl

work_behind : (stood (stood ticked true false 500) true true 600).work_since ≡ None
work_behind = refl

-- it is behind since 500, and sleeps: at once behind that, when its front moved meanwhile, where that is no sleep, and longer than it was behind
abbrev falls_behind : Watch
falls_behind = stood ticked false true 500

waits_on_where_it_was : (passed_in falls_behind 600000 1000000).behind_since ≡ Some 600500
waits_on_where_it_was = refl

from_where_its_front_moved : (passed_in (seen_at falls_behind (seen 6 None) 7 300000) 600000 1000000).behind_since ≡ Some 900000
from_where_its_front_moved = refl

a_short_one_is_no_sleep : (passed_in falls_behind 100000 1000000).behind_since ≡ Some 500
a_short_one_is_no_sleep = refl

never_beyond_now : (passed_in falls_behind 999999 1000000).behind_since ≡ Some 1000000
never_beyond_now = refl

not_where_it_is_not_behind : (passed_in ticked 600000 1000000).behind_since ≡ None
not_where_it_is_not_behind = refl

work_counts_on : (passed_in (stood ticked true false 500) 600000 1000000).work_since ≡ Some 500
work_counts_on = refl

it_has_waited_awake : waited (passed_in falls_behind 600000 1000000) 1000000 ≡ 399500
it_has_waited_awake = refl

-- ---- late turns, in stretches of a second; moments of these in milliseconds

abbrev turn : (late at : ℕ) → LateTurn
turn late at = record { late = late * 1000; at = at * 1000 }

-- five milliseconds of each hundred: of each burst the first turn alone is late
abbrev starved : List LateTurn
starved = turn 95 21110 ∷ turn 0 21015 ∷ turn 95 21010 ∷ turn 0 20910 ∷ turn 93 20905 ∷ turn 0 20015 ∷ turn 96 20010 ∷ []

so_much_counts : counted_of (late_behind starved) ≡ 95000
so_much_counts = refl

the_stretch_before_had_more : late_behind starved ≡ record { begun = 21010000; newest = 95000; before = 96000 }
the_stretch_before_had_more = refl

-- one hang of thirty seconds, at its end and later
a_hang : counted_of (late_behind (turn 30000 50500 ∷ turn 2 20100 ∷ turn 1 20000 ∷ [])) ≡ 2000
a_hang = refl

and_later : counted_of (late_behind (turn 3 52000 ∷ turn 1 51000 ∷ turn 30000 50500 ∷ turn 2 20100 ∷ turn 1 20000 ∷ [])) ≡ 3000
and_later = refl

two_in_a_row : counted_of (late_behind (turn 20000 71000 ∷ turn 30000 50500 ∷ turn 2 20100 ∷ [])) ≡ 20000000
two_in_a_row = refl

one_was_later : later_than 3000 (turn 1 51000 ∷ turn 30000 50500 ∷ turn 2 20100 ∷ []) ≡ 1
one_was_later = refl

both_were_late : AreLate (turn 30000 50500 ∷ turn 20000 20100 ∷ []) 20000000 71000000
both_were_late = (omega arith, (omega arith, (omega arith, omega arith)))

one_was_not : AreLate (turn 30000 50500 ∷ turn 19999 20100 ∷ []) 20000000 71000000 → ⊥
one_was_not late = let first = late.1.1.0 in omega arith

what_counts_counts_as_a_call : (passed_in (passed_in (passed_in ticked 95000 20000000) 93000 20999999) 94000 21000000).calls ≡ record { begun = 0; newest = 94000; middle = 0; oldest = 0 }
what_counts_counts_as_a_call = refl

-- ---- the longest of the last minute; parts are of half a minute

a_quick_one_has_nothing_forgotten : lately (noted (noted fresh 10000000 20000000) 1000 79000000) 80000000 ≡ 10000000
a_quick_one_has_nothing_forgotten = refl

it_counts_for_a_minute : lately (noted fresh 10000000 20000000) 80000000 ≡ 10000000
it_counts_for_a_minute = refl

half_a_minute_later_it_is_forgotten : lately (noted fresh 10000000 20000000) 110000000 ≡ 0
half_a_minute_later_it_is_forgotten = refl

calls_are_measured : (seen_at ticked (seen 6 None) 7 400).calls ≡ record { begun = 0; newest = 7; middle = 0; oldest = 0 }
calls_are_measured = refl

abbrev measures : List Measure
measures = record { length = 1000; at = 80000000 } ∷ record { length = 5000; at = 20000000 } ∷ []

in_order : AreInOrder measures 90000000
in_order = (omega arith, (omega arith, tt))

one_that_lies_ahead : AreInOrder measures 79000000 → ⊥
one_that_lies_ahead order = let first = order.0 in omega arith

the_older_is_longer_but_too_old : AreWithin measures 90000000 60000001 1000
the_older_is_longer_but_too_old = ((λ young. omega arith), ((λ young. absurd (omega arith)), tt))

not_where_it_is_young : AreWithin measures 80000000 60000001 1000 → ⊥
not_where_it_is_young within = let older = within.1.0 (omega arith) in omega arith
