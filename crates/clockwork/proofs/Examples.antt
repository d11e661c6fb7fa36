-- What is due, on values. Lengths of time are in microseconds.
use Rattle.std.proofs.Common.{◌≡◌, ℕ, true, false, refl, inl, [], ◌∷◌, List, Option, Some, None, arith}
use Rattle.clockwork.specs.declared.known.PeerReport.{PeerReport}
use Rattle.clockwork.specs.declared.known.Link.{Link}
use Rattle.clockwork.specs.declared.known.Link.TheVariants.{Closed, Open}
use Rattle.clockwork.specs.declared.known.Peer.{Peer}
use Rattle.clockwork.specs.declared.known.Known.{Known}
use Rattle.clockwork.specs.declared.answer.Due.TheVariants.{Now, Nothing}
use Rattle.clockwork.specs.declared.standing.Standing.TheVariants.{Campaigns, Fresh, Led, Lost, Idle, Follows}
use Rattle.clockwork.specs.Silence.{closing}
use Rattle.clockwork.specs.Waits.{left, times, doubled, again}
use Rattle.clockwork.specs.Presence.{slowest, pace_of, most_of, silence_of, lag_of, soon_of, told, present, is_quorate, is_above, is_behind, can_help, one_can_help, behind_wait}
use Rattle.clockwork.specs.Ranks.{is_before, rank_by_number, turn, comes_sooner, rank_behind, is_as_far, rank_as_far}
use Rattle.clockwork.specs.Helping.{lag_within, lagging, has_passed, lagging_left, least_left, help_left, one_lags}
use Rattle.clockwork.specs.Standings.{idle_since, gone_since, standing_over, standing_behind, standing_to}
use Rattle.clockwork.specs.Work.{has_work, is_reopened, one_reopened, steps_by_number, steps_behind, is_untold, idle_wait, row_left, one_campaigns, campaigns_by, yield_left, back_left, work_left}
use Rattle.clockwork.specs.Teaching.{told_by_leader, teaches, teaching_left, taught_left}
use Rattle.clockwork.specs.Dues.{due_in, behind_left, awaited, due_of}
use Rattle.clockwork.specs.Laws.{replays, LongAgo, HasWaited, IsReason, to_catch_up, for_a_peer, to_work, to_be_heard, IsLinkPast, longest_wait, heard_again}

-- ---- waits

some_is_left : left 100 60 50 ≡ 10
some_is_left = refl

it_has_passed : left 100 50 50 ≡ 0
it_has_passed = refl

one_that_lies_ahead_begins_now : left 100 120 50 ≡ 50
one_that_lies_ahead_begins_now = refl

not_doubled_without_a_tick : doubled 1000000 0 8000000 ≡ 1000000
unfolding times
not_doubled_without_a_tick = refl

doubled_for_each_tick : doubled 1000000 2 8000000 ≡ 4000000
unfolding times
doubled_for_each_tick = refl

to_a_bound : doubled 1000000 200 8000000 ≡ 8000000
unfolding times
to_a_bound = refl

but_never_shorter : doubled 3000000 1 2000000 ≡ 3000000
unfolding times
but_never_shorter = refl

a_tick_that_moved_the_front_is_not_waited_for : again 100 (Some (record { last = 99; in_vain = 0 })) 1000000 8000000 ≡ 0
a_tick_that_moved_the_front_is_not_waited_for = refl

-- ---- how long is waited

pace_is_a_second : pace_of 1000 ≡ 1000000
unfolding pace_of
pace_is_a_second = refl

or_eight_times_the_slowest : pace_of 5000000 ≡ 40000000
unfolding pace_of
or_eight_times_the_slowest = refl

at_most_256_seconds : pace_of 32000001 ≡ 256000000
unfolding pace_of
at_most_256_seconds = refl

doubled_to_eight_seconds : most_of 1000 ≡ 8000000
unfolding most_of pace_of
doubled_to_eight_seconds = refl

or_to_eight_times_the_wait : most_of 500000 ≡ 32000000
unfolding most_of pace_of
or_to_eight_times_the_wait = refl

never_beyond_256_seconds : most_of 4000001 ≡ 256000000
unfolding most_of pace_of
never_beyond_256_seconds = refl

silent_for_a_second : silence_of 1000 ≡ 1000000
unfolding silence_of
silent_for_a_second = refl

or_for_twice_the_slowest : silence_of 5000000 ≡ 10000000
unfolding silence_of
or_for_twice_the_slowest = refl

at_most_for_64_seconds : silence_of 32000001 ≡ 64000000
unfolding silence_of
at_most_for_64_seconds = refl

lag_is_200_milliseconds : lag_of 1000 ≡ 200000
unfolding lag_of
lag_is_200_milliseconds = refl

or_twice_the_slowest : lag_of 300000 ≡ 600000
unfolding lag_of
or_twice_the_slowest = refl

soon_is_a_step : soon_of 1000 ≡ 30000
unfolding soon_of
soon_is_a_step = refl

or_as_long_as_the_slowest : soon_of 150000 ≡ 150000
unfolding soon_of
or_as_long_as_the_slowest = refl

closed_after_four_silences : closing 10000000 5000000 ≡ 40000000
closed_after_four_silences = refl

never_before_the_longest_that_was_measured : closing 64000000 300000000 ≡ 300000000
never_before_the_longest_that_was_measured = refl

more_than_64_seconds_count_as_64 : closing 65000000 0 ≡ 256000000
more_than_64_seconds_count_as_64 = refl

-- ---- who is present

-- a peer that told this front at a second
abbrev beat_of : ℕ → PeerReport
beat_of front = record { front = front; below = 1000000; campaigns = false; told = 1000000; over = false; risen = 1000000 }

abbrev heard_at : ℕ → Option PeerReport → Link
heard_at heard beat = Open (record { opened = 500000; heard = heard; unanswered = false; beat = beat })

abbrev peer_at : ℕ → Link → Peer
peer_at number link = record { number = number; accepted = None; longest = 1000; link = link }

the_slowest_of_peers_and_calls : slowest 700 (peer_at 0 (Closed 0) ∷ record (peer_at 2 (Closed 0)) { longest = 1000 } ∷ []) ≡ 1000
unfolding slowest
the_slowest_of_peers_and_calls = refl

a_call_may_be_the_slowest : slowest 2000 (peer_at 0 (Closed 0) ∷ record (peer_at 2 (Closed 0)) { longest = 1000 } ∷ []) ≡ 2000
unfolding slowest
a_call_may_be_the_slowest = refl

heard_in_time : told 5000000 1000 (heard_at 4000001 (Some (beat_of 7))) ≡ Some (beat_of 7)
unfolding told silence_of
heard_in_time = refl

silent_for_too_long : told 5000000 1000 (heard_at 4000000 (Some (beat_of 7))) ≡ None
unfolding told silence_of
silent_for_too_long = refl

one_of_two_is_enough : is_quorate 5000000 1000 (peer_at 0 (Closed 0) ∷ peer_at 2 (heard_at 5000000 (Some (beat_of 7))) ∷ []) ≡ true
unfolding is_quorate present told silence_of
one_of_two_is_enough = refl

not_where_it_told_nothing : is_quorate 5000000 1000 (peer_at 0 (Closed 0) ∷ peer_at 2 (heard_at 5000000 None) ∷ []) ≡ false
unfolding is_quorate present told silence_of
not_where_it_told_nothing = refl

one_of_four_is_not : is_quorate 5000000 1000 (peer_at 0 (Closed 0) ∷ peer_at 2 (heard_at 5000000 (Some (beat_of 7))) ∷ peer_at 3 (Closed 0) ∷ peer_at 4 (Closed 0) ∷ []) ≡ false
unfolding is_quorate present told silence_of
one_of_four_is_not = refl

behind_a_greater_front : is_behind 5000000 1000 6 (peer_at 2 (heard_at 5000000 (Some (beat_of 7))) ∷ []) ≡ true
unfolding is_behind is_above told silence_of
behind_a_greater_front = refl

not_behind_its_own : is_behind 5000000 1000 7 (peer_at 2 (heard_at 5000000 (Some (beat_of 7))) ∷ []) ≡ false
unfolding is_behind is_above told silence_of
not_behind_its_own = refl

one_that_goes_on_can_help : can_help 6 (Some (beat_of 7)) ≡ true
unfolding can_help
one_that_goes_on_can_help = refl

one_whose_match_is_over_cannot : can_help 6 (Some (record (beat_of 7) { over = true })) ≡ false
unfolding can_help
one_whose_match_is_over_cannot = refl

two_seconds_where_one_can : behind_wait 5000000 1000 6 (peer_at 2 (heard_at 5000000 (Some (beat_of 7))) ∷ []) ≡ 2000000
unfolding one_can_help can_help told silence_of lag_of
two_seconds_where_one_can = refl

a_fifth_of_one_where_none_can : behind_wait 5000000 1000 6 (peer_at 2 (heard_at 5000000 (Some (record (beat_of 7) { over = true }))) ∷ []) ≡ 200000
unfolding one_can_help can_help told silence_of lag_of
a_fifth_of_one_where_none_can = refl

-- ---- ranks

next_behind_the_leader : comes_sooner (Some (beat_of 7)) 1 2 0 ≡ true
unfolding comes_sooner turn
next_behind_the_leader = refl

the_leader_comes_last : comes_sooner (Some (beat_of 7)) 1 1 0 ≡ false
unfolding comes_sooner turn
the_leader_comes_last = refl

one_of_these_has_a_lower_number : rank_by_number 5000000 1000 1 (peer_at 0 (heard_at 5000000 (Some (beat_of 7))) ∷ peer_at 2 (heard_at 5000000 (Some (beat_of 7))) ∷ []) ≡ 1
unfolding rank_by_number is_before told silence_of
one_of_these_has_a_lower_number = refl

an_absent_one_is_not_counted : rank_by_number 5000000 1000 1 (peer_at 0 (Closed 0) ∷ []) ≡ 0
unfolding rank_by_number is_before told silence_of
an_absent_one_is_not_counted = refl

both_come_sooner_behind_the_second : rank_behind 5000000 1000 1 1 (peer_at 0 (heard_at 5000000 (Some (beat_of 7))) ∷ peer_at 2 (heard_at 5000000 (Some (beat_of 7))) ∷ []) ≡ 2
unfolding rank_behind comes_sooner turn told silence_of
both_come_sooner_behind_the_second = refl

none_comes_sooner_behind_the_first : rank_behind 5000000 1000 0 1 (peer_at 0 (heard_at 5000000 (Some (beat_of 7))) ∷ peer_at 2 (heard_at 5000000 (Some (beat_of 7))) ∷ []) ≡ 0
unfolding rank_behind comes_sooner turn told silence_of
none_comes_sooner_behind_the_first = refl

one_as_far_comes_before : rank_as_far 5000000 1000 7 1 (peer_at 0 (heard_at 5000000 (Some (beat_of 7))) ∷ []) ≡ 1
unfolding rank_as_far is_as_far told silence_of
one_as_far_comes_before = refl

one_that_lags_does_not : rank_as_far 5000000 1000 7 1 (peer_at 0 (heard_at 5000000 (Some (beat_of 6))) ∷ []) ≡ 0
unfolding rank_as_far is_as_far told silence_of
one_that_lags_does_not = refl

-- ---- lagging

none_was_sent : lag_within 1000 None 6 ≡ Some 200000
unfolding lag_within lag_of pace_of
none_was_sent = refl

one_below_its_front : lag_within 1000 (Some 5) 6 ≡ Some 200000
unfolding lag_within lag_of pace_of
one_below_its_front = refl

one_at_its_front : lag_within 1000 (Some 6) 6 ≡ Some 1000000
unfolding lag_within lag_of pace_of
one_at_its_front = refl

one_above_its_front_makes_it_ask : lag_within 1000 (Some 7) 6 ≡ None
unfolding lag_within lag_of pace_of
one_above_its_front_makes_it_ask = refl

a_wait_runs_for_one_below : lagging 1000 7 None (Some (beat_of 6)) ≡ Some (record { since = 1000000; length = 200000 })
unfolding lagging lag_within lag_of pace_of
a_wait_runs_for_one_below = refl

none_for_one_that_is_not : lagging 1000 7 None (Some (beat_of 7)) ≡ None
unfolding lagging lag_within lag_of pace_of
none_for_one_that_is_not = refl

the_wait_has_passed : has_passed 1200000 (Some (record { since = 1000000; length = 200000 })) ≡ true
unfolding has_passed
the_wait_has_passed = refl

it_has_not_yet : has_passed 1199999 (Some (record { since = 1000000; length = 200000 })) ≡ false
unfolding has_passed
it_has_not_yet = refl

the_first_that_lags_is_helped : least_left 1100000 1000 7 0 (peer_at 0 (heard_at 1000000 (Some (beat_of 6))) ∷ peer_at 2 (heard_at 1000000 (Some (beat_of 7))) ∷ []) ≡ 100000
unfolding least_left lagging_left lagging lag_within told silence_of lag_of pace_of
the_first_that_lags_is_helped = refl

a_look_where_none_lags : least_left 1100000 1000 7 0 (peer_at 2 (heard_at 1000000 (Some (beat_of 7))) ∷ []) ≡ 1000000
unfolding least_left lagging_left lagging lag_within told silence_of lag_of pace_of
a_look_where_none_lags = refl

-- ---- all that is known: a process of node 1 of three at five seconds

abbrev with_peers : Known → List Peer → Known
with_peers any peers = record any {
  time = 5000000;
  number = 1;
  peers = record any.peers { now = peers };
  front = 7;
  moved = 1000000;
  promised = Some 0;
  promised_since = 1000000;
  campaigns = false;
  was_led = true;
  over = false;
  hand_runs = true;
  act_waits = false;
  vote_waits = false;
  work_since = 1000000;
  behind_since = 1000000;
  ticks = None;
  longest_call = 1000;
}

abbrev lost : Known → Known
lost any = with_peers any (peer_at 0 (Closed 4999000) ∷ peer_at 2 (heard_at 5000000 (Some (beat_of 7))) ∷ [])

among_two : Known → Link → Known
among_two any first = with_peers any (peer_at 0 first ∷ peer_at 2 (heard_at 5000000 (Some (beat_of 7))) ∷ [])

it_campaigns : (any : Known) → standing_to (record (lost any) { campaigns = true }) 1000 1 ≡ Campaigns
unfolding standing_to
it_campaigns any = refl

nobody_has_led : (any : Known) → standing_to (record (lost any) { was_led = false }) 1000 0 ≡ Fresh
unfolding standing_to
nobody_has_led any = refl

it_led_itself : (any : Known) → standing_to (lost any) 1000 1 ≡ Led
unfolding standing_to
it_led_itself any = refl

its_leader_is_gone : (any : Known) → standing_to (lost any) 1000 0 ≡ Lost 0 4999000
unfolding standing_to standing_behind standing_over gone_since silence_of
its_leader_is_gone any = refl

its_leader_is_silent : (any : Known) → standing_to (among_two any (heard_at 3900000 (Some (record (beat_of 7) { campaigns = true })))) 1000 0 ≡ Lost 0 4900000
unfolding among_two standing_to standing_behind standing_over gone_since silence_of
its_leader_is_silent any = refl

its_leader_told_that_it_does_not_lead : (any : Known) → standing_to (among_two any (heard_at 5000000 (Some (beat_of 7)))) 1000 0 ≡ Idle 0 1000000
unfolding among_two standing_to standing_behind standing_over gone_since idle_since told silence_of
its_leader_told_that_it_does_not_lead any = refl

it_follows : (any : Known) → standing_to (among_two any (heard_at 5000000 (Some (record (beat_of 7) { campaigns = true })))) 1000 0 ≡ Follows 0
unfolding among_two standing_to standing_behind standing_over gone_since idle_since told silence_of
it_follows any = refl

an_act_is_work : (any : Known) → has_work (record (lost any) { act_waits = true }) ≡ true
unfolding has_work
an_act_is_work any = refl

and_so_is_a_hand_to_deal : (any : Known) → has_work (record (lost any) { hand_runs = false }) ≡ true
unfolding has_work
and_so_is_a_hand_to_deal any = refl

and_a_vote_at_the_front : (any : Known) → has_work (record (lost any) { vote_waits = true }) ≡ true
unfolding has_work
and_a_vote_at_the_front any = refl

it_replays_with_one : (any : Known) → replays (record (lost any) { vote_waits = true }) ≡ true
it_replays_with_one any = refl

and_where_it_is_behind : (any : Known) → replays (record (among_two any (heard_at 5000000 (Some (beat_of 8)))) { vote_waits = false }) ≡ true
unfolding among_two is_behind is_above told pace_of slowest silence_of
and_where_it_is_behind any = refl

not_once_it_is_over : (any : Known) → replays (record (lost any) { vote_waits = true; over = true }) ≡ false
not_once_it_is_over any = refl

not_at_rest : (any : Known) → replays (lost any) ≡ false
unfolding is_behind is_above told pace_of slowest silence_of
not_at_rest any = refl

none_where_the_match_is_over : (any : Known) → has_work (record (lost any) { act_waits = true; over = true }) ≡ false
unfolding has_work
none_where_the_match_is_over any = refl

it_opened_since_the_tick : is_reopened (Some (record { last = 499999; in_vain = 1 })) (Open (record { opened = 500000; heard = 500000; unanswered = true; beat = None })) ≡ true
unfolding is_reopened
it_opened_since_the_tick = refl

it_opened_before_the_tick : is_reopened (Some (record { last = 500000; in_vain = 1 })) (Open (record { opened = 500000; heard = 500000; unanswered = true; beat = None })) ≡ false
unfolding is_reopened
it_opened_before_the_tick = refl

nothing_is_owed : is_reopened None (heard_at 500000 None) ≡ false
unfolding is_reopened
nothing_is_owed = refl

one_that_led_ticks_at_once : (any : Known) → row_left (lost any) 1000 Led ≡ 0
unfolding row_left pace_of most_of
one_that_led_ticks_at_once any = refl

one_that_follows_waits : (any : Known) → row_left (record (lost any) { work_since = 4500000 }) 1000 (Follows 2) ≡ 500000
unfolding row_left steps_behind rank_behind comes_sooner turn told times silence_of pace_of most_of
one_that_follows_waits any = refl

an_idle_leader_is_left_a_step : (any : Known) → row_left (record (lost any) { act_waits = true; work_since = 4990000; longest_call = 1000 }) 1000 (Idle 0 4980000) ≡ 20000
unfolding row_left idle_wait soon_of slowest pace_of most_of
an_idle_leader_is_left_a_step any = refl

of_those_who_would_deal_one_after_another : (any : Known) → idle_wait (record (lost any) { act_waits = false; longest_call = 1000; number = 1 }) 1000 2 ≡ 30000
unfolding idle_wait soon_of slowest steps_behind rank_behind comes_sooner turn told silence_of
of_those_who_would_deal_one_after_another any = refl

an_act_from_before_the_promise : (any : Known) → is_untold (record any { act_waits = true; vote_waits = false; work_since = 4000000; promised_since = 4000001 }) ≡ true
unfolding is_untold
an_act_from_before_the_promise any = refl

an_act_that_went_on_to_the_leader : (any : Known) → is_untold (record any { act_waits = true; vote_waits = false; work_since = 4000000; promised_since = 4000000 }) ≡ false
unfolding is_untold
an_act_that_went_on_to_the_leader any = refl

an_act_behind_a_vote : (any : Known) → is_untold (record any { act_waits = true; vote_waits = true; work_since = 4000000; promised_since = 4000001 }) ≡ false
unfolding is_untold
an_act_behind_a_vote any = refl

a_hand_to_deal_is_no_act : (any : Known) → is_untold (record any { act_waits = false; work_since = 4000000; promised_since = 4000001 }) ≡ false
unfolding is_untold
a_hand_to_deal_is_no_act any = refl

abbrev overtaken : Known → Known
overtaken any = record (lost any) { act_waits = true; work_since = 4000000; promised_since = 4000001; longest_call = 1000 }

an_act_that_is_untold_ticks_at_once : (any : Known) → work_left (overtaken any) 1000 (Follows 2) ≡ 0
unfolding work_left is_untold back_left pace_of most_of
an_act_that_is_untold_ticks_at_once any = refl

and_soon_again : (any : Known) → work_left (record (overtaken any) { ticks = Some (record { last = 4990000; in_vain = 1 }) }) 1000 (Follows 2) ≡ 50000
unfolding work_left is_untold soon_of slowest times back_left pace_of most_of
and_soon_again any = refl

-- it campaigns, its act waits, and one who owes an answer is back since its last tick, which was the second in vain or the first
abbrev is_back : Known → ℕ → Known
is_back any ticks =
    record (with_peers any (peer_at 0 (Open (record { opened = 4990000; heard = 5000000; unanswered = true; beat = Some (beat_of 7) })) ∷ peer_at 2 (Closed 0) ∷ [])) {
      campaigns = true;
      act_waits = true;
      ticks = Some (record { last = 4980000; in_vain = ticks });
    }

it_ticks_at_once_for_one_that_is_back : (any : Known) → work_left (is_back any 1) 1000 Campaigns ≡ 0
unfolding work_left one_reopened is_reopened back_left most_of pace_of
it_ticks_at_once_for_one_that_is_back any = refl

but_waits_from_the_second_in_vain_on : (any : Known) → work_left (is_back any 2) 1000 Campaigns ≡ 3980000
unfolding work_left one_reopened is_reopened back_left pace_of times most_of
but_waits_from_the_second_in_vain_on any = refl

a_vote_is_left_to_one_that_campaigns : (any : Known) → yield_left (record (among_two any (heard_at 5000000 (Some (record (beat_of 7) { campaigns = true })))) { work_since = 4500000 }) 1000 ≡ 530000
unfolding among_two yield_left one_campaigns campaigns_by told steps_by_number rank_by_number is_before times silence_of pace_of most_of
a_vote_is_left_to_one_that_campaigns any = refl

but_not_an_act : (any : Known) → yield_left (record (among_two any (heard_at 5000000 (Some (record (beat_of 7) { campaigns = true })))) { act_waits = true }) 1000 ≡ 0
unfolding yield_left pace_of most_of
but_not_an_act any = refl

nor_where_nobody_campaigns : (any : Known) → yield_left (among_two any (heard_at 5000000 (Some (beat_of 7)))) 1000 ≡ 0
unfolding among_two yield_left one_campaigns campaigns_by told silence_of pace_of most_of
nor_where_nobody_campaigns any = refl

nothing_without_work : (any : Known) → due_of (lost any) ≡ Nothing 6000000
unfolding due_of slowest pace_of is_quorate present told awaited is_behind is_above has_work help_left lag_of least_left lagging_left lagging rank_as_far is_as_far due_in silence_of
nothing_without_work any = refl

a_lost_leader_is_followed_at_once : (any : Known) → due_of (record (lost any) { act_waits = true }) ≡ Now
unfolding due_of slowest pace_of is_quorate present told awaited is_behind is_above has_work help_left lag_of least_left lagging_left lagging rank_as_far is_as_far due_in work_left standing_to standing_behind standing_over gone_since row_left yield_left silence_of back_left most_of
a_lost_leader_is_followed_at_once any = refl

not_without_a_quorum : (any : Known) → due_of (record (with_peers any (peer_at 0 (Closed 4999000) ∷ peer_at 2 (Closed 4999000) ∷ [])) { act_waits = true }) ≡ Nothing 6000000
unfolding due_of slowest pace_of is_quorate present told due_in silence_of
not_without_a_quorum any = refl

one_that_is_behind_waits : (any : Known) → due_of (record (with_peers any (peer_at 0 (Closed 4999000) ∷ peer_at 2 (heard_at 5000000 (Some (beat_of 8))) ∷ [])) { act_waits = true; behind_since = 4900000 }) ≡ Nothing 6000000
unfolding due_of slowest pace_of is_quorate present told awaited is_behind is_above behind_left one_can_help can_help steps_by_number rank_by_number is_before due_in silence_of lag_of most_of taught_left told_by_leader teaching_left
one_that_is_behind_waits any = refl

-- ---- a node that is behind, and its leader

-- node 0 leads; its front is 8, and rose then
abbrev leader_risen : ℕ → PeerReport
leader_risen moment = record (beat_of 8) { campaigns = true; risen = moment }

it_teaches_for_a_second : teaches 5000000 1000 7 (Some (leader_risen 4000001)) ≡ true
unfolding teaches pace_of
it_teaches_for_a_second = refl

and_then_no_longer : teaches 5000000 1000 7 (Some (leader_risen 4000000)) ≡ false
unfolding teaches pace_of
and_then_no_longer = refl

not_what_is_known_here : teaches 5000000 1000 8 (Some (leader_risen 5000000)) ≡ false
unfolding teaches
not_what_is_known_here = refl

not_once_its_match_is_over : teaches 5000000 1000 7 (Some (record (leader_risen 5000000) { over = true })) ≡ false
unfolding teaches
not_once_its_match_is_over = refl

so_much_is_left : teaching_left 5000000 1000 7 (Some (leader_risen 4300000)) ≡ 300000
unfolding teaching_left pace_of
so_much_is_left = refl

nothing_of_one_that_is_over : teaching_left 5000000 1000 7 (Some (record (leader_risen 4300000) { over = true })) ≡ 0
unfolding teaching_left
nothing_of_one_that_is_over = refl

the_leader_told : (any : Known) → told_by_leader (among_two any (heard_at 5000000 (Some (leader_risen 4300000)))) 1000 (Some 0) ≡ Some (leader_risen 4300000)
unfolding among_two told_by_leader told silence_of
the_leader_told any = refl

not_one_that_is_silent : (any : Known) → told_by_leader (among_two any (heard_at 4000000 (Some (leader_risen 4300000)))) 1000 (Some 0) ≡ None
unfolding among_two told_by_leader told silence_of
not_one_that_is_silent any = refl

nor_itself : (any : Known) → told_by_leader (among_two any (heard_at 5000000 (Some (leader_risen 4300000)))) 1000 (Some 1) ≡ None
unfolding among_two told_by_leader
nor_itself any = refl

nor_where_none_is_promised : (any : Known) → told_by_leader (lost any) 1000 None ≡ None
unfolding told_by_leader
nor_where_none_is_promised any = refl

-- it has been behind for four seconds, of two that it waits
it_leaves_its_leader_alone : (any : Known) → due_of (record (among_two any (heard_at 5000000 (Some (leader_risen 4300000)))) { act_waits = true }) ≡ Nothing 5300000
unfolding among_two due_of slowest pace_of is_quorate present told awaited is_behind is_above behind_left one_can_help can_help steps_by_number rank_by_number is_before due_in silence_of lag_of most_of taught_left told_by_leader teaching_left
it_leaves_its_leader_alone any = refl

for_a_second : (any : Known) → due_of (among_two any (heard_at 5000000 (Some (leader_risen 4000000)))) ≡ Now
unfolding among_two due_of slowest pace_of is_quorate present told awaited is_behind is_above behind_left one_can_help can_help steps_by_number rank_by_number is_before due_in silence_of lag_of most_of taught_left told_by_leader teaching_left
for_a_second any = refl

but_no_other_node : (any : Known) → due_of (record (among_two any (heard_at 5000000 (Some (leader_risen 4300000)))) { promised = Some 2 }) ≡ Now
unfolding among_two due_of slowest pace_of is_quorate present told awaited is_behind is_above behind_left one_can_help can_help steps_by_number rank_by_number is_before due_in silence_of lag_of most_of taught_left told_by_leader teaching_left
but_no_other_node any = refl

-- ---- the laws' words

ticked_long_ago : LongAgo 100000 (Some (record { last = 95000; in_vain = 1 })) 5000
ticked_long_ago = omega arith

ticked_just_now : LongAgo 100000 (Some (record { last = 95001; in_vain = 1 })) 5000 → ⊥
ticked_just_now late = omega arith

past_moments : IsLinkPast 5000000 (heard_at 5000000 (Some (beat_of 7)))
past_moments = (omega arith, (omega arith, (omega arith, omega arith)))

a_rise_that_lies_ahead : IsLinkPast 5000000 (heard_at 5000000 (Some (record (beat_of 7) { risen = 5000001 }))) → ⊥
a_rise_that_lies_ahead past = let rise = past.1.1.1 in omega arith

a_moment_that_lies_ahead : IsLinkPast 4000000 (heard_at 4000001 None) → ⊥
a_moment_that_lies_ahead past = let first = past.0 in omega arith

a_present_peer_is_heard_again : heard_again 5000000 1000 15000000 (heard_at 4500000 None) ≡ heard_at 15000000 None
unfolding silence_of
a_present_peer_is_heard_again = refl

one_that_is_silent_is_not : heard_again 5000000 1000 15000000 (heard_at 4000000 None) ≡ heard_at 4000000 None
unfolding silence_of
one_that_is_silent_is_not = refl

waited_for_the_doubled_time : (any : Known) → HasWaited (lost any) (Some (record { last = 3000000; in_vain = 1 })) 1000000 8000000
unfolding times
waited_for_the_doubled_time any = λ some. omega arith

not_for_so_long : (any : Known) → HasWaited (lost any) (Some (record { last = 3000001; in_vain = 1 })) 1000000 8000000 → ⊥
unfolding times
not_for_so_long any waited = let long = waited (omega arith) in omega arith

an_act_is_a_reason : (any : Known) → IsReason (record (lost any) { act_waits = true })
unfolding is_behind is_above told has_work pace_of slowest silence_of
an_act_is_a_reason any = to_work refl refl (inl tt)

there_is_none_at_rest : (any : Known) → IsReason (lost any) → ⊥
unfolding is_behind is_above told has_work pace_of slowest one_lags has_passed lagging lag_of is_untold silence_of
there_is_none_at_rest any (to_catch_up is untaught waited) = cc
there_is_none_at_rest any (for_a_peer front is waited) = cc
there_is_none_at_rest any (to_work front is waited) = cc
there_is_none_at_rest any (to_be_heard front is waited) = cc

a_second_and_a_step_at_rest : (any : Known) → longest_wait (lost any) ≡ 2030000
unfolding slowest pace_of times present told silence_of most_of
a_second_and_a_step_at_rest any = refl

doubled_for_each_tick_in_vain : (any : Known) → longest_wait (record (lost any) { longest_call = 1000000; ticks = Some (record { last = 1000000; in_vain = 1 }) }) ≡ 16030000
unfolding slowest pace_of times present told silence_of most_of
doubled_for_each_tick_in_vain any = refl
