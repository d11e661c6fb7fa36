-- What is due, on values.
use Rattle.std.proofs.Common.{◌≡◌, ℕ, zero, suc, refl, sym, subst, arith, lit<, true, false, inl, inr, [], ◌∷◌, ◌∙◌, Option, Some, None, Ok, Err}
use Rattle.match_links.specs.Passages.{Passage, Told}
use Rattle.serving.specs.declared.place.Place.{Place}
use Rattle.serving.specs.declared.place.Place.TheVariants.{Awaited, Seated, Leaving, Played}
use Rattle.serving.specs.declared.known.NodeSight.{NodeSight}
use Rattle.serving.specs.declared.known.Repair.TheVariants as repair
use Rattle.serving.specs.declared.due.Due.TheVariants.{Stop, Start, Drop, Await, Read, Away, Deliver, Tick, Over}
use Rattle.dealer_kind.specs.Plans.{Plan}
use Rattle.promise_store.specs.declared.disk.Disk.{Ghosts}
use Rattle.dealer_node.specs.Nodes.{Node}
use Rattle.dealer_node.specs.declared.fault.NodeFault.TheVariants as fault
use Rattle.dealer_world.specs.declared.event.Event.TheVariants as event
use Rattle.serving.specs.declared.serve_fault.ServeFault.TheVariants.{LogFailed}
use Rattle.serving.specs.declared.turn.Turn.TheVariants as turn
use Rattle.serving.specs.declared.waiting.Waiting.{Waiting}
use Rattle.serving.specs.Dues.{next_frame, IsDue}
use Rattle.serving.specs.Giving.{MissesALine}
use Rattle.serving.specs.Going.{delivered_after, ends_in_line_feed, piece_after, OnlyLeave}
use Rattle.serving.specs.Next.{due_by, running_from}
use Rattle.match_file.specs.declared.absent.Absent.TheVariants.{Wait, Play}
use Rattle.serving.specs.Placing.{moved, dropped_at}
use Rattle.serving.specs.Played.{IsOfSeat}
use Rattle.serving.specs.Repairs.{stopped, started, greeted_after}
use Rattle.serving.specs.Served.{Served}
use Rattle.serving.specs.Turned.{DidNothing}
use Rattle.serving.specs.Turning.{goes_on, turn_of, IsForDue, IsSlow, MayFail}

-- a node that has applied so many commands, with this seat to act
abbrev at : ℕ → Option ℕ → NodeSight
at front seat = record { runs = true; is_out = false; over = false; front = front; to_act = seat; pends = false }

-- the same with an act that waits there
abbrev asked : ℕ → Option ℕ → NodeSight
asked front seat = record { runs = true; is_out = false; over = false; front = front; to_act = seat; pends = true }

-- a node that is to be out and runs, and one that is out
abbrev to_stop : ℕ → Option ℕ → NodeSight
to_stop front seat = record { runs = true; is_out = true; over = false; front = front; to_act = seat; pends = false }

abbrev out : NodeSight
out = record { runs = false; is_out = true; over = false; front = 0; to_act = None; pends = false }

-- a node that is down and not to be out
abbrev to_start : NodeSight
to_start = record { runs = false; is_out = false; over = false; front = 0; to_act = None; pends = false }

abbrev done : ℕ → NodeSight
done front = record { runs = true; is_out = false; over = true; front = front; to_act = None; pends = false }

-- ---- greeting

first_seat_is_awaited : due_by (at 0 None ∷ at 0 None ∷ at 0 None ∷ []) (Awaited 0 ∷ Awaited 0 ∷ []) 0 None None ≡ Await 0 0
first_seat_is_awaited = refl

and_its_first_line_read : due_by (at 0 None ∷ at 0 None ∷ at 0 None ∷ []) (Seated 0 ∷ Awaited 0 ∷ []) 0 (Some 0) None ≡ Read 0 0
and_its_first_line_read = refl

then_the_second : due_by (at 0 None ∷ at 0 None ∷ at 0 None ∷ []) (Seated 0 ∷ Awaited 0 ∷ []) 1 (Some 0) None ≡ Await 1 0
then_the_second = refl

-- ---- frames, outages, ticks, in this order

greeted_all_a_node_ticks : due_by (at 0 None ∷ at 0 None ∷ at 0 None ∷ []) (Seated 0 ∷ Seated 0 ∷ []) 2 None None ≡ Tick 0
greeted_all_a_node_ticks = refl

frames_come_first : due_by (to_stop 1 (Some 1) ∷ at 0 None ∷ at 0 None ∷ []) (Seated 0 ∷ Seated 0 ∷ []) 2 (Some 7) None ≡ Deliver 7
frames_come_first = refl

then_outages : due_by (to_stop 1 (Some 1) ∷ at 1 (Some 1) ∷ at 1 (Some 1) ∷ []) (Seated 0 ∷ Seated 0 ∷ []) 2 None None ≡ Stop 0
then_outages = refl

starts_before_stops : due_by (to_stop 1 (Some 1) ∷ to_start ∷ at 1 (Some 1) ∷ []) (Seated 0 ∷ Seated 0 ∷ []) 2 None None ≡ Start 1
starts_before_stops = refl

-- ---- seats

seat_to_act_is_read : due_by (at 1 (Some 1) ∷ at 1 (Some 1) ∷ at 1 (Some 1) ∷ []) (Seated 0 ∷ Seated 0 ∷ []) 2 None None ≡ Read 1 0
seat_to_act_is_read = refl

where_an_act_waits_its_node_ticks : due_by (out ∷ asked 1 (Some 1) ∷ at 1 (Some 1) ∷ []) (Awaited 1 ∷ Seated 1 ∷ []) 2 None None ≡ Tick 1
where_an_act_waits_its_node_ticks = refl

elsewhere_it_may_wait : due_by (out ∷ asked 1 (Some 1) ∷ at 1 (Some 1) ∷ []) (Awaited 1 ∷ Seated 2 ∷ []) 2 None None ≡ Read 1 2
elsewhere_it_may_wait = refl

blank_node_of_a_seat_ticks : due_by (at 5 (Some 1) ∷ out ∷ at 5 (Some 1) ∷ at 0 None ∷ at 5 (Some 1) ∷ []) (Seated 3 ∷ Seated 3 ∷ []) 2 None None ≡ Tick 3
blank_node_of_a_seat_ticks = refl

gone_seat_is_awaited_at_the_next_node : due_by (out ∷ at 1 (Some 1) ∷ at 1 (Some 1) ∷ []) (Awaited 1 ∷ Awaited 1 ∷ []) 2 None None ≡ Await 1 1
gone_seat_is_awaited_at_the_next_node = refl

or_at_the_first_behind_it : running_from (at 1 None ∷ at 1 None ∷ out ∷ []) 2 ≡ 0
or_at_the_first_behind_it = refl

leaving_comes_before_frames : due_by (at 1 (Some 1) ∷ at 1 (Some 1) ∷ at 1 (Some 1) ∷ []) (Seated 0 ∷ Leaving 0 ∷ []) 2 (Some 9) None ≡ Drop 1 0
leaving_comes_before_frames = refl

failed_store_comes_before_all : due_by (at 1 (Some 1) ∷ to_start ∷ at 1 (Some 1) ∷ []) (Seated 0 ∷ Leaving 0 ∷ []) 2 (Some 9) (Some (repair.Start 1)) ≡ Start 1
failed_store_comes_before_all = refl

-- ---- the end

over_where_it_is_over_at_all_that_run : due_by (out ∷ done 5 ∷ done 5 ∷ []) (Awaited 1 ∷ Seated 1 ∷ []) 2 (Some 9) None ≡ Over
over_where_it_is_over_at_all_that_run = refl

not_while_one_has_further_to_go : due_by (done 5 ∷ done 5 ∷ at 0 None ∷ []) (Awaited 1 ∷ Seated 1 ∷ []) 2 None None ≡ Tick 2
not_while_one_has_further_to_go = refl

one_that_is_behind_ticks : due_by (at 2 (Some 0) ∷ at 5 (Some 1) ∷ at 5 (Some 1) ∷ []) (Seated 1 ∷ Seated 1 ∷ []) 2 None None ≡ Tick 0
one_that_is_behind_ticks = refl

-- ---- a seat that is played for

played_for_where_its_node_sees_it_to_act : due_by (out ∷ at 1 (Some 1) ∷ at 1 (Some 1) ∷ []) (Awaited 1 ∷ Played 1 ∷ []) 2 None None ≡ Away 1 1
played_for_where_its_node_sees_it_to_act = refl

played_for_at_the_next_node_where_its_own_is_out : due_by (at 1 (Some 1) ∷ out ∷ at 1 (Some 1) ∷ []) (Seated 0 ∷ Played 1 ∷ []) 2 None None ≡ Away 1 2
played_for_at_the_next_node_where_its_own_is_out = refl

not_at_a_node_that_is_behind : due_by (at 5 (Some 1) ∷ at 2 (Some 1) ∷ at 5 (Some 1) ∷ []) (Seated 0 ∷ Played 1 ∷ []) 2 None None ≡ Tick 1
not_at_a_node_that_is_behind = refl

nor_where_an_act_waits : due_by (at 1 (Some 1) ∷ asked 1 (Some 1) ∷ at 1 (Some 1) ∷ []) (Seated 0 ∷ Played 1 ∷ []) 2 None None ≡ Tick 1
nor_where_an_act_waits = refl

nor_where_another_seat_is_to_act : due_by (at 1 (Some 1) ∷ at 1 (Some 0) ∷ at 1 (Some 1) ∷ []) (Seated 0 ∷ Played 1 ∷ []) 2 None None ≡ Tick 1
nor_where_another_seat_is_to_act = refl

-- ---- how what is known goes on

dropped_seat_is_awaited : dropped_at Wait 1 (Seated 0 ∷ Seated 0 ∷ []) 1 ≡ Seated 0 ∷ Awaited 1 ∷ []
dropped_seat_is_awaited = refl

or_played_for : dropped_at Play 1 (Seated 0 ∷ Seated 0 ∷ []) 1 ≡ Seated 0 ∷ Played 1 ∷ []
or_played_for = refl

so_is_one_that_leaves : dropped_at Play 1 (Seated 0 ∷ Leaving 0 ∷ []) 1 ≡ Seated 0 ∷ Played 1 ∷ []
so_is_one_that_leaves = refl

but_none_that_was_awaited : dropped_at Play 1 (Seated 0 ∷ Awaited 0 ∷ []) 1 ≡ Seated 0 ∷ Awaited 1 ∷ []
but_none_that_was_awaited = refl

played_for_behind_a_stopped_node : moved 1 2 (Played 1) ≡ Played 2
played_for_behind_a_stopped_node = refl

seat_of_a_stopped_node_is_awaited_behind_it : moved 1 2 (Seated 1) ≡ Awaited 2
seat_of_a_stopped_node_is_awaited_behind_it = refl

so_is_one_that_was_awaited_there : moved 1 2 (Awaited 1) ≡ Awaited 2
so_is_one_that_was_awaited_there = refl

seat_elsewhere_stays : moved 1 2 (Seated 0) ≡ Seated 0
seat_elsewhere_stays = refl

-- ---- seats that are told lines

-- a line of seat 0 at node 0, and one of seat 1 at node 1
abbrev own : Passage
own = Told 0 0 (77 ∷ [])

abbrev others : Passage
others = Told 1 1 (77 ∷ [])

-- a line of seat 1 at node 0, and one of seat 0 at node 1
abbrev another_seats : Passage
another_seats = Told 0 1 (77 ∷ [])

abbrev elsewhere : Passage
elsewhere = Told 1 0 (77 ∷ [])

told_all_nobody_leaves : OnlyLeave (own ∷ []) (own ∷ []) (Seated 0 ∷ Played 1 ∷ []) (Seated 0 ∷ Played 1 ∷ [])
told_all_nobody_leaves seat = inl refl

who_missed_a_line_may_leave : OnlyLeave (own ∷ others ∷ []) (own ∷ []) (Seated 0 ∷ Seated 1 ∷ []) (Seated 0 ∷ Leaving 1 ∷ [])
who_missed_a_line_may_leave zero = inl refl
who_missed_a_line_may_leave (suc zero) = inr (1, refl, refl, lit< tt)
who_missed_a_line_may_leave (suc (suc seat)) = inl refl

who_was_told_its_line_stays : OnlyLeave (own ∷ []) (own ∷ []) (Seated 0 ∷ []) (Leaving 0 ∷ []) → ⊥
who_was_told_its_line_stays leave = elim (leave 0) [
  | inl same ↦ cc
  | inr (node, was, is, misses) ↦ omega (arith, misses)
]

same_node : (a b : ℕ) → ◌≡◌ {A = Option Place} (Some (Seated a)) (Some (Seated b)) → a ≡ b
same_node a b same = cc

line_of_another_seat_is_no_reason : OnlyLeave (another_seats ∷ []) [] (Seated 0 ∷ []) (Leaving 0 ∷ []) → ⊥
line_of_another_seat_is_no_reason leave = elim (leave 0) [
  | inl same ↦ cc
  | inr (node, was, is, misses) ↦ subst (λ (n : ℕ). MissesALine n 0 (another_seats ∷ []) [] → ⊥) (same_node 0 node was) (λ missed. omega (arith, missed)) misses
]

line_at_another_node_is_no_reason : OnlyLeave (elsewhere ∷ []) [] (Seated 0 ∷ []) (Leaving 0 ∷ []) → ⊥
line_at_another_node_is_no_reason leave = elim (leave 0) [
  | inl same ↦ cc
  | inr (node, was, is, misses) ↦ subst (λ (n : ℕ). MissesALine n 0 (elsewhere ∷ []) [] → ⊥) (same_node 0 node was) (λ missed. omega (arith, missed)) misses
]

who_missed_a_line_is_not_played_for : OnlyLeave (own ∷ []) [] (Seated 0 ∷ Seated 0 ∷ []) (Played 0 ∷ Seated 0 ∷ []) → ⊥
who_missed_a_line_is_not_played_for leave = elim (leave 0) [
  | inl same ↦ cc
  | inr (node, was, is, misses) ↦ cc
]

played_seat_is_not_awaited_again : OnlyLeave (own ∷ []) [] (Seated 0 ∷ Played 1 ∷ []) (Seated 0 ∷ Awaited 1 ∷ []) → ⊥
played_seat_is_not_awaited_again leave = elim (leave 1) [
  | inl same ↦ cc
  | inr (node, was, is, misses) ↦ cc
]

awaited_seat_has_nothing_to_leave : OnlyLeave (own ∷ []) [] (Awaited 0 ∷ []) (Leaving 0 ∷ []) → ⊥
awaited_seat_has_nothing_to_leave leave = elim (leave 0) [
  | inl same ↦ cc
  | inr (node, was, is, misses) ↦ cc
]

nobody_leaves_another_node : OnlyLeave (own ∷ []) [] (Seated 0 ∷ []) (Leaving 1 ∷ []) → ⊥
nobody_leaves_another_node leave = elim (leave 0) [
  | inl same ↦ cc
  | inr (node, was, is, misses) ↦ cc
]

no_seat_is_lost : OnlyLeave (own ∷ []) [] (Seated 0 ∷ Seated 0 ∷ []) (Seated 0 ∷ []) → ⊥
no_seat_is_lost leave = elim (leave 1) [
  | inl same ↦ cc
  | inr (node, was, is, misses) ↦ cc
]

-- ---- and what goes on beside them

nothing_sent_is_no_frame : next_frame [] 0 ≡ None
nothing_sent_is_no_frame = refl

delivered_once : delivered_after (turn.Delivered 3) 3 ≡ 4
delivered_once = refl

and_by_nothing_else : delivered_after (turn.Ticked 0) 3 ≡ 3
and_by_nothing_else = refl

stopped_is_to_be_started : stopped 1 (Some (repair.Stop 1)) ≡ Some (repair.Start 1)
stopped_is_to_be_started = refl

another_node_stopped : stopped 0 (Some (repair.Stop 1)) ≡ Some (repair.Stop 1)
another_node_stopped = refl

started_is_mended : started 1 (Some (repair.Start 1)) ≡ None
started_is_mended = refl

seats_are_greeted_in_order : greeted_after 0 0 ≡ 1
seats_are_greeted_in_order = refl

seat_met_later_is_not_greeted_again : greeted_after 0 2 ≡ 2
seat_met_later_is_not_greeted_again = refl

whole_line : ends_in_line_feed (65 ∷ 10 ∷ []) ≡ true
whole_line = refl

end_of_a_connection : ends_in_line_feed (10 ∷ 65 ∷ []) ≡ false
end_of_a_connection = refl

-- ---- calls and their answers

frame_to_a_node_that_is_down_is_lost : (bytes : _) → goes_on (event.Frame 0 1 bytes) (Err fault.Down) ≡ true
frame_to_a_node_that_is_down_is_lost bytes = refl

tick_of_a_node_that_is_down_ends_all : goes_on (event.Tick 0) (Err fault.Down) ≡ false
tick_of_a_node_that_is_down_ends_all = refl

line_is_its_seats : (bytes : _) → turn_of 0 0 (event.Line 0 1 bytes) ≡ turn.Read 1
line_is_its_seats bytes = refl

line_of_another_seat_is_not_due : (bytes : _) → IsForDue (Read 1 0) 0 0 (event.Line 0 0 bytes) → ⊥
line_of_another_seat_is_not_due bytes (same, other) = cc

order_is_told_as_its_seats : turn_of 0 1 (event.Away 2) ≡ turn.Away 1 2
order_is_told_as_its_seats = refl

order_is_its_seats : IsForDue (Away 1 2) 0 1 (event.Away 2)
order_is_its_seats = (refl, refl)

order_for_another_seat_is_not_due : IsForDue (Away 1 2) 0 0 (event.Away 2) → ⊥
order_for_another_seat_is_not_due (same, other) = cc

order_at_another_node_is_not_due : IsForDue (Away 1 2) 0 1 (event.Away 0) → ⊥
order_at_another_node_is_not_due (other, same) = cc

line_is_of_its_seat : (bytes : _) → IsOfSeat 1 (event.Line 0 1 bytes)
line_is_of_its_seat bytes = refl

and_of_no_other : (bytes : _) → IsOfSeat 0 (event.Line 0 1 bytes) → ⊥
and_of_no_other bytes is = cc

order_is_of_no_seat : IsOfSeat 2 (event.Away 2) → ⊥
order_is_of_no_seat is = is

tick_is_not_due_where_a_seat_is_read : IsForDue (Read 1 0) 0 0 (event.Tick 0) → ⊥
tick_is_not_due_where_a_seat_is_read is = is

seat_that_is_read_breaks_no_log : (plan : Plan) → MayFail plan (Read 1 0) LogFailed → ⊥
seat_that_is_read_breaks_no_log plan may = may

piece_of_a_line_is_kept : (bytes : _) → piece_after (event.Line 0 1 bytes) (70 ∷ []) ≡ bytes.items
piece_of_a_line_is_kept bytes = refl

and_that_before_stays_at_a_tick : piece_after (event.Tick 0) (70 ∷ []) ≡ 70 ∷ []
and_that_before_stays_at_a_tick = refl

-- ---- a seat that sends nothing

silent_seat_that_is_read_is_waited_for : IsSlow (Read 1 0) (turn.Waits 1 0)
silent_seat_that_is_read_is_waited_for = (refl, refl)

so_is_one_that_is_awaited : IsSlow (Await 1 2) (turn.Waits 1 2)
so_is_one_that_is_awaited = (refl, refl)

another_seat_is_not_waited_for : IsSlow (Read 1 0) (turn.Waits 0 0) → ⊥
another_seat_is_not_waited_for (seat, node) = cc

nor_is_it_at_another_node : IsSlow (Await 1 2) (turn.Waits 1 0) → ⊥
nor_is_it_at_another_node (seat, node) = cc

nobody_is_waited_for_where_a_node_ticks : IsSlow (Tick 0) (turn.Waits 0 0) → ⊥
nobody_is_waited_for_where_a_node_ticks is = is

nor_where_a_seat_is_dropped : IsSlow (Drop 1 0) (turn.Waits 1 0) → ⊥
nor_where_a_seat_is_dropped is = is

line_that_came_is_no_wait : IsSlow (Read 1 0) (turn.Read 1) → ⊥
line_that_came_is_no_wait is = is

-- a turn that did nothing may have waited for the seat that is due
waited_for_the_seat_that_is_due : {D : Type 0} (g : Ghosts D) (server : Served (Node D)) → server.waiting ≡ None → IsDue g server.view server.progress (Read 1 0)
    → DidNothing g server (Ok (turn.Waits 1 0))
waited_for_the_seat_that_is_due g server free is_due = inr (record { free = free; what = Read 1 0; is_due = is_due; slow = (refl, refl) })

-- but not where an event waits to be given again
not_while_an_event_waits : {D : Type 0} (g : Ghosts D) (server : Served (Node D)) (w : Waiting) → server.waiting ≡ Some w → DidNothing g server (Ok (turn.Waits 1 0)) → ⊥
not_while_an_event_waits g server w waits (inl (over, next)) = cc
not_while_an_event_waits g server w waits (inr nothing) =
    let none : Some w ≡ None = sym waits ∙ nothing.free in
    cc
