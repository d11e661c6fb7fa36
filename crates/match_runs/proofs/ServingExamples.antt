-- The notes and conclusions of `serve`, written out.
use Rattle.std.proofs.Common.{◌≡◌, ℕ, zero, suc, ◌+◌, ◌-◌, ◌^◌, List, [], ◌∷◌, ◌++◌, inl, inr, refl, sym, subst, arith}
use Rattle.std.specs.Prelude.{codes, true, false, Option, Some, None, Ok, Err}
use Rattle.std.specs.Fmt.{digits}
use Rattle.std.specs.Net.Addr.{ipv4_octets}
use Rattle.std.specs.declared.net.ip_addr.IpAddr.TheVariants.{V4}
use Rattle.std.specs.declared.net.ipv4_addr.Ipv4Addr.{Ipv4Addr}
use Rattle.std.specs.List.{flat_map}
use Rattle.seat_session.specs.declared.session_fault.SessionFault.TheVariants.{NotCurrent, Illegal}
use Rattle.betting.specs.declared.fault.ActFault.TheVariants.{FoldNotFacing, RaiseTooSmall}
use Rattle.dealer_node.specs.declared.fault.NodeFault.TheVariants as fault
use Rattle.promise_store.specs.declared.fault.StoreFault.TheVariants.{BadHeader, Disk}
use Rattle.protocol_model.specs.Dealers.{Reader, Seat, Log}
use Rattle.dealer_world.specs.Records.{Piece}
use Rattle.serving.specs.declared.serve_fault.ServeFault.TheVariants as serve
use Rattle.serving.specs.declared.turn.Turn.TheVariants as turn
use Rattle.serving.specs.declared.turn.Turn.TheVariants.{Over}
use Rattle.std.specs.declared.io.ErrorKind.TheVariants as kind
use Rattle.operator_notes.specs.declared.cause.Cause.TheVariants.{InUse, NotHere, NoRoom, Failed, Unknown}
use Rattle.operator_notes.specs.Causes.{cause_of}
use Rattle.dealer_kind.specs.declared.source.Source.TheVariants.{Seed}
use Rattle.match_runs.specs.Seeds.{drawn_seed, short_seeds}
use Rattle.operator_notes.specs.declared.note.About.TheVariants.{Seated, Gone, Played, WrongToken, Faulty}
use Rattle.operator_notes.specs.declared.note.Note.TheVariants as note
use Rattle.match_runs.specs.declared.conclusion.Conclusion.TheVariants.{Ended, Served}
use Rattle.streamed.specs.declared.ending.Ending.TheVariants.{Done, Match, Unreadable, StreamFailed}
use Rattle.match_file.specs.declared.match_fault.MatchFault.TheVariants.{OutOfMemory}
use Rattle.operator_notes.specs.declared.seat_ports.SeatPorts.{SeatPorts}
use Rattle.match_runs.specs.declared.unserved.Unserved.TheVariants as unserved
use Rattle.operator_notes.specs.NodeFiles.{store_name, log_name}
use Rattle.operator_notes.specs.Notes.{note_text, note_line, seat_text, refused_text, times_text, waiting_text, IsNoted, port_at}
use Rattle.match_runs.specs.Notes.{waiting_lines, seat_lines, newest_of, played_lines, turn_lines, is_told, ports_notes, awaited_notes, first_notes, failure_notes}
use Rattle.match_links.specs.Passages.{Told, Logged}
use Rattle.serving.specs.Giving.{given_as}
use Rattle.match_runs.specs.Passing.{IsPart, pieces_between, put_by, told_by}
use Rattle.match_runs.specs.Score.{IsLastLine, IsLastLog, HasNoLogFrom}
use Rattle.match_runs.specs.Conclusion.{status_of, conclusion_text, conclusion_of, IsOfServe}
use Rattle.match_runs.specs.Serving.{last_turn}
use Rattle.match_runs.specs.Turning.{waits_after}

alice_is_awaited : note_text (note.Awaiting 0 (codes "alice") 1 2002) ≡ codes "seat 0 (alice) not connected: expected at node 1, port 2002"
unfolding digits
alice_is_awaited = refl

alice_is_seated : note_text (note.Seat 0 (codes "alice") (Seated 1)) ≡ codes "seat 0 (alice) at node 1: seated"
unfolding digits
alice_is_seated = refl

bob_is_gone : note_text (note.Seat 1 (codes "bob") (Gone 0)) ≡ codes "seat 1 (bob) at node 0: disconnected"
unfolding digits
bob_is_gone = refl

bob_is_played_for : note_text (note.Seat 1 (codes "bob") (Played 1 17)) ≡ codes "seat 1 (bob) at node 1, hand 17: absent, default action ordered"
unfolding digits
bob_is_played_for = refl

-- where one came from without alice's token is told where that is known
somebody_else_came : note_text (note.Seat 0 (codes "alice") (WrongToken 1 None)) ≡ codes "seat 0 (alice) at node 1: wrong token"
unfolding digits
somebody_else_came = refl

came_from_an_address : (address : Ipv4Addr) → ipv4_octets address ≡ 10 ∷ 0 ∷ 0 ∷ 7 ∷ [] → note_text (note.Seat 0 (codes "alice") (WrongToken 1 (Some (V4 address)))) ≡ codes "seat 0 (alice) at node 1: wrong token (from 10.0.0.7)"
unfolding digits
came_from_an_address address octets = rw octets refl

-- how many times it was is told of more than one
two_times : times_text 2 ≡ codes " (2 times)"
unfolding digits
two_times = refl

one_time : times_text 1 ≡ []
one_time = refl

-- at node 0 three hands were dealt, at node 1 eighteen, at node 2, which is down, none
abbrev three_and_eighteen : List ℕ
three_and_eighteen = 3 ∷ 18 ∷ 0 ∷ []

an_order_is_told_in_the_newest_hand_of_its_node : played_lines (codes "alice" ∷ codes "bob" ∷ []) three_and_eighteen 1 1 ≡ (codes "seat 1 (bob) at node 1, hand 17: absent, default action ordered" ++ 10 ∷ []) ∷ []
unfolding digits
an_order_is_told_in_the_newest_hand_of_its_node = refl

at_another_node_in_another_hand : played_lines (codes "alice" ∷ codes "bob" ∷ []) three_and_eighteen 1 0 ≡ (codes "seat 1 (bob) at node 0, hand 2: absent, default action ordered" ++ 10 ∷ []) ∷ []
unfolding digits
at_another_node_in_another_hand = refl

nothing_is_told_where_none_was_dealt : played_lines (codes "alice" ∷ codes "bob" ∷ []) three_and_eighteen 1 2 ≡ []
nothing_is_told_where_none_was_dealt = refl

nor_of_a_node_that_there_isnt : played_lines (codes "alice" ∷ codes "bob" ∷ []) three_and_eighteen 1 3 ≡ []
nor_of_a_node_that_there_isnt = refl

nor_of_a_seat_that_there_isnt : played_lines (codes "alice" ∷ codes "bob" ∷ []) three_and_eighteen 2 1 ≡ []
nor_of_a_seat_that_there_isnt = refl

the_first_hand_is_hand_0 : newest_of 1 ≡ Some 0
the_first_hand_is_hand_0 = refl

another_line_came : note_text (note.Seat 0 (codes "alice") (Faulty 1 NotCurrent)) ≡ codes "seat 0 (alice) at node 1: 83 NotCurrent"
unfolding digits
another_line_came = refl

a_fold_was_refused : note_text (note.Seat 1 (codes "bob") (Faulty 0 (Illegal FoldNotFacing))) ≡ codes "seat 1 (bob) at node 0: 85 Illegal 21 FoldNotFacing"
unfolding digits
a_fold_was_refused = refl

an_answer_was_refused : seat_text 1 (codes "bob") ++ refused_text 0 17 (codes "r150") (Illegal (RaiseTooSmall 200)) false ≡ codes "seat 1 (bob) at node 0, hand 17: r150: 85 Illegal 24 RaiseTooSmall 200"
unfolding digits
an_answer_was_refused = refl

an_answer_came_late : seat_text 0 (codes "alice") ++ refused_text 2 3 (codes "c") NotCurrent true ≡ codes "seat 0 (alice) at node 2, hand 3: c: 83 NotCurrent (answers an earlier line)"
unfolding digits
an_answer_came_late = refl

alice_has_a_line_and_sends_nothing : waiting_text 0 (codes "alice") 0 7000 (Some (codes "MATCHSTATE:0:3:c:AhKd|")) ≡ codes "waiting for seat 0 (alice) at node 0, port 7000, to answer MATCHSTATE:0:3:c:AhKd|"
unfolding digits
alice_has_a_line_and_sends_nothing = refl

nobody_comes_at_her_port : waiting_text 0 (codes "alice") 1 7002 None ≡ codes "waiting for seat 0 (alice) at node 1, port 7002"
unfolding digits
nobody_comes_at_her_port = refl

a_port_is_taken : note_text (note.Port 7000 InUse) ≡ codes "port 7000: in use"
unfolding digits
a_port_is_taken = refl

a_port_is_named_alone : note_text (note.Port 7000 Unknown) ≡ codes "port 7000"
unfolding digits
a_port_is_named_alone = refl

no_match_is_kept : note_text note.NotKept ≡ codes "match.kept not found: can't verify that the stores belong to this match"
no_match_is_kept = refl

there_is_no_such_node : note_text (note.NoSuchNode 3 3) ≡ codes "node 3: the match has 3 nodes, counted from 0"
unfolding digits
there_is_no_such_node = refl

no_seed_is_short : short_seeds (Seed (2 ^ 55) ∷ Seed (2 ^ 63 - 1) ∷ []) ≡ []
no_seed_is_short = refl

two_seeds_are_short : short_seeds (Seed 4711 ∷ Seed (2 ^ 55) ∷ Seed (2 ^ 55 - 1) ∷ []) ≡ 0 ∷ 2 ∷ []
two_seeds_are_short = refl

the_least_seed : drawn_seed (0 ∷ 0 ∷ 0 ∷ 0 ∷ 0 ∷ 0 ∷ 0 ∷ 0 ∷ 0 ∷ 0 ∷ 0 ∷ 0 ∷ 0 ∷ 0 ∷ 0 ∷ 0 ∷ []) ≡ 2 ^ 55
the_least_seed = refl

another_seed : drawn_seed (7 ∷ 1 ∷ 0 ∷ 0 ∷ 0 ∷ 0 ∷ 0 ∷ 0 ∷ 0 ∷ 0 ∷ 0 ∷ 0 ∷ 0 ∷ 0 ∷ 0 ∷ 0 ∷ []) ≡ 2 ^ 55 + 263
another_seed = refl

an_address_is_elsewhere : cause_of kind.AddrNotAvailable ≡ NotHere
an_address_is_elsewhere = refl

a_lock_is_held : cause_of kind.WouldBlock ≡ InUse
a_lock_is_held = refl

a_disk_is_full : cause_of kind.StorageFull ≡ NoRoom
a_disk_is_full = refl

another_error_is_a_failure : cause_of kind.TimedOut ≡ Failed
another_error_is_a_failure = refl

a_node_is_lost : note_line (note.Stopped 0) ≡ codes "node 0: stopped" ++ 10 ∷ []
unfolding digits
a_node_is_lost = refl

a_store_failed : note_text (note.Failed 0 (fault.Store Disk)) ≡ codes "node 0: 91 Store 63 Disk"
unfolding digits
a_store_failed = refl

a_note_may_be_cut : IsNoted (codes "node 0: stopped") (Some (codes "a")) (Some (codes "anode"))
a_note_may_be_cut = (codes "node", codes " 0: stopped", refl, refl)

a_served_match_ends_well : status_of (Ended Done) ≡ 0
a_served_match_ends_well = refl

a_missing_store_is_a_wrong_call : status_of (Ended Unreadable) ≡ 2
a_missing_store_is_a_wrong_call = refl

a_failed_link_is_a_fault : status_of (Served serve.LinkFailed) ≡ 1
a_failed_link_is_a_fault = refl

another_nodes_store : conclusion_text (Served (serve.Node (fault.Store BadHeader))) ≡ codes "91 Store 61 BadHeader"
another_nodes_store = refl

want_of_memory_is_the_servers_fault : IsOfServe (Ended (Match OutOfMemory)) → ⊥
want_of_memory_is_the_servers_fault is = is refl

serving_fails_in_no_stream : IsOfServe (Ended StreamFailed) → ⊥
serving_fails_in_no_stream is = is

the_end_is_told_by_the_last_turn : last_turn (Ok tt) ≡ Ok Over
the_end_is_told_by_the_last_turn = refl

no_fault_is_swallowed : last_turn (Err serve.LogFailed) ≡ Err serve.LogFailed
no_fault_is_swallowed = refl

-- two players, from port 7000 on
abbrev two_seats : SeatPorts
two_seats = record { first = 7000; players = 2 }

ports_go_node_by_node : port_at two_seats 1 0 ≡ 7002
ports_go_node_by_node = refl

the_last_seat_of_the_last_node : port_at two_seats 2 1 ≡ 7005
the_last_seat_of_the_last_node = refl

ports_of_alice_at_three_nodes : note_text (note.Ports 0 (codes "alice") two_seats 3) ≡ codes "seat 0 (alice): ports 7000 7002 7004"
unfolding digits
ports_of_alice_at_three_nodes = refl

each_seat_has_its_own_name : ports_notes two_seats 3 0 (codes "alice" ∷ codes "bob" ∷ []) ≡ note.Ports 0 (codes "alice") two_seats 3 ∷ note.Ports 1 (codes "bob") two_seats 3 ∷ []
each_seat_has_its_own_name = refl

bob_is_awaited_at_his_own_port : awaited_notes (codes "alice" ∷ codes "bob" ∷ []) two_seats (Some (1, 2)) ≡ note.Awaiting 1 (codes "bob") 2 7005 ∷ []
bob_is_awaited_at_his_own_port = refl

a_third_seat_isnt_awaited : awaited_notes (codes "alice" ∷ codes "bob" ∷ []) two_seats (Some (2, 0)) ≡ []
a_third_seat_isnt_awaited = refl

nobody_is_awaited : awaited_notes (codes "alice" ∷ codes "bob" ∷ []) two_seats None ≡ []
nobody_is_awaited = refl

nobody_is_awaited_anew_behind_a_turn_that_waited : first_notes 1 (codes "alice" ∷ codes "bob" ∷ []) two_seats (Some (1, 2)) ≡ []
nobody_is_awaited_anew_behind_a_turn_that_waited = refl

but_behind_any_other : first_notes 0 (codes "alice" ∷ codes "bob" ∷ []) two_seats (Some (1, 2)) ≡ note.Awaiting 1 (codes "bob") 2 7005 ∷ []
but_behind_any_other = refl

bob_is_waited_for_at_his_own_port : waiting_lines (codes "alice" ∷ codes "bob" ∷ []) two_seats 1 2 None ≡ (codes "waiting for seat 1 (bob) at node 2, port 7005" ++ 10 ∷ []) ∷ []
unfolding digits
bob_is_waited_for_at_his_own_port = refl

the_first_wait_is_told : is_told 1 ≡ true
the_first_wait_is_told = refl

the_second_is_not : is_told 2 ≡ false
the_second_is_not = refl

nor_the_thirteenth : is_told 13 ≡ false
nor_the_thirteenth = refl

but_the_twelfth : is_told 12 ≡ true
but_the_twelfth = refl

and_the_next_twelfth : is_told 24 ≡ true
and_the_next_twelfth = refl

one_more_has_waited : waits_after (turn.Waits 1 0) 11 ≡ 12
one_more_has_waited = refl

a_line_ends_the_row : waits_after (turn.Read 1) 11 ≡ 0
a_line_ends_the_row = refl

a_wait_is_no_deed : turn_lines (codes "alice" ∷ codes "bob" ∷ []) 0 (turn.Waits 1 0) ≡ []
a_wait_is_no_deed = refl

a_third_seat_is_told_nothing_of : seat_lines (codes "alice" ∷ codes "bob" ∷ []) 2 (codes "?") ≡ []
a_third_seat_is_told_nothing_of = refl

the_store_of_node_1 : store_name (codes "stores") 1 ≡ codes "stores/node1.journal"
unfolding digits
the_store_of_node_1 = refl

the_log_of_node_0 : log_name (codes "logs") 0 ≡ codes "logs/node0.log"
unfolding digits
the_log_of_node_0 = refl

-- what a log gets last of a match: the line of its last hand, and the score
abbrev last_text : List ℕ
last_text = codes "STATE" ++ 10 ∷ codes "S" ++ 10 ∷ []

the_score_is_its_last_line : IsLastLine last_text (codes "S")
the_score_is_its_last_line = record { before = codes "STATE" ++ 10 ∷ []; parts = refl; begins = inr (codes "STATE", refl); unbroken = ((λ e. omega (arith, e)), tt) }

abbrev log_of_node_0 : Piece
log_of_node_0 = record { node = 0; start = 0; reader = Log; text = last_text }

abbrev line_of_bob : Piece
line_of_bob = record { node = 0; start = 0; reader = Seat 1; text = codes "MATCHSTATE" }

abbrev no_log : Option Piece → Type 0
no_log None = Unit {0}
no_log (Some piece) = piece.reader ≡ Log → ⊥

abbrev is_there : Option Piece → Type 0
is_there None = Unit {0}
is_there (Some piece) = ⊥

abbrev of_seat : Reader → Type 0
of_seat (Seat seat) = Unit {0}
of_seat Log = ⊥

no_log_behind : HasNoLogFrom (line_of_bob ∷ log_of_node_0 ∷ line_of_bob ∷ []) 2
no_log_behind zero piece first counted found log = omega (arith, first)
no_log_behind (suc zero) piece first counted found log = omega (arith, first)
no_log_behind (suc (suc zero)) piece first counted found log = subst no_log found (λ is. subst of_seat is tt) log
no_log_behind (suc (suc (suc n))) piece first counted found log = subst is_there found tt

the_last_log_is_found_before_a_seats_line : IsLastLog (line_of_bob ∷ log_of_node_0 ∷ line_of_bob ∷ []) last_text
the_last_log_is_found_before_a_seats_line = record { number = 1; piece = log_of_node_0; found = refl; of_log = refl; of_text = refl; last = no_log_behind }

a_store_that_failed_is_told : failure_notes 2 (Some (fault.Store Disk)) ≡ note.Failed 2 (fault.Store Disk) ∷ []
a_store_that_failed_is_told = refl

a_lost_frame_is_no_failure : failure_notes 2 (Some fault.Down) ≡ []
a_lost_frame_is_no_failure = refl

a_missing_file_is_no_want_of_memory : conclusion_of unserved.Unreadable ≡ Ended Unreadable
a_missing_file_is_no_want_of_memory = refl

want_of_memory_ends_a_server : conclusion_of (unserved.Match OutOfMemory) ≡ Served (serve.Node fault.OutOfMemory)
want_of_memory_ends_a_server = refl

a_line_may_be_left_out : IsPart {X = ℕ} (2 ∷ 3 ∷ []) (1 ∷ 2 ∷ 3 ∷ [])
a_line_may_be_left_out = inl (inr (3 ∷ [], refl, inr ([], refl, refl)))

abbrev is_empty : List ℕ → Type 0
is_empty [] = Unit {0}
is_empty (x ∷ xs) = ⊥

no_line_is_made_up : IsPart {X = ℕ} (7 ∷ []) [] → ⊥
no_line_is_made_up is = subst is_empty (sym is) tt

abbrev all_shown : List Piece
all_shown = line_of_bob ∷ log_of_node_0 ∷ line_of_bob ∷ []

the_second_piece_came_between : pieces_between all_shown 1 2 ≡ log_of_node_0 ∷ []
the_second_piece_came_between = refl

it_goes_to_the_log_of_its_node : flat_map (λ piece. put_by (given_as piece)) (pieces_between all_shown 1 3) ≡ Logged 0 last_text ∷ []
it_goes_to_the_log_of_its_node = refl

seats_are_told_the_others : flat_map (λ piece. told_by (given_as piece)) all_shown ≡ Told 0 1 (codes "MATCHSTATE") ∷ Told 0 1 (codes "MATCHSTATE") ∷ []
seats_are_told_the_others = refl
