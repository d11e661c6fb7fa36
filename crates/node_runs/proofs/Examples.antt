-- Notes, files and ends of a node's process, on values.
use Rattle.std.proofs.Common.{◌≡◌, inl, inr, ℕ, false, List, [], ◌∷◌, ◌++◌, slice_index, Some, None, Ok, Err, refl, ap, arith}
use Rattle.std.specs.List.{filter}
use Rattle.std.specs.Prelude.{codes}
use Rattle.std.specs.Fmt.{digits}
use Rattle.std.specs.Net.Addr.{ipv4_octets}
use Rattle.std.specs.declared.net.ip_addr.IpAddr.TheVariants.{V4}
use Rattle.std.specs.declared.net.ipv4_addr.Ipv4Addr.{Ipv4Addr}
use Rattle.std.specs.Fs.{metadata_len, metadata_mode}
use Rattle.std.specs.declared.fs.attrs.Metadata.{Metadata}
use Rattle.hex.specs.Hex.{decode_pairs, encode_with}
use Rattle.hex.specs.declared.error.FromHexError.TheVariants.{InvalidHexCharacter, InvalidStringLength, OddLength}
use Rattle.peer_codes.specs.declared.fault.RecordFault.TheVariants.{BadHello, BadLength}
use Rattle.node_links.specs.declared.peer_fault.PeerFault.TheVariants.{Record, AlreadyHere, StoreReplaced as NotTheStore, StoreOlder}
use Rattle.node_links.specs.declared.peer_fault.Whose.TheVariants.{Own, Other}
use Rattle.promise_store.specs.declared.fault.StoreFault.TheVariants.{Disk}
use Rattle.dealer_node.specs.declared.fault.NodeFault.TheVariants as fault
use Rattle.match_file.specs.declared.match_fault.MatchFault.TheVariants as file
use Rattle.node_service.specs.declared.server_notice.ServerNotice.TheVariants as told
use Rattle.operator_notes.specs.BesideStore.{node_kept_name, life_name, logs_kept_name}
use Rattle.operator_notes.specs.KeyFaults.{fault_of}
use Rattle.node_runs.specs.KeyFiles.{keyed}
use Rattle.node_runs.specs.KeptLogs.{BeginsWell, ArePrintable, GoesOn}
use Rattle.operator_notes.specs.NodeNotes.{note_text, note_line}
use Rattle.node_runs.specs.Tokens.{tokens_line}
use Rattle.node_runs.specs.NodeEnds.{status_of, end_text}
use Rattle.node_runs.specs.NoteGroups.{group_of, most_of, others}
use Rattle.node_runs.specs.NoteLimits.{IsAtMost, IsNoneDue, has_room, is_of, is_recent, latest, lines_within, sum_of}
use Rattle.node_runs.specs.ServerNotes.{notice_lines, group_lines}
use Rattle.node_runs.specs.WaitingNotes.{newest_of}
use Rattle.node_runs.specs.declared.note_limits.Count.{Count}
use Rattle.seat_session.specs.declared.session_fault.SessionFault.TheVariants.{Illegal, LineTooLong, NotCurrent}
use Rattle.betting.specs.declared.fault.ActFault.TheVariants.{RaiseTooSmall}
use Rattle.node_service.specs.declared.server_notice.Setting.TheVariants.{Patience, Start, Away, Tokens}
use Rattle.operator_notes.specs.declared.key_fault.KeyFault.TheVariants as key
use Rattle.node_runs.specs.declared.node_end.NodeEnd.TheVariants as end
use Rattle.operator_notes.specs.declared.node_note.NodeNote.TheVariants as note

abbrev names : List (List ℕ)
names = codes "alice" ∷ codes "bob" ∷ []

-- ---- files

kept_of_node_2 : node_kept_name (codes "stores") 2 ≡ codes "stores/node2.kept"
unfolding digits
kept_of_node_2 = refl

logs_of_node_2 : logs_kept_name (codes "logs") 2 ≡ codes "logs/node2.logs.kept"
unfolding digits
logs_of_node_2 = refl

life_of_a_peer : life_name (codes "stores") 2 0 ≡ codes "stores/node2.peer0.kept"
unfolding digits
life_of_a_peer = refl

-- ---- the key

abbrev sixty_digits : List ℕ
sixty_digits = codes "000000000000000000000000000000000000000000000000000000000000"

abbrev thirty_zeros : List ℕ
thirty_zeros = 0 ∷ 0 ∷ 0 ∷ 0 ∷ 0 ∷ 0 ∷ 0 ∷ 0 ∷ 0 ∷ 0 ∷ 0 ∷ 0 ∷ 0 ∷ 0 ∷ 0 ∷ 0 ∷ 0 ∷ 0 ∷ 0 ∷ 0 ∷ 0 ∷ 0 ∷ 0 ∷ 0 ∷ 0 ∷ 0 ∷ 0 ∷ 0 ∷ 0 ∷ 0 ∷ []

-- digits may be small or large, and one line feed may stand behind them
a_key : keyed (sixty_digits ++ codes "0aF9\n") ≡ Ok (thirty_zeros ++ 10 ∷ 249 ∷ [])
unfolding decode_pairs
a_key = refl

no_line_feed : keyed (sixty_digits ++ codes "0aF9") ≡ Ok (thirty_zeros ++ 10 ∷ 249 ∷ [])
unfolding decode_pairs
no_line_feed = refl

-- two line feeds, a digit too few, and a letter that is none
two_line_feeds : keyed (sixty_digits ++ codes "0aF9\n\n") ≡ Err OddLength
two_line_feeds = refl

a_digit_too_few : keyed (sixty_digits ++ codes "0a\n") ≡ Err InvalidStringLength
a_digit_too_few = refl

a_letter : keyed (sixty_digits ++ codes "0aG9\n") ≡ Err (InvalidHexCharacter 71 62)
unfolding decode_pairs
a_letter = refl

-- its owner may read and write it: it can be one of a key; its group may read it: it is none; nor is a folder, or what is longer
of_its_owner : (file : Metadata) → metadata_mode file ≡ 0o100600 → metadata_len file ≡ 65 → fault_of file ≡ None
of_its_owner file mode length = rw (mode, length) refl

of_its_group : (file : Metadata) → metadata_mode file ≡ 0o100640 → fault_of file ≡ Some key.NotSecret
of_its_group file mode = rw mode refl

a_folder : (file : Metadata) → metadata_mode file ≡ 0o040700 → fault_of file ≡ Some key.NotAFile
a_folder file mode = rw mode refl

a_longer_file : (file : Metadata) → metadata_mode file ≡ 0o100600 → metadata_len file ≡ 66 → fault_of file ≡ Some key.NotDigits
a_longer_file file mode length = rw (mode, length) refl

-- ---- notes

it_begins : note_text (note.Begins (codes "m1") 2 7) ≡ codes "match m1, node 2: started, first unchosen slot 7"
unfolding digits
it_begins = refl

one_joined : note_line (note.Joined 1) ≡ codes "peer 1: connected" ++ 10 ∷ []
unfolding digits
one_joined = refl

one_older_copy : note_text (note.Refused 1 (StoreOlder Own) None) ≡ codes "peer 1: 130 StoreOlder"
unfolding digits
one_older_copy = refl

one_store_replaced : note_text (note.Refused 1 (NotTheStore Own) None) ≡ codes "peer 1: 127 StoreReplaced"
unfolding digits
one_store_replaced = refl

-- where it came from is told where it is known
there_already : (address : Ipv4Addr) → ipv4_octets address ≡ 10 ∷ 0 ∷ 0 ∷ 7 ∷ [] → note_text (note.Refused 1 AlreadyHere (Some (V4 address))) ≡ codes "peer 1: 128 AlreadyHere (from 10.0.0.7)"
unfolding digits
there_already address octets = rw octets refl

-- how many callers it were is told of more than one
one_caller : notice_lines names 1 7010 (told.Callers None 1 (Record BadHello)) ≡ (codes "inbound connection refused: 122 BadHello" ++ 10 ∷ []) ∷ []
one_caller = refl

three_callers : notice_lines names 1 7010 (told.Callers None 3 (Record BadLength)) ≡ (codes "inbound connection refused: 120 BadLength (3 times)" ++ 10 ∷ []) ∷ []
unfolding digits
three_callers = refl

one_caller_at_a_peer : notice_lines names 1 7010 (told.Callers (Some 2) 1 (Record BadHello)) ≡ (codes "inbound connection refused: 122 BadHello (from peer 2's address)" ++ 10 ∷ []) ∷ []
unfolding digits
one_caller_at_a_peer = refl

-- in what the match file of a peer differs; a time is told in seconds
other_patience : notice_lines names 1 7010 (told.Setting 2 Patience 100000 12000) ≡ (codes "peer 2: patience 100, here 12" ++ 10 ∷ []) ∷ []
unfolding digits
other_patience = refl

other_start : notice_lines names 1 7010 (told.Setting 2 Start 1050 0) ≡ (codes "peer 2: start 1.050, here none" ++ 10 ∷ []) ∷ []
unfolding digits
other_start = refl

other_away : notice_lines names 1 7010 (told.Setting 2 Away 1 0) ≡ (codes "peer 2: away wait, here play" ++ 10 ∷ []) ∷ []
unfolding digits
other_away = refl

other_tokens : notice_lines names 1 7010 (told.Setting 2 Tokens 0 0) ≡ (codes "peer 2: tokens differ" ++ 10 ∷ []) ∷ []
unfolding digits
other_tokens = refl

-- the hand is told of an answer to the newest line, and of no other
too_small_in_hand_17 : notice_lines names 1 7010 (told.Faulty 1 (Illegal (RaiseTooSmall 200)) (Some 17)) ≡ (codes "seat 1 (bob) at node 1, hand 17: 85 Illegal 24 RaiseTooSmall 200" ++ 10 ∷ []) ∷ []
unfolding digits
too_small_in_hand_17 = refl

not_current_in_no_hand : notice_lines names 1 7010 (told.Faulty 1 NotCurrent (Some 17)) ≡ (codes "seat 1 (bob) at node 1: 83 NotCurrent" ++ 10 ∷ []) ∷ []
unfolding digits
not_current_in_no_hand = refl

many_left_out : note_text (note.LeftOut 1204) ≡ codes "1204 notes left out"
unfolding digits
many_left_out = refl

-- a count of several is told by the newest of the group; of notes that have no group of their own only how many they were
many_wrong_lines : group_lines names 1 7010 (Some (told.Faulty 0 LineTooLong None)) 1 1204 ≡ (codes "seat 0 (alice) at node 1: 81 LineTooLong (1204 times)" ++ 10 ∷ []) ∷ []
unfolding digits
many_wrong_lines = refl

eleven_others : group_lines names 1 7010 (Some told.Quorum) 198 11 ≡ (codes "11 notes left out" ++ 10 ∷ []) ∷ []
unfolding digits
eleven_others = refl

one_other : group_lines names 1 7010 (Some told.Quorum) 198 1 ≡ (codes "quorum: more than half of the nodes are connected" ++ 10 ∷ []) ∷ []
one_other = refl

seven_without_a_place : group_lines names 1 7010 None 110 7 ≡ (codes "inbound connection refused: no Hello, or no place (7 times)" ++ 10 ∷ []) ∷ []
unfolding digits
seven_without_a_place = refl

-- ---- groups

wrong_lines_of_bob : group_of (told.Faulty 1 LineTooLong None) ≡ 11
wrong_lines_of_bob = refl

last_seat : group_of (told.Ordered 9) ≡ 99
last_seat = refl

no_seat_10 : group_of (told.Seated 10) ≡ others
no_seat_10 = refl

callers_by_120 : group_of (told.Callers None 3 (Record BadLength)) ≡ 100
callers_by_120 = refl

callers_by_128 : group_of (told.Callers None 1 AlreadyHere) ≡ 108
callers_by_128 = refl

callers_by_130 : group_of (told.Callers None 1 (StoreOlder Other)) ≡ 109
callers_by_130 = refl

-- from an address of a peer they are apart, the first and the last of them
callers_by_120_at_peer_0 : group_of (told.Callers (Some 0) 3 (Record BadLength)) ≡ 111
callers_by_120_at_peer_0 = refl

callers_by_130_at_peer_6 : group_of (told.Callers (Some 6) 1 (StoreOlder Other)) ≡ 180
callers_by_130_at_peer_6 = refl

one_of_callers_at_a_peer : most_of 180 ≡ 1
one_of_callers_at_a_peer = refl

-- callers who were turned away at a seat are apart too, of each seat one line a second
callers_at_alice : group_of (told.TurnedAway 0 40) ≡ 181
callers_at_alice = refl

callers_at_the_last_seat : group_of (told.TurnedAway 9 1) ≡ 190
callers_at_the_last_seat = refl

callers_at_no_seat : group_of (told.TurnedAway 10 1) ≡ others
callers_at_no_seat = refl

one_of_callers_at_a_seat : most_of 190 ≡ 1
one_of_callers_at_a_seat = refl

-- that a seat is taken and that it is free is told in one order, and so it is of a peer
bob_comes : group_of (told.Seated 1) ≡ 16
bob_comes = refl

bob_goes : group_of (told.Left 1) ≡ 16
bob_goes = refl

peer_6_comes : group_of (told.Joined 6 None) ≡ 197
peer_6_comes = refl

peer_6_goes : group_of (told.Gone 6) ≡ 197
peer_6_goes = refl

no_peer_7 : group_of (told.Gone 7) ≡ others
no_peer_7 = refl

-- ten lines a second of refused answers, one of lines that are none
ten_of_85 : most_of 15 ≡ 10
ten_of_85 = refl

one_of_82 : most_of 12 ≡ 1
one_of_82 = refl

ten_of_who_comes_and_goes : most_of 16 ≡ 10
ten_of_who_comes_and_goes = refl

ten_of_a_peer : most_of 197 ≡ 10
ten_of_a_peer = refl

-- ---- how many notes are told

abbrev a_line : ℕ → ℕ → Count
a_line time group = record { time = time; group = group; count = 1 }

-- two lines of one group that lie a second apart are in no second together, and two that lie less apart are
a_second_apart : lines_within 5 (is_of 1) (a_line 5 1 ∷ a_line 1000005 1 ∷ []) ≡ 1
a_second_apart = refl

less_apart : lines_within 5 (is_of 1) (a_line 5 1 ∷ a_line 1000004 1 ∷ []) ≡ 2
less_apart = refl

twice_in_a_second : ¬ (IsAtMost 1 (is_of 1) (a_line 5 1 ∷ a_line 1000004 1 ∷ []))
twice_in_a_second few = let e = few 5 in omega (arith, e)

-- what came of a group, and of no other
five_of_group_1 : sum_of 1 (record { time = 5; group = 1; count = 2 } ∷ record { time = 5; group = 2; count = 9 } ∷ record { time = 6; group = 1; count = 3 } ∷ []) ≡ 5
five_of_group_1 = refl

-- a clock that goes back changes nothing
clock_went_back : latest 5 (3 ∷ 9 ∷ 7 ∷ []) ≡ 9
clock_went_back = refl

no_turn_yet : latest 5 [] ≡ 5
no_turn_yet = refl

-- what waits is due once the second of the line before it is over
nothing_waits : IsNoneDue [] [] 5
nothing_waits = λ group few less. absurd (omega (arith, less))

due_again : ¬ (IsNoneDue (a_line 5 1 ∷ a_line 6 1 ∷ []) (a_line 5 1 ∷ []) 1000005)
due_again none = let e : has_room (filter (is_recent 1000005) (a_line 5 1 ∷ [])) 1 ≡ false = none 1 (omega arith) (omega arith) in absurd (cc)

-- the newest of a group
newest_wrong_line : newest_of 1 (told.Faulty 0 LineTooLong None ∷ told.Quorum ∷ []) ≡ Some (told.Faulty 0 LineTooLong None)
newest_wrong_line = refl

a_token_is_known : note_text (note.KnownToken 1) ≡ codes "token of seat 1 is an example's: draw another"
unfolding digits
a_token_is_known = refl

-- two digests stand in quotes, with a comma between them
two_tokens : tokens_line ((16 ∷ 175 ∷ []) ∷ (1 ∷ []) ∷ []) ≡ codes "tokens = [\"10af\", \"01\"]\n"
unfolding encode_with
two_tokens = refl

-- ---- kept logs

-- the line of a hand begins well, and one of blanks doesn't; a byte 0 isn't printable, a blank is
a_hand : BeginsWell (codes "STATE:0:f:TdAs|8hTc:5|-5:alice|bob")
a_hand = inr (inl (codes "0:f:TdAs|8hTc:5|-5:alice|bob", refl))

no_zero : ¬ (ArePrintable (codes "S" ++ 0 ∷ []))
no_zero printable = omega (arith, printable.1.0.0)

a_blank : ArePrintable (codes " ")
a_blank = ((omega arith, omega arith), tt)

-- what is still to come is "ab": a text may be part of it, or go beyond it; "ac" may not be next
part_of_it : GoesOn (codes "a") (codes "ab") (codes "b")
part_of_it = inl refl

beyond_it : GoesOn (codes "abc") (codes "ab") []
beyond_it = inr ((codes "c", refl), refl)

other_text : (rest : List ℕ) → ¬ (GoesOn (codes "ac") (codes "ab") rest)
other_text rest (inl same) = let e : 98 ≡ 99 = ap (λ (text : List ℕ). slice_index text 1) same in omega (arith, e)
other_text rest (inr begins) = let e : 99 ≡ 98 = ap (λ (text : List ℕ). slice_index text 1) begins.0.1 in omega (arith, e)

-- ---- ends

store_at_fault : status_of (end.Node (fault.Store Disk)) ≡ 3
store_at_fault = refl

two_commands_at_one_slot : status_of (end.Node fault.Conflict) ≡ 3
two_commands_at_one_slot = refl

no_memory : status_of (end.Match file.OutOfMemory) ≡ 1
no_memory = refl

log_at_fault : status_of (end.LogFailed) ≡ 1
log_at_fault = refl

store_in_use : status_of (end.StoreInUse) ≡ 2
store_in_use = refl

log_that_differs : status_of end.LogDiffers ≡ 3
log_that_differs = refl

log_that_differs_is_told : end_text end.LogDiffers ≡ codes "129 LogDiffers"
log_that_differs_is_told = refl

older_copy_is_told : end_text end.StoreOlder ≡ codes "130 StoreOlder"
older_copy_is_told = refl

older_copy_is_refused : status_of end.StoreOlder ≡ 2
older_copy_is_refused = refl

store_of_another_life : end_text end.StoreReplaced ≡ codes "127 StoreReplaced"
store_of_another_life = refl

-- ---- what is told, by the seats' names, at node 1, which awaits seat 0 at port 7010

bob_is_seated : notice_lines names 1 7010 (told.Seated 1) ≡ (codes "seat 1 (bob) at node 1: seated" ++ 10 ∷ []) ∷ []
unfolding digits
bob_is_seated = refl

bob_is_played_for : notice_lines names 1 7010 (told.Ordered 1) ≡ (codes "seat 1 (bob) at node 1: timed out, default action ordered" ++ 10 ∷ []) ∷ []
unfolding digits
bob_is_played_for = refl

somebody_else_came_for_alice : notice_lines names 1 7010 (told.WrongToken 0 1 None) ≡ (codes "seat 0 (alice) at node 1: wrong token" ++ 10 ∷ []) ∷ []
unfolding digits
somebody_else_came_for_alice = refl

many_others_came_for_alice : notice_lines names 1 7010 (told.WrongToken 0 37 None) ≡ (codes "seat 0 (alice) at node 1: wrong token (37 times)" ++ 10 ∷ []) ∷ []
unfolding digits
many_others_came_for_alice = refl

one_came_from_an_address : (address : Ipv4Addr) → ipv4_octets address ≡ 10 ∷ 0 ∷ 0 ∷ 7 ∷ [] → notice_lines names 1 7010 (told.WrongToken 0 37 (Some (V4 address))) ≡ (codes "seat 0 (alice) at node 1: wrong token (from 10.0.0.7) (37 times)" ++ 10 ∷ []) ∷ []
unfolding digits
one_came_from_an_address address octets = rw octets refl

some_were_turned_away : notice_lines names 1 7010 (told.TurnedAway 0 40) ≡ (codes "seat 0 (alice) at node 1: inbound connection refused: no place (40 times)" ++ 10 ∷ []) ∷ []
unfolding digits
some_were_turned_away = refl

-- what is below a thousandth is left out
one_is_far_behind : notice_lines names 1 7010 (told.Behind 2 1900 1062999) ≡ (codes "peer 2: 1900 commands behind, slowest answer in seconds: 1.062" ++ 10 ∷ []) ∷ []
unfolding digits
one_is_far_behind = refl

bob_has_another_match : notice_lines names 1 7010 (told.OtherLine 1) ≡ (codes "seat 1 (bob) at node 1: 86 OtherLine" ++ 10 ∷ []) ∷ []
unfolding digits
bob_has_another_match = refl

bob_has_not_come : notice_lines names 1 7010 (told.Missing 1) ≡ (codes "seat 1 (bob): not connected yet, the match waits" ++ 10 ∷ []) ∷ []
unfolding digits
bob_has_not_come = refl

bob_is_waited_for : notice_lines names 1 7010 (told.Waits 1) ≡ (codes "waiting for seat 1 (bob) at node 1, port 7011" ++ 10 ∷ []) ∷ []
unfolding digits
bob_is_waited_for = refl

-- of a seat that there isn't nothing is told
no_seat_2 : notice_lines names 1 7010 (told.Left 2) ≡ []
no_seat_2 = refl
