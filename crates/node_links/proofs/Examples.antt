-- Hellos that are taken or not, connections that open or close, and when peers are dialled, told and asked; near misses.
use Rattle.std.proofs.Common.{◌≡◌, ℕ, ◌-◌, List, [], ◌∷◌, ◌++◌, replicate, true, false, Option, Some, None, Result, Ok, Err, refl, ap, codes}
use Rattle.std.specs.Fmt.{digits}
use Rattle.peer_codes.specs.declared.fault.RecordFault.TheVariants.{BadLength, BadKind, BadHello}
use Rattle.paxos_wire.specs.declared.ballot.Ballot.{Ballot}
use Rattle.peer_codes.specs.declared.hello.Life.{Life}
use Rattle.peer_codes.specs.declared.hello.Link.{Link}
use Rattle.peer_codes.specs.declared.hello.Link.TheVariants.{Plain, Coded}
use Rattle.peer_codes.specs.declared.version.Version.TheVariants.{First, Second}
use Rattle.peer_codes.specs.declared.hello.Hello.{Hello}
use Rattle.peer_codes.specs.declared.beat.Beat.{Beat}
use Rattle.peer_codes.specs.declared.frame.Frame.{Frame}
use Rattle.peer_codes.specs.declared.more.More.{More}
use Rattle.peer_codes.specs.declared.records.Record.TheVariants as record_of
use Rattle.peer_codes.specs.Spelling.{record_text}
use Rattle.node_links.specs.declared.own.Own.{Own}
use Rattle.node_links.specs.declared.own.Met.{Met}
use Rattle.node_links.specs.declared.peer_fault.Mismatch.TheVariants.{Digest, Nodes, Number}
use Rattle.node_links.specs.declared.peer_fault.WrongNumber.TheVariants.{Speaker, Called, Caller}
use Rattle.node_links.specs.declared.peer_fault.Whose.TheVariants as whose
use Rattle.node_links.specs.declared.peer_fault.PeerFault.{PeerFault}
use Rattle.node_links.specs.declared.heard.Heard.{Heard}
use Rattle.node_links.specs.declared.peer_fault.PeerFault.TheVariants as faults
use Rattle.node_links.specs.declared.heard.Heard.TheVariants as heards
use Rattle.node_links.specs.declared.phase.Phase.{Phase}
use Rattle.node_links.specs.declared.phase.Phase.TheVariants as phases
use Rattle.node_links.specs.declared.plain_connection.PlainConnection.{PlainConnection}
use Rattle.node_links.specs.declared.coded_connection.CodedConnection.{CodedConnection}
use Rattle.node_links.specs.declared.connection.Connection.TheVariants.{Plain as PlainOne, Coded as CodedOne}
use Rattle.node_links.specs.declared.dial.Dial.TheVariants as dials
use Rattle.node_links.specs.declared.dial.DialDue.TheVariants as dues
use Rattle.node_links.specs.declared.pulse.Pulse.{Pulse}
use Rattle.node_links.specs.Lines.{peer_fault_code, peer_fault_line}
use Rattle.node_links.specs.Judging.{is_awaited, wrong_number, judged}
use Rattle.node_links.specs.Steps.{closed, stepped, settled}
use Rattle.node_links.specs.Waits.{Waits}
use Rattle.node_links.specs.Waiting.{newest, has_next, next_of, rest_of}
use Rattle.node_links.specs.Connections.{Next, begun_next}
use Rattle.node_links.specs.Kinds.{IsCalling, TakesIn, NextBy, answered_by}
use Rattle.node_links.specs.Dialling.{connect_wait, due_of, answered_dial, opened_dial, ended_dial}
use Rattle.node_links.specs.Pausing.{pause_after, closed_pause}
use Rattle.node_links.specs.Noting.{fault_place, is_told}
use Rattle.node_links.specs.Pulses.{wait_of, beat_of, heard_at}
use Rattle.node_links.specs.Asking.{asked_slot, is_again}
use Rattle.node_links.specs.declared.accepted.LastAccepted.{LastAccepted}
use Rattle.node_links.specs.Repeating.{accepted_slot, ends_block, is_due}
use Rattle.node_links.specs.Forwarding.{is_forward, forwarded_after, again_in}
use Rattle.node_links.specs.declared.forwarded.Forwarded.{Forwarded}
use Rattle.node_links.specs.declared.owed.Request.TheVariants.{Prepare, Accept}
use Rattle.node_links.specs.declared.owed.Subject.{Subject}
use Rattle.node_links.specs.declared.owed.Question.{Question}
use Rattle.node_links.specs.declared.owed.Owed.{Owed}
use Rattle.node_links.specs.declared.refusals.Refusals.{Refusals}
use Rattle.node_links.specs.Frames.{frame_of}
use Rattle.node_links.specs.Promising.{promise_in, promises_less, higher}
use Rattle.node_links.specs.Owing.{question_in, answered_in, lost_of, asked_by, heard_by, serves}
use Rattle.node_links.specs.Refusing.{refused_by, due_at}
use Rattle.node_links.specs.declared.own.Known.TheVariants.{Nothing, One, Two}
use Rattle.node_links.specs.declared.lives.Lives.{Lives}
use Rattle.node_links.specs.declared.settings.Settings.{Settings}
use Rattle.node_links.specs.declared.further.Further.TheVariants as furthers
use Rattle.node_links.specs.declared.turning.DialEnd.TheVariants as ends
use Rattle.node_links.specs.Knowing.{and_life}
use Rattle.node_links.specs.Lives.{lives_of, lives_text, lives_more}
use Rattle.node_links.specs.Telling.{settings_of, settings_text, further_of}
use Rattle.node_links.specs.declared.turning.Turn.TheVariants as turns
use Rattle.node_links.specs.Versions.{turn_behind}

-- ---- faults

pub store_replaced_line : peer_fault_line (faults.StoreReplaced whose.Own) ≡ codes "127 StoreReplaced"
store_replaced_line = refl

pub store_older_line : peer_fault_line (faults.StoreOlder whose.Other) ≡ codes "130 StoreOlder"
store_older_line = refl

pub other_digest_line : peer_fault_line (faults.OtherMatch (Digest (record { here = 439041101; there = 10 }))) ≡ codes "123 OtherMatch digest: here 1a2b3c4d, there 0000000a"
unfolding digits
other_digest_line = refl

-- the number that came first, then the expected one
pub other_node_line : peer_fault_line (faults.OtherMatch (Number (Speaker (record { said = 1; expected = 0 })))) ≡ codes "123 OtherMatch number 1, not 0"
unfolding digits
other_node_line = refl

pub called_another_line : peer_fault_line (faults.OtherMatch (Number (Called (record { said = 2; expected = 0 })))) ≡ codes "123 OtherMatch number 2 called, not 0"
unfolding digits
called_another_line = refl

pub lesser_caller_line : peer_fault_line (faults.OtherMatch (Number (Caller (record { said = 1; expected = 2 })))) ≡ codes "123 OtherMatch number 1, not above 2"
unfolding digits
lesser_caller_line = refl

pub other_count_line : peer_fault_line (faults.OtherMatch (Nodes (record { said = 5; expected = 3 }))) ≡ codes "123 OtherMatch nodes 5, not 3"
unfolding digits
other_count_line = refl

pub bad_hello_is_122 : peer_fault_code (faults.Record BadHello) ≡ 122
bad_hello_is_122 = refl

-- ---- which Hello is taken: node 0 of three is called by node 1, and keeps no life of it yet

abbrev life : ℕ → Life
life n = record { bytes = replicate 16 n }

abbrev own : Own
own = record { number = 0; nodes = 3; digest = record { bytes = replicate 32 9 }; life = life 6; key = None }

abbrev met : Met
met = record { lives = Nothing; is_here = false }

abbrev known : List Met
known = met ∷ met ∷ met ∷ []

abbrev hello_by : ℕ → ℕ → ℕ → ℕ → Option Life → Link → Hello
hello_by from to nodes digest kept link = record { version = First; ends = record { from = from; to = to; nodes = nodes }; digest = record { bytes = replicate 32 digest }; life = life 5; kept = kept; promised = None; link = link }

abbrev hello : Hello
hello = hello_by 1 0 3 9 None Plain

abbrev coded_hello : Hello
coded_hello = hello_by 1 0 5 8 None (Coded (record { bytes = replicate 32 8 }))

-- of a connection with codes, and of another match of five nodes
pub codes_before_all : judged own None known coded_hello ≡ Err (faults.Record BadHello)
codes_before_all = refl

-- the second version is judged as the first
pub second_version : judged own None known (record hello { version = Second }) ≡ Ok tt
second_version = refl

pub first_hello_taken : judged own None known hello ≡ Ok tt
first_hello_taken = refl

-- it keeps the life that this node has
pub own_life_kept_taken : judged own None known (hello_by 1 0 3 9 (Some (life 6)) Plain) ≡ Ok tt
own_life_kept_taken = refl

-- and this one keeps its life
pub kept_life_taken : judged own None (met ∷ record { lives = One (life 5); is_here = false } ∷ met ∷ []) hello ≡ Ok tt
kept_life_taken = refl

pub other_digest : judged own None known (hello_by 1 0 3 8 None Plain) ≡ Err (faults.OtherMatch (Digest (record { here = 151587081; there = 134744072 })))
other_digest = refl

-- five nodes, and another digest: the digest is told
pub digest_before_nodes : judged own None known (hello_by 1 0 5 8 None Plain) ≡ Err (faults.OtherMatch (Digest (record { here = 151587081; there = 134744072 })))
digest_before_nodes = refl

pub five_nodes : judged own None known (hello_by 1 0 5 9 None Plain) ≡ Err (faults.OtherMatch (Nodes (record { said = 5; expected = 3 })))
five_nodes = refl

-- it speaks to node 2
pub to_another : judged own None known (hello_by 1 2 3 9 None Plain) ≡ Err (faults.OtherMatch (Number (Called (record { said = 2; expected = 0 }))))
to_another = refl

-- node 1 is dialled by node 2 alone, never by node 0
pub lesser_dials : is_awaited 1 None (record { from = 0; to = 1; nodes = 3 }) ≡ false
lesser_dials = refl

pub greater_dials : is_awaited 1 None (record { from = 2; to = 1; nodes = 3 }) ≡ true
greater_dials = refl

-- node 2 dialled node 0, and node 1 answers
pub another_answers : is_awaited 2 (Some 0) (record { from = 1; to = 2; nodes = 3 }) ≡ false
another_answers = refl

-- the number that came is that of the node that speaks, also where it speaks to a third
pub another_speaks : wrong_number 2 (Some 0) (record { from = 1; to = 2; nodes = 3 }) ≡ Speaker (record { said = 1; expected = 0 })
another_speaks = refl

pub another_speaks_to_a_third : wrong_number 2 (Some 0) (record { from = 1; to = 0; nodes = 3 }) ≡ Speaker (record { said = 1; expected = 0 })
another_speaks_to_a_third = refl

-- the dialled one takes this node for another
pub taken_for_another : wrong_number 2 (Some 0) (record { from = 0; to = 1; nodes = 3 }) ≡ Called (record { said = 1; expected = 2 })
taken_for_another = refl

pub lesser_is_told : wrong_number 1 None (record { from = 0; to = 1; nodes = 3 }) ≡ Caller (record { said = 0; expected = 1 })
lesser_is_told = refl

pub dialled_answers : is_awaited 2 (Some 0) (record { from = 0; to = 2; nodes = 3 }) ≡ true
dialled_answers = refl

-- a second connection of node 1, whose store has another life too
pub already_here : judged own None (met ∷ record { lives = One (life 4); is_here = true } ∷ met ∷ []) hello ≡ Err faults.AlreadyHere
already_here = refl

-- node 1 keeps another life of node 0: it is node 0 whose store was made anew
pub own_store_anew : judged own None known (hello_by 1 0 3 9 (Some (life 7)) Plain) ≡ Err (faults.StoreReplaced whose.Own)
own_store_anew = refl

pub other_store_anew : judged own None (met ∷ record { lives = One (life 4); is_here = false } ∷ met ∷ []) hello ≡ Err (faults.StoreReplaced whose.Other)
other_store_anew = refl

-- two lives of its store are known, of which one is this
pub two_lives : judged own None (met ∷ record { lives = Two; is_here = false } ∷ met ∷ []) hello ≡ Err (faults.StoreReplaced whose.Other)
two_lives = refl

pub same_life_again : and_life (One (life 5)) (Some (life 5)) ≡ One (life 5)
same_life_again = refl

pub second_life : and_life (One (life 5)) (Some (life 6)) ≡ Two
second_life = refl

-- ---- lives and settings that are told

-- of three nodes: the first and the third have one
abbrev three_lives : Lives
three_lives = record { nodes = 3; lives = Some (life 5) ∷ None ∷ Some (life 6) ∷ None ∷ None ∷ None ∷ None ∷ [] }

abbrev lives_bytes : List ℕ
lives_bytes = replicate 16 5 ++ (replicate 16 0 ++ replicate 16 6)

pub lives_as_bytes : lives_text three_lives ≡ lives_bytes
lives_as_bytes = refl

pub bytes_as_lives : lives_of 3 lives_bytes ≡ Ok three_lives
bytes_as_lives = refl

-- they are those of three nodes and of no four
pub lives_of_another_match : lives_of 4 lives_bytes ≡ Err BadLength
lives_of_another_match = refl

abbrev settings : Settings
settings = record { patience = 12000; start = 0; away = 5000; tokens = replicate 8 7 }

pub settings_as_bytes : settings_text settings ≡ 0 ∷ 0 ∷ 46 ∷ 224 ∷ 0 ∷ 0 ∷ 0 ∷ 0 ∷ 0 ∷ 0 ∷ 19 ∷ 136 ∷ 7 ∷ 7 ∷ 7 ∷ 7 ∷ 7 ∷ 7 ∷ 7 ∷ 7 ∷ []
settings_as_bytes = refl

pub bytes_as_settings : settings_of (settings_text settings) ≡ Ok settings
bytes_as_settings = refl

-- ---- the ballot that a node is known to have promised

abbrev ballot : ℕ → ℕ → Ballot
ballot round node = record { round = round; node = node }

-- a Refuse of (1, 0) at slot 0 by who promised (3, 1)
pub refuse_shows_its_promise : promise_in (0 ∷ 0 ∷ 0 ∷ 16 ∷ 2 ∷ 3 ∷ 0 ∷ 0 ∷ 0 ∷ 1 ∷ 0 ∷ 0 ∷ 0 ∷ 0 ∷ 0 ∷ 0 ∷ 0 ∷ 0 ∷ 3 ∷ 1 ∷ []) ≡ Some (ballot 3 1)
refuse_shows_its_promise = refl

pub promise_shows_its_ballot : promise_in (0 ∷ 0 ∷ 0 ∷ 12 ∷ 2 ∷ 2 ∷ 0 ∷ 0 ∷ 0 ∷ 2 ∷ 2 ∷ 0 ∷ 0 ∷ 0 ∷ 0 ∷ 0 ∷ []) ≡ Some (ballot 2 2)
promise_shows_its_ballot = refl

-- who prepares (2, 2) needn't have promised it
pub prepare_shows_none : promise_in (0 ∷ 0 ∷ 0 ∷ 11 ∷ 2 ∷ 1 ∷ 0 ∷ 0 ∷ 0 ∷ 2 ∷ 2 ∷ 0 ∷ 0 ∷ 0 ∷ 0 ∷ []) ≡ None
prepare_shows_none = refl

pub accept_shows_none : promise_in (0 ∷ 0 ∷ 0 ∷ 19 ∷ 2 ∷ 4 ∷ 0 ∷ 0 ∷ 0 ∷ 2 ∷ 2 ∷ 0 ∷ 0 ∷ 0 ∷ 0 ∷ 1 ∷ 3 ∷ 0 ∷ 0 ∷ 0 ∷ 0 ∷ 0 ∷ 0 ∷ []) ≡ None
accept_shows_none = refl

pub older_copy : promises_less (Some (ballot 2 2)) (Some (ballot 3 0)) ≡ true
older_copy = refl

pub same_promise : promises_less (Some (ballot 3 0)) (Some (ballot 3 0)) ≡ false
same_promise = refl

pub nothing_promised : promises_less None (Some (ballot 1 0)) ≡ true
nothing_promised = refl

pub nothing_known : promises_less None None ≡ false
nothing_known = refl

pub greater_stays : higher (Some (ballot 3 0)) (Some (ballot 2 2)) ≡ Some (ballot 3 0)
greater_stays = refl

pub ballot_is_told : further_of 3 (record { kind = 6; bytes = record { items = 0 ∷ 0 ∷ 1 ∷ 2 ∷ 4 ∷ [] } }) ≡ Ok (furthers.Promised (ballot 258 4))
ballot_is_told = refl

pub ballot_of_four_bytes : further_of 3 (record { kind = 6; bytes = record { items = 0 ∷ 0 ∷ 1 ∷ 2 ∷ [] } }) ≡ Err BadLength
ballot_of_four_bytes = refl

-- a kind that isn't known here is passed over, of whatever bytes
pub unknown_passed_over : further_of 3 (record { kind = 9; bytes = record { items = 1 ∷ 2 ∷ [] } }) ≡ Ok furthers.Unknown
unknown_passed_over = refl

-- ---- in which version a peer is dialled

pub second_first : turn_behind [] ≡ turns.Second
second_first = refl

-- one that answers the second by its own Hello of the first is dialled in the first
pub first_then : turn_behind (ends.Greeted First ∷ []) ≡ turns.First
first_then = refl

-- one that closes the second, answers the probe and closes the second again
pub first_behind_a_probe : turn_behind (ends.Silent ∷ ends.Greeted First ∷ ends.Silent ∷ []) ≡ turns.First
first_behind_a_probe = refl

-- a proxy whose node isn't there, and then is: whether it comes before the probe or behind it, no connection opens in the first
pub never_first : turn_behind (ends.Silent ∷ ends.Silent ∷ ends.Silent ∷ []) ≡ turns.Probe
never_first = refl

pub second_behind_a_probe : turn_behind (ends.Greeted First ∷ ends.Silent ∷ ends.Silent ∷ ends.Silent ∷ []) ≡ turns.Again
second_behind_a_probe = refl

pub second_behind_a_connection : turn_behind (ends.Opened ∷ ends.Greeted First ∷ []) ≡ turns.Second
second_behind_a_connection = refl

-- 0.1 s behind the first that was closed without a byte, and 1 s behind the twelfth
pub closed_once : closed_pause 1 ≡ 100000
closed_once = refl

pub closed_often : closed_pause 12 ≡ 1000000
closed_often = refl

-- ---- connections

abbrev frame : Frame
frame = record { bytes = record { items = 0 ∷ 0 ∷ 0 ∷ 6 ∷ 2 ∷ 7 ∷ 0 ∷ 0 ∷ 0 ∷ 1 ∷ [] } }

abbrev beat : Beat
beat = record { number = 1; got = 0; front = 37; campaigns = true; over = false; seats = 5 }

pub frame_comes : stepped (phases.Open hello) (record_of.Frame frame) ≡ record { phase = phases.Open hello; heard = Ok (heards.Frame frame) }
frame_comes = refl

pub frame_before_the_hello : stepped (phases.Greeting None) (record_of.Frame frame) ≡ closed faults.UnexpectedRecord
frame_before_the_hello = refl

pub second_hello : stepped (phases.Open hello) (record_of.Hello hello) ≡ closed faults.UnexpectedRecord
second_hello = refl

-- it is refused where it is judged, so that it is answered
pub coded_hello_comes : (stepped (phases.Greeting None) (record_of.Hello coded_hello)).phase ≡ phases.Asked coded_hello
coded_hello_comes = refl

-- who dialled in the second version takes no answer in the first
pub other_version_answers : stepped (phases.Greeting (Some Second)) (record_of.Hello hello) ≡ closed (faults.Record BadHello)
other_version_answers = refl

abbrev more : More
more = record { kind = 9; bytes = record { items = [] } }

-- a record of a further kind: behind a Hello of the second version, and of the first
pub more_comes : stepped (phases.Open (record hello { version = Second })) (record_of.More more) ≡ record { phase = phases.Open (record hello { version = Second }); heard = Ok (heards.Further furthers.Unknown) }
more_comes = refl

pub more_behind_the_first : stepped (phases.Open hello) (record_of.More more) ≡ closed (faults.Record BadKind)
more_behind_the_first = refl

pub taken_hello_opens : settled own None known (phases.Asked hello) ≡ phases.Open hello
taken_hello_opens = refl

pub refused_hello_closes : settled own None known (phases.Asked (hello_by 1 0 5 9 None Plain)) ≡ phases.Closed (faults.OtherMatch (Nodes (record { said = 5; expected = 3 })))
refused_hello_closes = refl

-- ---- what waits, and what is written

abbrev waits : Waits
waits = record { beat = Some beat; lives = Some three_lives; settings = None; promised = None; frames = frame ∷ [] }

pub beat_first : next_of Second waits ≡ Some (record_of.Beat beat)
beat_first = refl

pub both_wait : has_next First waits ≡ true
both_wait = refl

-- on a connection of the second version the lives go behind the beat, on one of the first they wait
pub lives_behind : next_of Second (rest_of Second waits) ≡ Some (record_of.More (lives_more three_lives))
lives_behind = refl

pub nothing_waits : has_next Second (rest_of Second (rest_of Second (rest_of Second waits))) ≡ false
nothing_waits = refl

pub frame_behind : next_of First (rest_of First waits) ≡ Some (record_of.Frame frame)
frame_behind = refl

pub lives_wait_on : rest_of First (rest_of First waits) ≡ record { beat = None; lives = Some three_lives; settings = None; promised = None; frames = [] }
lives_wait_on = refl

abbrev three : List ℕ
three = 1 ∷ 2 ∷ 3 ∷ []

abbrev fourth : List ℕ
fourth = 4 ∷ []

abbrev two_of_them : List ℕ
two_of_them = 2 ∷ 3 ∷ []

pub two_newest : newest 2 three ≡ two_of_them
two_newest = refl

-- of three that wait the oldest goes where a fourth comes and three may wait
pub oldest_dropped : newest (3 - 1) three ++ fourth ≡ two_of_them ++ fourth
oldest_dropped = refl

abbrev idle : Phase → Option Hello → PlainConnection
idle phase mine = record { phase = phase; came = record { waiting = []; room = 0 }; out = record { hello = mine; begun = record { items = [] }; written = 0 } }

-- on an open connection the beat is begun, and the frame waits on
pub beat_begun : (begun_next (idle (phases.Open hello) None) waits).1 ≡ record { beat = None; lives = Some three_lives; settings = None; promised = None; frames = frame ∷ [] }
unfolding begun_next
beat_begun = refl

-- and the beat's text is what is written, and behind it the frame's
pub beat_written : (begun_next (idle (phases.Open hello) None) waits).0.out.begun.items ≡ record_text (record_of.Beat beat)
unfolding begun_next
beat_written = refl

pub frame_written : (begun_next (idle (phases.Open hello) None) (rest_of First waits)).0.out.begun.items ≡ record_text (record_of.Frame frame)
unfolding begun_next
frame_written = refl

-- a Hello that isn't judged opens nothing by itself
pub opens_itself : Next (phases.Asked hello) (idle (phases.Asked hello) None) None (idle (phases.Open hello) None) → ⊥
opens_itself h =
    let e : phases.Open hello ≡ phases.Asked hello = ap (λ (c : PlainConnection). c.phase) h.1 in absurd cc

-- before it is open nothing is
pub nothing_begun : begun_next (idle (phases.Asked hello) None) waits ≡ (idle (phases.Asked hello) None, waits)
unfolding begun_next
nothing_begun = refl

-- but its own Hello, also where it refused the other's
pub hello_begun : (begun_next (idle (phases.Closed faults.AlreadyHere) (Some hello)) waits).0.out.begun.items ≡ record_text (record_of.Hello hello)
unfolding begun_next
hello_begun = refl

-- ---- connections of either kind

-- who was dialled doesn't call
pub listening-not_calling : IsCalling hello (PlainOne (idle (phases.Greeting None) None)) → ⊥
listening-not_calling is = let e : phases.Greeting None ≡ phases.Greeting (Some First) = is.0 in absurd cc

-- a Hello that waits to be judged lets nothing be told
pub nothing_before_it_is_judged : (told : Result Heard PeerFault) (new : PlainConnection) → NextBy (PlainOne (idle (phases.Asked hello) None)) (Some told) (PlainOne new) → ⊥
nothing_before_it_is_judged told new next = let e : Some told ≡ None = next.0 in absurd cc

-- the answer is in the version that came, and with codes none without a nonce
pub answered_as_it_came : answered_by (record hello { version = Second }) (PlainOne (idle (phases.Asked hello) None)) ≡ PlainOne (idle (phases.Asked hello) (Some hello))
answered_as_it_came = refl

pub no_answer_without_a_nonce : (c : CodedConnection) → answered_by hello (CodedOne c) ≡ CodedOne c
no_answer_without_a_nonce c = refl

-- a piece that comes isn't lost
pub piece_lost : TakesIn (1 ∷ []) (PlainOne (idle (phases.Open hello) None)) (PlainOne (idle (phases.Open hello) None)) → ⊥
piece_lost takes = let e : ◌≡◌ {A = List ℕ} [] (1 ∷ []) = takes.1 in absurd cc

-- ---- when a peer is dialled: moments in microseconds

pub dialled_at_once : due_of (dials.Waits 0 0) 0 ≡ dues.Dial
dialled_at_once = refl

pub given_up : due_of (dials.Dialled 1000 500000) 501000 ≡ dues.GiveUp
given_up = refl

pub not_given_up_yet : due_of (dials.Dialled 1000 500000) 500999 ≡ dues.Nothing 1
not_given_up_yet = refl

-- the second and the fourth that isn't answered
pub short_dial : connect_wait 1 ≡ 500000
short_dial = refl

pub long_dial : connect_wait 3 ≡ 2000000
long_dial = refl

-- the dial was answered after 450 ms: its Hello has 2 s more
pub hello_awaited : due_of (answered_dial (dials.Dialled 1000 500000) 451000) 2450999 ≡ dues.Nothing 1
hello_awaited = refl

pub hello_given_up : due_of (answered_dial (dials.Dialled 1000 500000) 451000) 2451000 ≡ dues.GiveUp
hello_given_up = refl

-- refused at once by the system: 50 ms from dial to dial
pub dialled_again : due_of (ended_dial (dials.Dialled 1000 500000) 1200 None) 51000 ≡ dues.Dial
dialled_again = refl

pub not_dialled_yet : due_of (ended_dial (dials.Dialled 1000 500000) 1200 None) 50999 ≡ dues.Nothing 1
not_dialled_yet = refl

-- one that was open for long is dialled at once
pub dialled_when_it_ends : due_of (ended_dial (opened_dial (dials.Dialled 1000 500000)) 9000000 None) 9000000 ≡ dues.Dial
dialled_when_it_ends = refl

pub pause_waited_for : due_of (ended_dial (dials.Dialled 1000 500000) 2000 (Some 1000000)) 1001999 ≡ dues.Nothing 1
pause_waited_for = refl

-- another match, once and again: a second, two, four, eight and no more
pub first_refusal : pause_after (faults.OtherMatch (Digest (record { here = 1; there = 2 }))) 0 ≡ 1000000
first_refusal = refl

pub second_refusal : pause_after (faults.OtherMatch (Digest (record { here = 1; there = 2 }))) 1000000 ≡ 2000000
second_refusal = refl

pub fifth_refusal : pause_after faults.WrongProof 8000000 ≡ 8000000
fifth_refusal = refl

-- a record that is none may have been an accident
pub fault_on_the_way : pause_after faults.WrongTag 4000000 ≡ 1000000
fault_on_the_way = refl

-- ---- beats

abbrev pulse : Pulse
pulse = record { number = 3; got = 8; told = Some 1000; probe = Some (record { number = 2; at = 500 }); round_trip = None }

pub beat_in_50_ms : wait_of pulse 1000 ≡ 50000
beat_in_50_ms = refl

pub beat_due : wait_of pulse 51000 ≡ 0
beat_due = refl

pub beat_has_both_numbers : beat_of pulse (record { front = 37; campaigns = true; over = false; seats = 5 }) ≡ record { number = 4; got = 8; front = 37; campaigns = true; over = false; seats = 5 }
beat_has_both_numbers = refl

-- the first beat that tells of beat 2, or of a later one, measures the way
pub way_measured : heard_at pulse (record { number = 9; got = 2; front = 37; campaigns = true; over = false; seats = 5 }) 1700 ≡ record { number = 3; got = 9; told = Some 1000; probe = None; round_trip = Some 1200 }
way_measured = refl

pub way_not_measured : (heard_at pulse (record { number = 9; got = 1; front = 37; campaigns = true; over = false; seats = 5 }) 1700).round_trip ≡ None
way_not_measured = refl

-- ---- Asks and Accepteds

pub asks_of_slot_1 : asked_slot (0 ∷ 0 ∷ 0 ∷ 6 ∷ 2 ∷ 7 ∷ 0 ∷ 0 ∷ 0 ∷ 1 ∷ []) ≡ Some 1
asks_of_slot_1 = refl

pub accepted-no_ask : asked_slot (0 ∷ 0 ∷ 0 ∷ 6 ∷ 2 ∷ 5 ∷ 0 ∷ 0 ∷ 0 ∷ 1 ∷ []) ≡ None
accepted-no_ask = refl

-- slots 1 and 63 are of one block, 64 of the next; 20 ms at least
pub same_block_again : is_again (Some (record { block = 0; at = 1000 })) (Some 63) 20999 0 ≡ true
same_block_again = refl

pub same_block_later : is_again (Some (record { block = 0; at = 1000 })) (Some 63) 21000 0 ≡ false
same_block_later = refl

pub same_block_over_a_slow_way : is_again (Some (record { block = 0; at = 1000 })) (Some 63) 21000 50000 ≡ true
same_block_over_a_slow_way = refl

pub next_block : is_again (Some (record { block = 0; at = 1000 })) (Some 64) 2000 0 ≡ false
next_block = refl

-- an Accepted of the ballot (7, 2) at slot 300
pub accepted_at_300 : accepted_slot (0 ∷ 0 ∷ 0 ∷ 13 ∷ 2 ∷ 5 ∷ 0 ∷ 0 ∷ 0 ∷ 7 ∷ 2 ∷ 0 ∷ 0 ∷ 1 ∷ 44 ∷ 1 ∷ 0 ∷ []) ≡ Some 300
accepted_at_300 = refl

pub ask-no_accepted : accepted_slot (0 ∷ 0 ∷ 0 ∷ 6 ∷ 2 ∷ 7 ∷ 0 ∷ 0 ∷ 0 ∷ 1 ∷ []) ≡ None
ask-no_accepted = refl

-- slots 63 and 127 are the last of their blocks, 64 is the first of one
pub chosen_at_63 : ends_block (0 ∷ 0 ∷ 0 ∷ 7 ∷ 2 ∷ 6 ∷ 0 ∷ 0 ∷ 0 ∷ 63 ∷ 1 ∷ []) ≡ true
chosen_at_63 = refl

pub chosen_at_127 : ends_block (0 ∷ 0 ∷ 0 ∷ 7 ∷ 2 ∷ 6 ∷ 0 ∷ 0 ∷ 0 ∷ 127 ∷ 1 ∷ []) ≡ true
chosen_at_127 = refl

pub chosen-first_of_a_block : ends_block (0 ∷ 0 ∷ 0 ∷ 7 ∷ 2 ∷ 6 ∷ 0 ∷ 0 ∷ 0 ∷ 64 ∷ 1 ∷ []) ≡ false
chosen-first_of_a_block = refl

pub ask-ends_no_block : ends_block (0 ∷ 0 ∷ 0 ∷ 6 ∷ 2 ∷ 7 ∷ 0 ∷ 0 ∷ 0 ∷ 63 ∷ []) ≡ false
ask-ends_no_block = refl

pub forward_is_one : is_forward (0 ∷ 0 ∷ 0 ∷ 9 ∷ 2 ∷ 8 ∷ 2 ∷ 0 ∷ 0 ∷ 0 ∷ 0 ∷ 0 ∷ 1 ∷ []) ≡ true
forward_is_one = refl

pub ask-no_forward : is_forward (0 ∷ 0 ∷ 0 ∷ 6 ∷ 2 ∷ 7 ∷ 0 ∷ 0 ∷ 0 ∷ 1 ∷ []) ≡ false
ask-no_forward = refl

pub forward_goes_again : (frame : Frame) → again_in (record { last = Some frame; sent = 1000 }) 21000 7000 ≡ 0
forward_goes_again frame = refl

pub forward-not_so_soon : (frame : Frame) → again_in (record { last = Some frame; sent = 1000 }) 20999 7000 ≡ 1
forward-not_so_soon frame = refl

-- over a way there and back of 90 ms
pub forward-waits_for_the_way : (frame : Frame) → again_in (record { last = Some frame; sent = 1000 }) 21000 90000 ≡ 70000
forward-waits_for_the_way frame = refl

pub forward-none_kept : again_in (record { last = None; sent = 1000 }) 21000 7000 ≡ 1000000
forward-none_kept = refl

pub ask-keeps_no_forward : (frame : Frame) (old : Forwarded) → forwarded_after (is_forward (0 ∷ 0 ∷ 0 ∷ 6 ∷ 2 ∷ 7 ∷ 0 ∷ 0 ∷ 0 ∷ 1 ∷ [])) frame 5 old ≡ old
ask-keeps_no_forward frame old = refl

-- ---- what a peer owes: a Prepare of the ballot (1, 0) at slot 0, and an Accept and a Promise of the same

abbrev of_kind : ℕ → List ℕ
of_kind kind = 0 ∷ 0 ∷ 0 ∷ 11 ∷ 2 ∷ kind ∷ 0 ∷ 0 ∷ 0 ∷ 1 ∷ 0 ∷ 0 ∷ 0 ∷ 0 ∷ 0 ∷ []

abbrev subject : Subject
subject = record { ballot = record { round = 1; node = 0 }; slot = 0 }

abbrev prepared : Question
prepared = record { request = Prepare; subject = subject }

abbrev asked : Question
asked = record { request = Accept 1; subject = subject }

pub prepare_asks : question_in (of_kind 1) ≡ Some prepared
prepare_asks = refl

pub accept_asks : question_in (of_kind 4) ≡ Some asked
accept_asks = refl

pub promise-no_question : question_in (of_kind 2) ≡ None
promise-no_question = refl

pub refuse_answers : answered_in (of_kind 3) ≡ Some subject
refuse_answers = refl

pub accept-no_answer : answered_in (of_kind 4) ≡ None
accept-no_answer = refl

abbrev owed : Owed
owed = record { last = Some asked; unanswered = Some asked }

pub answer_ends_all : heard_by (Some subject) owed ≡ record { last = None; unanswered = None }
answer_ends_all = refl

pub other_slot-no_answer : heard_by (Some (record subject { slot = 1 })) owed ≡ owed
other_slot-no_answer = refl

-- what waits goes over the connection that opens, and isn't lost; what doesn't is
pub waits-not_lost : lost_of (frame_of (of_kind 4) ∷ []) (Some asked) ≡ None
waits-not_lost = refl

pub gone-lost : lost_of [] (Some asked) ≡ Some asked
gone-lost = refl

pub promise-lost_beside_an_accept : lost_of (frame_of (of_kind 4) ∷ []) (Some prepared) ≡ Some prepared
promise-lost_beside_an_accept = refl

-- a promise that was lost is still owed when another is asked for, and not once the node asks for a vote; a lost vote is
pub promise-owed_beside_another : (asked_by (Some prepared) (record owed { unanswered = Some prepared })).unanswered ≡ Some prepared
promise-owed_beside_another = refl

pub promise-not_owed_behind_an_accept : (asked_by (Some asked) (record owed { unanswered = Some prepared })).unanswered ≡ None
promise-not_owed_behind_an_accept = refl

pub vote-owed_beside_another : (asked_by (Some asked) owed).unanswered ≡ Some asked
vote-owed_beside_another = refl

pub serves_at_its_slot : serves asked (Some (record { round = 1; node = 0 })) 0 ≡ true
serves_at_its_slot = refl

pub chosen_since : serves asked (Some (record { round = 1; node = 0 })) 1 ≡ false
chosen_since = refl

-- an Accept of three commands at slot 0 asks for the slots 0 to 2: its votes are of use until all of these are chosen
abbrev three_asked : Question
three_asked = record { request = Accept 3; subject = subject }

pub accept_asks_for_all_its_slots : question_in (of_kind 4 ++ 3 ∷ []) ≡ Some three_asked
accept_asks_for_all_its_slots = refl

pub serves_at_its_last_slot : serves three_asked (Some (record { round = 1; node = 0 })) 2 ≡ true
serves_at_its_last_slot = refl

pub all_chosen_since : serves three_asked (Some (record { round = 1; node = 0 })) 3 ≡ false
all_chosen_since = refl

-- the promise of a quorum is needed, whatever was chosen since
pub promise-serves_behind_its_slot : serves prepared (Some (record { round = 1; node = 0 })) 1 ≡ true
promise-serves_behind_its_slot = refl

pub promise-other_ballot : serves prepared (Some (record { round = 1; node = 1 })) 0 ≡ false
promise-other_ballot = refl

pub other_ballot : serves asked (Some (record { round = 1; node = 1 })) 0 ≡ false
other_ballot = refl

-- ---- callers who were refused

abbrev refusals : Refusals
refusals = record {
  peer = None;
  since = None ∷ None ∷ None ∷ Some (record { count = 1; fault = faults.OtherMatch (Nodes (record { said = 5; expected = 3 })) }) ∷ None ∷ None ∷ Some (record { count = 2; fault = faults.UnexpectedRecord }) ∷ None ∷ None ∷ None ∷ [];
  noted = None ∷ None ∷ None ∷ None ∷ None ∷ None ∷ Some 5000 ∷ None ∷ None ∷ None ∷ [];
}

pub not_noted_yet : due_at refusals 6 1004999 ≡ None
not_noted_yet = refl

pub noted_a_second_later : due_at refusals 6 1005000 ≡ Some (record { count = 2; fault = faults.UnexpectedRecord })
noted_a_second_later = refl

-- one of another number is noted at once, whatever that one had
pub other_number_noted : due_at refusals 3 5001 ≡ Some (record { count = 1; fault = faults.OtherMatch (Nodes (record { said = 5; expected = 3 })) })
other_number_noted = refl

pub counted : due_at (refused_by (faults.OtherMatch (Number (Called (record { said = 2; expected = 0 })))) refusals) 3 5001 ≡ Some (record { count = 2; fault = faults.OtherMatch (Number (Called (record { said = 2; expected = 0 }))) })
counted = refl

pub none_goes_again : is_due (record { last = None; sent = 0 }) 900000 0 ≡ false
none_goes_again = refl

pub accepted_goes_again : (last : LastAccepted) → is_due (record { last = Some last; sent = 1000 }) 101000 7000 ≡ true
accepted_goes_again last = refl

-- over a way there and back of 250 ms
pub accepted-waits_for_the_way : (last : LastAccepted) → is_due (record { last = Some last; sent = 1000 }) 250999 250000 ≡ false
accepted-waits_for_the_way last = refl

-- ---- notes of a peer's faults

-- the same fault again 10 s later, and no sooner
pub told_again : is_told (Some 5000) 10005000 ≡ true
told_again = refl

pub not_told_again : is_told (Some 5000) 10004999 ≡ false
not_told_again = refl

pub stores_apart : fault_place (faults.StoreReplaced whose.Own) ≡ 9
stores_apart = refl
