-- A connection with codes: what it hears next, how the Hello that came is judged, and what it writes next.
use Rattle.std.specs.Prelude.{◌≡◌, ℕ, nat_le, ◌==◌, ◌&&◌, Bool, true, false, if◌then◌else◌, List, length, Option, Some, None, is_none, Result, Ok, Err}
use Rattle.peer_codes.specs.declared.limits.TheConstants.{LEAST_FRAME}
use Rattle.peer_codes.specs.declared.version.Version.{Version}
use Rattle.peer_codes.specs.declared.fault.RecordFault.{RecordFault}
use Rattle.peer_codes.specs.declared.connection_fault.ConnectionFault.{ConnectionFault}
use Rattle.peer_codes.specs.declared.connection_fault.ConnectionFault.TheVariants as channel_faults
use Rattle.peer_codes.specs.declared.event.Event.{Event}
use Rattle.peer_codes.specs.declared.event.Event.TheVariants as events
use Rattle.peer_codes.specs.declared.frame.Frame.{Frame}
use Rattle.peer_codes.specs.declared.hello.Hello.{Hello}
use Rattle.peer_codes.specs.declared.records.Record.{Record}
use Rattle.peer_codes.specs.declared.records.Record.TheVariants as record_of
use Rattle.peer_codes.specs.declared.outgoing.Outgoing.{Outgoing}
use Rattle.peer_codes.specs.declared.connection.Connection.{Connection as Channel}
use Rattle.peer_codes.specs.Connections as channels
use Rattle.peer_codes.specs.Outgoings.{unwritten, and_frame}
use Rattle.node_links.specs.declared.own.Own.{Own}
use Rattle.node_links.specs.declared.own.Met.{Met}
use Rattle.node_links.specs.declared.peer_fault.PeerFault.{PeerFault}
use Rattle.node_links.specs.declared.peer_fault.PeerFault.TheVariants as faults
use Rattle.node_links.specs.declared.further.Further.{Further}
use Rattle.node_links.specs.declared.heard.Heard.{Heard}
use Rattle.node_links.specs.declared.heard.Heard.TheVariants as heards
use Rattle.node_links.specs.declared.stage.Stage.{Stage}
use Rattle.node_links.specs.declared.stage.Stage.TheVariants as stages
use Rattle.node_links.specs.declared.coded_step.LentStep.{LentStep}
use Rattle.node_links.specs.declared.coded_connection.CodedConnection.{CodedConnection}
use Rattle.node_links.specs.Arriving.{told_as}
use Rattle.node_links.specs.Judging.{judged_match, judged_known}
use Rattle.node_links.specs.Telling.{read_behind}
use Rattle.node_links.specs.Waits.{Waits}
use Rattle.node_links.specs.Waiting.{next_of, rest_of, has_next}

-- ---- what came

-- what an event does to a connection
pub record CodedStep : Type 0 where
  pub stage : Stage
  pub heard : Result Heard PeerFault

-- what it does, where the buffer has this frame
abbrev pub step_as : LentStep → Frame → CodedStep
step_as step frame = record { stage = step.stage; heard = told_as step.told frame }

abbrev pub peer_fault_of : ConnectionFault → PeerFault
peer_fault_of (channel_faults.Record fault) = faults.Record fault
peer_fault_of channel_faults.WrongProof = faults.WrongProof
peer_fault_of channel_faults.WrongTag = faults.WrongTag
peer_fault_of channel_faults.UnexpectedRecord = faults.UnexpectedRecord

abbrev pub closed : PeerFault → CodedStep
closed fault = record { stage = stages.Closed fault; heard = Err fault }

-- first of all comes a Hello, which is judged next
abbrev pub on_greeting : Event → CodedStep
on_greeting (events.Greeted hello) = record { stage = stages.Asked hello; heard = Ok (heards.Hello hello) }
on_greeting events.Opened = closed faults.UnexpectedRecord
on_greeting (events.Frame frame) = closed faults.UnexpectedRecord
on_greeting (events.Beat beat) = closed faults.UnexpectedRecord
on_greeting (events.More more) = closed faults.UnexpectedRecord

-- then the proof: what its Hello changes is judged next
abbrev pub on_matched : Hello → Event → CodedStep
on_matched hello events.Opened = record { stage = stages.Proved hello; heard = Ok (heards.Proved hello) }
on_matched hello (events.Greeted other) = closed faults.UnexpectedRecord
on_matched hello (events.Frame frame) = closed faults.UnexpectedRecord
on_matched hello (events.Beat beat) = closed faults.UnexpectedRecord
on_matched hello (events.More more) = closed faults.UnexpectedRecord

-- a record of a further kind tells this, or closes the connection
abbrev pub on_further : Hello → Result Further RecordFault → CodedStep
on_further hello (Ok further) = record { stage = stages.Open hello; heard = Ok (heards.Further further) }
on_further hello (Err fault) = closed (faults.Record fault)

-- and then frames, beats and records of further kinds
abbrev pub on_open : Hello → Event → CodedStep
on_open hello (events.Frame frame) = record { stage = stages.Open hello; heard = Ok (heards.Frame frame) }
on_open hello (events.Beat beat) = record { stage = stages.Open hello; heard = Ok (heards.Beat beat) }
on_open hello (events.Greeted other) = closed faults.UnexpectedRecord
on_open hello events.Opened = closed faults.UnexpectedRecord
on_open hello (events.More more) = on_further hello (read_behind hello more)

abbrev pub on_event : Stage → Event → CodedStep
on_event stages.Greeting event = on_greeting event
on_event (stages.Matched hello) event = on_matched hello event
on_event (stages.Open hello) event = on_open hello event
on_event (stages.Asked hello) event = closed faults.UnexpectedRecord
on_event (stages.Proved hello) event = closed faults.UnexpectedRecord
on_event (stages.Closed fault) event = closed fault

-- what the channel tells does, or its fault
abbrev pub coded_step : Stage → Result Event ConnectionFault → CodedStep
coded_step stage (Ok event) = on_event stage event
coded_step stage (Err fault) = closed (peer_fault_of fault)

-- the channel tells this next, and it does what it does
pub record Hears (old new : CodedConnection) (told : Result Heard PeerFault) : Type 0 where
  pub came : Result Event ConnectionFault
  pub next : channels.Next old.channel.phase old.channel (Some came) new.channel
  pub told_is : told ≡ (coded_step old.stage came).heard
  pub stage : new.stage ≡ (coded_step old.stage came).stage

abbrev pub HearsOrWaits : CodedConnection → Option (Result Heard PeerFault) → CodedConnection → Type 0
HearsOrWaits old None new = channels.Next old.channel.phase old.channel None new.channel × (new.stage ≡ old.stage)
HearsOrWaits old (Some told) new = Hears old new told

-- nothing is unfinished, and the own Hello doesn't wait
abbrev pub has_said_hello : Outgoing → Bool
has_said_hello out = length (unwritten out) == 0 && is_none out.hello

-- the other's proof is read once the own Hello is written
abbrev pub HearsProof : Bool → CodedConnection → Option (Result Heard PeerFault) → CodedConnection → Type 0
HearsProof true old result new = HearsOrWaits old result new
HearsProof false old result new = (result ≡ None) × (new ≡ old)

-- nothing is read while something waits to be judged, and a fault is told again from then on
abbrev pub NextCoded : Stage → CodedConnection → Option (Result Heard PeerFault) → CodedConnection → Type 0
NextCoded (stages.Asked hello) old result new = (result ≡ None) × (new ≡ old)
NextCoded (stages.Proved hello) old result new = (result ≡ None) × (new ≡ old)
NextCoded (stages.Closed fault) old result new = (result ≡ Some (Err fault)) × (new ≡ old)
NextCoded stages.Greeting old result new = HearsOrWaits old result new
NextCoded (stages.Matched hello) old result new = HearsProof (has_said_hello old.channel.out) old result new
NextCoded (stages.Open hello) old result new = HearsOrWaits old result new

-- ---- judging

abbrev pub matched : Result (Unit {0}) PeerFault → Hello → Stage
matched (Ok done) hello = stages.Matched hello
matched (Err fault) hello = stages.Closed fault

abbrev pub taken : Result (Unit {0}) PeerFault → Hello → Stage
taken (Ok done) hello = stages.Open hello
taken (Err fault) hello = stages.Closed fault

-- the match is judged when the Hello came; the store and whether the node is there already once the proof is right
abbrev pub settled_stage : Own → Option ℕ → List Met → Stage → Stage
settled_stage own dialled met (stages.Asked hello) = matched (judged_match own dialled hello) hello
settled_stage own dialled met (stages.Proved hello) = taken (judged_known own met hello) hello
settled_stage own dialled met stages.Greeting = stages.Greeting
settled_stage own dialled met (stages.Matched hello) = stages.Matched hello
settled_stage own dialled met (stages.Open hello) = stages.Open hello
settled_stage own dialled met (stages.Closed fault) = stages.Closed fault

-- the node at the other end of a connection that is open
abbrev pub peer_at : Stage → Option ℕ
peer_at (stages.Open hello) = Some hello.ends.from
peer_at stages.Greeting = None
peer_at (stages.Asked hello) = None
peer_at (stages.Matched hello) = None
peer_at (stages.Proved hello) = None
peer_at (stages.Closed fault) = None

-- what closed it
abbrev pub fault_at : Stage → Option PeerFault
fault_at (stages.Closed fault) = Some fault
fault_at stages.Greeting = None
fault_at (stages.Asked hello) = None
fault_at (stages.Matched hello) = None
fault_at (stages.Proved hello) = None
fault_at (stages.Open hello) = None

-- ---- what is written

-- the channel has this to say next
abbrev pub given : Channel → Option Record → Channel
given c None = c
given c (Some (record_of.Beat beat)) = record c { out = record c.out { beat = Some beat } }
given c (Some (record_of.Frame frame)) = if nat_le LEAST_FRAME (length frame.bytes.items) then record c { out = record c.out { frame = and_frame c.out.frame frame } } else c
given c (Some (record_of.Hello hello)) = c
given c (Some (record_of.Proof proof)) = c
given c (Some (record_of.More more)) = channels.with_more (channels.takes_more c.phase c.out.more more.kind) more c

-- this is coded now, if something waits
abbrev pub said_next : CodedConnection → Option Record → CodedConnection
said_next c said = record c { channel = channels.begun_next (given c.channel said) }

-- what waits next is coded now, and waits no longer
abbrev pub begun_open : Version → CodedConnection → Waits → CodedConnection × Waits
begun_open version c w = (said_next c (next_of version w), rest_of version w)

-- only on an open connection, and where something waits
abbrev pub begun_by : Stage → CodedConnection → Waits → CodedConnection × Waits
begun_by (stages.Open hello) c w = if has_next hello.version w then begun_open hello.version c w else (c, w)
begun_by stages.Greeting c w = (c, w)
begun_by (stages.Asked hello) c w = (c, w)
begun_by (stages.Matched hello) c w = (c, w)
begun_by (stages.Proved hello) c w = (c, w)
begun_by (stages.Closed fault) c w = (c, w)

-- and where nothing is unfinished, the own Hello and proof among it
abbrev pub begun_where : CodedConnection → Waits → CodedConnection × Waits
begun_where c w = if length (unwritten c.channel.out) == 0 then begun_by c.stage c w else (c, w)

abbrev pub begun_coded : CodedConnection → Waits → CodedConnection × Waits
begun_coded c w = begun_where (record c { channel = channels.begun_next c.channel }) w
