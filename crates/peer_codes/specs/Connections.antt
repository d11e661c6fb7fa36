-- A connection: what it reads next, how the called answers, and what it writes next.
use Rattle.std.specs.Prelude.{◌≡◌, ℕ, ◌≤◌, nat_lt, ◌==◌, if◌then◌else◌, Bool, true, false, ◌&&◌, List, length, drop, Option, Some, None, Result, Err}
use Rattle.byte_queue.specs.Queued.{Queued}
use Rattle.peer_codes.specs.declared.limits.TheConstants.{LAST_NUMBER}
use Rattle.peer_codes.specs.declared.key.Key.{Key}
use Rattle.peer_codes.specs.declared.fault.RecordFault.TheVariants.{BadHello}
use Rattle.peer_codes.specs.declared.connection_fault.ConnectionFault.{ConnectionFault}
use Rattle.peer_codes.specs.declared.connection_fault.ConnectionFault.TheVariants as faults
use Rattle.peer_codes.specs.declared.role.Role.TheVariants.{Caller, Called}
use Rattle.peer_codes.specs.declared.version.Version.{Version}
use Rattle.peer_codes.specs.declared.version.Version.TheVariants.{First, Second}
use Rattle.peer_codes.specs.declared.hello.Hello.{Hello}
use Rattle.peer_codes.specs.declared.hellos.Hellos.{Hellos}
use Rattle.peer_codes.specs.declared.beat.Beat.{Beat}
use Rattle.peer_codes.specs.declared.frame.Frame.{Frame}
use Rattle.peer_codes.specs.declared.more.More.{More}
use Rattle.peer_codes.specs.declared.records.Proof.{Proof}
use Rattle.peer_codes.specs.declared.records.Record.TheVariants as record_of
use Rattle.peer_codes.specs.declared.kind.Kind.{Kind}
use Rattle.peer_codes.specs.declared.kind.Kind.TheVariants as kind_of
use Rattle.peer_codes.specs.declared.event.Event.{Event}
use Rattle.peer_codes.specs.declared.phase.Ways.{Ways}
use Rattle.peer_codes.specs.declared.phase.Phase.{Phase}
use Rattle.peer_codes.specs.declared.phase.Phase.TheVariants as phases
use Rattle.peer_codes.specs.declared.outgoing.Outgoing.{Outgoing}
use Rattle.peer_codes.specs.declared.connection.Connection.{Connection}
use Rattle.peer_codes.specs.Versions.{same_version}
use Rattle.peer_codes.specs.Mores.{is_more}
use Rattle.peer_codes.specs.Spelling.{beat_text, record_text}
use Rattle.peer_codes.specs.Faults.{needed, front, IsPartial}
use Rattle.peer_codes.specs.Codes.{coded, after}
use Rattle.peer_codes.specs.Steps.{proof_of, proving, front_step}
use Rattle.peer_codes.specs.Outgoings.{unwritten, later, with_begun, and_frame, is_idle}

-- ---- what came

-- what stands in front does what a record does, and is taken
pub record Reads (old new : Connection) (told : Result Event ConnectionFault) : Type 0 where
  pub whole : needed old.came.waiting ≤ length old.came.waiting
  pub room : old.came.room ≤ new.came.room
  pub came : new.came.waiting ≡ drop (needed old.came.waiting) old.came.waiting
  pub told_is : told ≡ (front_step old.key.bytes old.phase (front old.came.waiting)).event
  pub others : new ≡ record old { phase = (front_step old.key.bytes old.phase (front old.came.waiting)).phase; came = new.came; out = record old.out { proof = later old.out.proof (front_step old.key.bytes old.phase (front old.came.waiting)).proof } }

-- it waits where what stands in front isn't whole, and reads it else
abbrev pub ReadsOrWaits : Connection → Option (Result Event ConnectionFault) → Connection → Type 0
ReadsOrWaits old None new = IsPartial old.came.waiting × (new ≡ old)
ReadsOrWaits old (Some told) new = Reads old new told

-- the called reads nothing before it has answered, and a fault is told again from then on
abbrev pub Next : Phase → Connection → Option (Result Event ConnectionFault) → Connection → Type 0
Next (phases.Asked caller) old result new = (result ≡ None) × (new ≡ old)
Next (phases.Closed fault) old result new = (result ≡ Some (Err fault)) × (new ≡ old)
Next phases.Refused old result new = (result ≡ Some (Err (faults.Record BadHello))) × (new ≡ old)
Next (phases.Greeting own) old result new = ReadsOrWaits old result new
Next (phases.Proving theirs ways) old result new = ReadsOrWaits old result new
Next (phases.Open ways) old result new = ReadsOrWaits old result new

-- the called's own Hello and its proof are to be written, and the caller's proof is awaited
abbrev pub met : Hello → Hello → Connection → Connection
met caller own c =
    let hellos : Hellos = record { caller = caller; called = own } in
    record c { phase = proving c.key.bytes Called Caller hellos; out = record c.out { hello = Some own; proof = Some (proof_of c.key.bytes Called hellos) } }

-- its Hello alone, once
abbrev pub turned_away : Hello → Connection → Connection
turned_away own c = record c { phase = phases.Closed (faults.Record BadHello); out = record c.out { hello = Some own } }

-- who called in this version is met; where it was refused, or called in another version, it is turned away
abbrev pub answered : Phase → Hello → Connection → Connection
answered (phases.Asked caller) own c = if same_version caller.version own.version then met caller own c else turned_away own c
answered phases.Refused own c = turned_away own c
answered (phases.Greeting earlier) own c = c
answered (phases.Proving theirs ways) own c = c
answered (phases.Open ways) own c = c
answered (phases.Closed fault) own c = c

-- ---- what is to be written

abbrev pub is_second : Version → Bool
is_second First = false
is_second Second = true

-- a record of this further kind is taken on an open connection of the second version, where none waits
abbrev pub takes_more : Phase → Option More → ℕ → Bool
takes_more (phases.Open ways) None byte = is_second ways.writing.version && is_more byte
takes_more (phases.Open ways) (Some other) byte = false
takes_more (phases.Greeting own) other byte = false
takes_more (phases.Asked caller) other byte = false
takes_more phases.Refused other byte = false
takes_more (phases.Proving theirs ways) other byte = false
takes_more (phases.Closed fault) other byte = false

abbrev pub with_more : Bool → More → Connection → Connection
with_more true more c = record c { out = record c.out { more = Some more } }
with_more false more c = c

-- a frame of these bytes waits, but not where one does already
abbrev pub with_frame : List ℕ → Connection → Connection
with_frame bytes c = record c { out = record c.out { frame = and_frame c.out.frame (record { bytes = record { items = bytes } }) } }

-- what is put there is coded at once: the connection is open, a number is left, and nothing else is to be written
abbrev pub is_free : Phase → Outgoing → Bool
is_free (phases.Open ways) out = nat_lt ways.writing.number LAST_NUMBER && is_idle out
is_free (phases.Greeting own) out = false
is_free (phases.Asked caller) out = false
is_free phases.Refused out = false
is_free (phases.Proving theirs ways) out = false
is_free (phases.Closed fault) out = false

-- ---- what is written

-- the record of this kind with this body is coded now, and begun
abbrev pub said : Ways → Kind → List ℕ → Key → Queued → Outgoing → Connection
said ways kind body key came out = record { key = key; phase = phases.Open (record { reading = ways.reading; writing = after ways.writing (length body) }); came = came; out = with_begun (coded ways.writing kind body) out }

-- the beat goes first, then the record of a further kind, and then the frame
abbrev pub begun_on : Ways → Option Beat → Option More → Option Frame → Key → Queued → Outgoing → Connection
begun_on ways (Some beat) more frame key came out = said ways kind_of.Beat (beat_text beat) key came (record out { beat = None })
begun_on ways None (Some more) frame key came out = said ways (kind_of.More more.kind) more.bytes.items key came (record out { more = None })
begun_on ways None None (Some frame) key came out = said ways kind_of.Frame frame.bytes.items key came (record out { frame = None })
begun_on ways None None None key came out = record { key = key; phase = phases.Open ways; came = came; out = out }

-- nothing is coded where no number is left
abbrev pub begun_open : Ways → Key → Queued → Outgoing → Connection
begun_open ways key came out = if nat_lt ways.writing.number LAST_NUMBER then begun_on ways out.beat out.more out.frame key came out else record { key = key; phase = phases.Open ways; came = came; out = out }

-- nor before the connection is open
abbrev pub begun_coded : Phase → Key → Queued → Outgoing → Connection
begun_coded (phases.Open ways) key came out = begun_open ways key came out
begun_coded (phases.Greeting own) key came out = record { key = key; phase = phases.Greeting own; came = came; out = out }
begun_coded (phases.Asked caller) key came out = record { key = key; phase = phases.Asked caller; came = came; out = out }
begun_coded (phases.Proving theirs ways) key came out = record { key = key; phase = phases.Proving theirs ways; came = came; out = out }
begun_coded phases.Refused key came out = record { key = key; phase = phases.Refused; came = came; out = out }
begun_coded (phases.Closed fault) key came out = record { key = key; phase = phases.Closed fault; came = came; out = out }

-- its own Hello and its own proof go before all else
abbrev pub begun_first : Option Hello → Option Proof → Connection → Connection
begun_first (Some hello) proof c = record c { out = with_begun (record_text (record_of.Hello hello)) (record c.out { hello = None }) }
begun_first None (Some proof) c = record c { out = with_begun (record_text (record_of.Proof proof)) (record c.out { proof = None }) }
begun_first None None c = begun_coded c.phase c.key c.came c.out

-- a record is begun where none is unfinished
unfoldable pub begun_next : Connection → Connection
begun_next c = if length (unwritten c.out) == 0 then begun_first c.out.hello c.out.proof c else c
