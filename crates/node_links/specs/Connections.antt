-- A connection without codes: what it reads next, and what it writes next.
use Rattle.std.specs.Prelude.{◌≡◌, ℕ, ◌==◌, if◌then◌else◌, List, ◌++◌, length, Option, Some, None, Result, Ok, Err}
use Rattle.peer_codes.specs.declared.fault.RecordFault.{RecordFault}
use Rattle.peer_codes.specs.declared.hello.Hello.{Hello}
use Rattle.peer_codes.specs.declared.records.Record.{Record}
use Rattle.peer_codes.specs.declared.records.Record.TheVariants as record_of
use Rattle.peer_codes.specs.Fits.{IsRecord}
use Rattle.peer_codes.specs.Spelling.{record_text}
use Rattle.peer_codes.specs.Faults.{IsPartial, IsFaulty}
use Rattle.peer_codes.specs.declared.version.Version.{Version}
use Rattle.node_links.specs.declared.peer_fault.PeerFault.{PeerFault}
use Rattle.node_links.specs.declared.heard.Heard.{Heard}
use Rattle.node_links.specs.declared.phase.Phase.{Phase}
use Rattle.node_links.specs.declared.phase.Phase.TheVariants as phases
use Rattle.node_links.specs.declared.plain_connection.PlainConnection.{PlainConnection}
use Rattle.node_links.specs.Outgoings.{unwritten, with_begun}
use Rattle.node_links.specs.Steps.{step_by}
use Rattle.node_links.specs.Waits.{Waits}
use Rattle.node_links.specs.Waiting.{next_of, rest_of, has_next}

-- ---- what came

-- in front of these bytes stands the text of this record, and the rest behind it; or no record, and this is the first fault
abbrev pub IsFront : List ℕ → Result Record RecordFault → List ℕ → Type 0
IsFront bytes (Ok said) rest = IsRecord said × (bytes ≡ record_text said ++ rest)
IsFront bytes (Err fault) rest = IsFaulty bytes fault

-- what stands in front does what a record does, and is taken
pub record Reads (old new : PlainConnection) (told : Result Heard PeerFault) : Type 0 where
  pub read : Result Record RecordFault
  pub front : IsFront old.came.waiting read new.came.waiting
  pub told_is : told ≡ (step_by old.phase read).heard
  pub others : new ≡ record old { phase = (step_by old.phase read).phase; came = new.came }

-- it waits where what stands in front isn't whole, and reads it else
abbrev pub ReadsOrWaits : PlainConnection → Option (Result Heard PeerFault) → PlainConnection → Type 0
ReadsOrWaits old None new = IsPartial old.came.waiting × (new ≡ old)
ReadsOrWaits old (Some told) new = Reads old new told

-- nothing is read before the Hello that came is judged, and a fault is told again from then on
abbrev pub Next : Phase → PlainConnection → Option (Result Heard PeerFault) → PlainConnection → Type 0
Next (phases.Asked hello) old result new = (result ≡ None) × (new ≡ old)
Next (phases.Closed fault) old result new = (result ≡ Some (Err fault)) × (new ≡ old)
Next (phases.Greeting mine) old result new = ReadsOrWaits old result new
Next (phases.Open other) old result new = ReadsOrWaits old result new

-- the node at the other end of a connection that is open
abbrev pub peer_in : Phase → Option ℕ
peer_in (phases.Open other) = Some other.ends.from
peer_in (phases.Greeting mine) = None
peer_in (phases.Asked hello) = None
peer_in (phases.Closed fault) = None

-- what closed it
abbrev pub fault_in : Phase → Option PeerFault
fault_in (phases.Closed fault) = Some fault
fault_in (phases.Greeting mine) = None
fault_in (phases.Asked hello) = None
fault_in (phases.Open other) = None

-- ---- what is written

-- this record is begun
abbrev pub said_next : PlainConnection → Option Record → PlainConnection
said_next c None = c
said_next c (Some said) = record c { out = with_begun (record_text said) c.out }

-- what waits next is begun, and waits no longer
abbrev pub begun_open : Version → PlainConnection → Waits → PlainConnection × Waits
begun_open version c w = (said_next c (next_of version w), rest_of version w)

-- nothing is said before the connection is open, nor where nothing waits
abbrev pub begun_by : Phase → PlainConnection → Waits → PlainConnection × Waits
begun_by (phases.Open other) c w = if has_next other.version w then begun_open other.version c w else (c, w)
begun_by (phases.Greeting mine) c w = (c, w)
begun_by (phases.Asked hello) c w = (c, w)
begun_by (phases.Closed fault) c w = (c, w)

-- but this side's own Hello, which goes before all else
abbrev pub begun_first : Option Hello → Phase → PlainConnection → Waits → PlainConnection × Waits
begun_first (Some hello) phase c w = (record c { out = with_begun (record_text (record_of.Hello hello)) (record c.out { hello = None }) }, w)
begun_first None phase c w = begun_by phase c w

-- a record is begun where none is unfinished
unfoldable pub begun_next : PlainConnection → Waits → PlainConnection × Waits
begun_next c w = if length (unwritten c.out) == 0 then begun_first c.out.hello c.phase c w else (c, w)
