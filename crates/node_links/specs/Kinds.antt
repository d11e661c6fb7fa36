-- What each call of a connection does: what that of its kind does.
use Rattle.std.specs.Prelude.{◌≡◌, ℕ, List, ◌++◌, drop, Option, Some, None, Result}
use Rattle.peer_codes.specs.declared.hello.Hello.{Hello}
use Rattle.peer_codes.specs.declared.hello.Link.{Link}
use Rattle.peer_codes.specs.declared.hello.Link.TheVariants as links
use Rattle.peer_codes.specs.declared.phase.Phase.TheVariants as channel_phases
use Rattle.peer_codes.specs.Connections.{answered}
use Rattle.peer_codes.specs.Outgoings.{unwritten}
use Rattle.node_links.specs.declared.own.Own.{Own}
use Rattle.node_links.specs.declared.own.Met.{Met}
use Rattle.node_links.specs.declared.peer_fault.PeerFault.{PeerFault}
use Rattle.node_links.specs.declared.heard.Heard.{Heard}
use Rattle.node_links.specs.declared.phase.Phase.TheVariants as phases
use Rattle.node_links.specs.declared.stage.Stage.TheVariants as stages
use Rattle.node_links.specs.declared.coded_connection.CodedConnection.{CodedConnection}
use Rattle.node_links.specs.declared.connection.Connection.{Connection}
use Rattle.node_links.specs.declared.connection.Connection.TheVariants.{Plain, Coded}
use Rattle.node_links.specs.Coding.{NextCoded, settled_stage, begun_coded}
use Rattle.node_links.specs.Connections.{Next, begun_next}
use Rattle.node_links.specs.Outgoings as plain
use Rattle.node_links.specs.Steps.{settled}
use Rattle.node_links.specs.Versions.{in_version, version_in, version_at}
use Rattle.node_links.specs.Waits.{Waits}

-- the own Hello waits to be written, and the other's, of its version, is awaited
abbrev pub IsCalling : Hello → Connection → Type 0
IsCalling own (Plain c) = (c.phase ≡ phases.Greeting (Some own.version)) × (c.out.hello ≡ Some own)
IsCalling own (Coded c) = (c.stage ≡ stages.Greeting) × (c.channel.phase ≡ channel_phases.Greeting (Some own)) × (c.channel.out.hello ≡ Some own)

-- the other's Hello is awaited
abbrev pub IsListening : Connection → Type 0
IsListening (Plain c) = (c.phase ≡ phases.Greeting None) × (c.out.hello ≡ None)
IsListening (Coded c) = (c.stage ≡ stages.Greeting) × (c.channel.phase ≡ channel_phases.Greeting None) × (c.channel.out.hello ≡ None)

-- how many bytes more may come before memory is wanted
abbrev pub room_of : Connection → ℕ
room_of (Plain c) = c.came.room
room_of (Coded c) = c.channel.came.room

-- this piece waits behind what came, and nothing else changes
abbrev pub TakesIn : List ℕ → Connection → Connection → Type 0
TakesIn piece (Plain old) (Plain new) = (new ≡ record old { came = new.came }) × (new.came.waiting ≡ old.came.waiting ++ piece)
TakesIn piece (Coded old) (Coded new) = (new ≡ record old { channel = record old.channel { came = new.channel.came } }) × (new.channel.came.waiting ≡ old.channel.came.waiting ++ piece)
TakesIn piece (Plain old) (Coded new) = ⊥
TakesIn piece (Coded old) (Plain new) = ⊥

-- what came next is told
abbrev pub NextBy : Connection → Option (Result Heard PeerFault) → Connection → Type 0
NextBy (Plain old) result (Plain new) = Next old.phase old result new
NextBy (Coded old) result (Coded new) = NextCoded old.stage old result new
NextBy (Plain old) result (Coded new) = ⊥
NextBy (Coded old) result (Plain new) = ⊥

-- with codes only a Hello with a nonce is an answer
abbrev pub answered_coded : Link → Hello → CodedConnection → CodedConnection
answered_coded links.Plain own c = c
answered_coded (links.Coded nonce) own c = record c { channel = answered c.channel.phase (in_version (version_at c.stage) own) c.channel }

-- the own Hello is to be written, in the version of the one that came
abbrev pub answered_by : Hello → Connection → Connection
answered_by own (Plain c) = Plain (record c { out = record c.out { hello = Some (in_version (version_in c.phase) own) } })
answered_by own (Coded c) = Coded (answered_coded own.link own c)

-- what waits to be judged is judged
abbrev pub settled_by : Own → Option ℕ → List Met → Connection → Connection
settled_by own dialled met (Plain c) = Plain (record c { phase = settled own dialled met c.phase })
settled_by own dialled met (Coded c) = Coded (record c { stage = settled_stage own dialled met c.stage })

-- the next record is begun, where none is unfinished
abbrev pub begun_by : Connection → Waits → Connection × Waits
begun_by (Plain c) w = (Plain (begun_next c w).0, (begun_next c w).1)
begun_by (Coded c) w = (Coded (begun_coded c w).0, (begun_coded c w).1)

-- so many bytes of it are written, and nothing else changes
abbrev pub Writes : ℕ → Connection → Connection → Type 0
Writes count (Plain old) (Plain new) = (new ≡ record old { out = record old.out { written = new.out.written } }) × (plain.unwritten new.out ≡ drop count (plain.unwritten old.out))
Writes count (Coded old) (Coded new) = (new ≡ record old { channel = record old.channel { out = record old.channel.out { written = new.channel.out.written } } }) × (unwritten new.channel.out ≡ drop count (unwritten old.channel.out))
Writes count (Plain old) (Coded new) = ⊥
Writes count (Coded old) (Plain new) = ⊥
