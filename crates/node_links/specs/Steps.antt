-- What a record does to a connection, and how its Hello is judged.
use Rattle.std.specs.Prelude.{ℕ, Bool, true, if◌then◌else◌, List, Option, Some, None, Result, Ok, Err}
use Rattle.peer_codes.specs.declared.fault.RecordFault.{RecordFault}
use Rattle.peer_codes.specs.declared.fault.RecordFault.TheVariants.{BadKind, BadHello}
use Rattle.peer_codes.specs.declared.version.Version.{Version}
use Rattle.peer_codes.specs.Versions.{same_version}
use Rattle.peer_codes.specs.declared.hello.Hello.{Hello}
use Rattle.peer_codes.specs.declared.records.Record.{Record}
use Rattle.peer_codes.specs.declared.records.Record.TheVariants as record_of
use Rattle.node_links.specs.declared.own.Own.{Own}
use Rattle.node_links.specs.declared.own.Met.{Met}
use Rattle.node_links.specs.declared.peer_fault.PeerFault.{PeerFault}
use Rattle.node_links.specs.declared.peer_fault.PeerFault.TheVariants as faults
use Rattle.node_links.specs.declared.further.Further.{Further}
use Rattle.node_links.specs.declared.heard.Heard.TheVariants as heards
use Rattle.node_links.specs.declared.phase.Phase.{Phase}
use Rattle.node_links.specs.declared.phase.Phase.TheVariants as phases
use Rattle.node_links.specs.declared.step.Step.{Step}
use Rattle.node_links.specs.Judging.{judged}
use Rattle.node_links.specs.Telling.{read_behind}

-- the fault closes the connection
abbrev pub closed : PeerFault → Step
closed fault = record { phase = phases.Closed fault; heard = Err fault }

-- who dialled takes no Hello of another version than its own
abbrev pub is_version : Option Version → Version → Bool
is_version None version = true
is_version (Some mine) version = same_version mine version

-- the other's Hello is judged next
abbrev pub asked : Hello → Step
asked hello = record { phase = phases.Asked hello; heard = Ok (heards.Hello hello) }

abbrev pub greeted : Option Version → Hello → Step
greeted mine hello = if is_version mine hello.version then asked hello else closed (faults.Record BadHello)

-- first of all comes a Hello
abbrev pub on_greeting : Option Version → Record → Step
on_greeting mine (record_of.Hello hello) = greeted mine hello
on_greeting mine (record_of.Proof proof) = closed faults.UnexpectedRecord
on_greeting mine (record_of.Frame frame) = closed faults.UnexpectedRecord
on_greeting mine (record_of.Beat beat) = closed faults.UnexpectedRecord
on_greeting mine (record_of.More more) = closed (faults.Record BadKind)

-- a record of a further kind tells this, or closes the connection
abbrev pub on_further : Hello → Result Further RecordFault → Step
on_further other (Ok further) = record { phase = phases.Open other; heard = Ok (heards.Further further) }
on_further other (Err fault) = closed (faults.Record fault)

-- and then frames, beats and records of further kinds
abbrev pub on_open : Hello → Record → Step
on_open other (record_of.Frame frame) = record { phase = phases.Open other; heard = Ok (heards.Frame frame) }
on_open other (record_of.Beat beat) = record { phase = phases.Open other; heard = Ok (heards.Beat beat) }
on_open other (record_of.Hello hello) = closed faults.UnexpectedRecord
on_open other (record_of.Proof proof) = closed faults.UnexpectedRecord
on_open other (record_of.More more) = on_further other (read_behind other more)

-- what a record does
abbrev pub stepped : Phase → Record → Step
stepped (phases.Greeting mine) said = on_greeting mine said
stepped (phases.Asked hello) said = closed faults.UnexpectedRecord
stepped (phases.Open other) said = on_open other said
stepped (phases.Closed fault) said = closed fault

-- what the record that was read does, or its fault
abbrev pub step_by : Phase → Result Record RecordFault → Step
step_by phase (Ok said) = stepped phase said
step_by phase (Err fault) = closed (faults.Record fault)

abbrev pub opened : Result (Unit {0}) PeerFault → Hello → Phase
opened (Ok done) hello = phases.Open hello
opened (Err fault) hello = phases.Closed fault

-- the Hello that came opens the connection where it is taken, and closes it else
abbrev pub settled : Own → Option ℕ → List Met → Phase → Phase
settled own dialled met (phases.Asked hello) = opened (judged own dialled met hello) hello
settled own dialled met (phases.Greeting mine) = phases.Greeting mine
settled own dialled met (phases.Open other) = phases.Open other
settled own dialled met (phases.Closed fault) = phases.Closed fault
