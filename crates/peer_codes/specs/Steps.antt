-- What a record does to a connection.
use Rattle.std.specs.Prelude.{◌≡◌, ℕ, ◌-◌, Bool, true, false, not, ◌==◌, if◌then◌else◌, List, length, drop, Option, Some, None, Result, Ok, Err}
use Rattle.std.specs.Str.{bytes_eq}
use Rattle.peer_codes.specs.declared.limits.TheConstants.{TAG_BYTES}
use Rattle.peer_codes.specs.declared.fault.RecordFault.{RecordFault}
use Rattle.peer_codes.specs.declared.fault.RecordFault.TheVariants.{BadLength, BadKind, BadHello}
use Rattle.peer_codes.specs.declared.connection_fault.ConnectionFault.{ConnectionFault}
use Rattle.peer_codes.specs.declared.connection_fault.ConnectionFault.TheVariants as faults
use Rattle.peer_codes.specs.declared.role.Role.{Role}
use Rattle.peer_codes.specs.declared.role.Role.TheVariants.{Caller, Called}
use Rattle.peer_codes.specs.declared.version.Version.{Version}
use Rattle.peer_codes.specs.declared.version.Version.TheVariants.{First, Second}
use Rattle.peer_codes.specs.declared.hello.Link.{Link}
use Rattle.peer_codes.specs.declared.hello.Link.TheVariants.{Plain, Coded}
use Rattle.peer_codes.specs.declared.hello.Hello.{Hello}
use Rattle.peer_codes.specs.declared.hellos.Hellos.{Hellos}
use Rattle.peer_codes.specs.declared.beat.Beat.{Beat}
use Rattle.peer_codes.specs.declared.more.More.{More}
use Rattle.peer_codes.specs.declared.records.Proof.{Proof}
use Rattle.peer_codes.specs.declared.kind.Kind.{Kind}
use Rattle.peer_codes.specs.declared.kind.Kind.TheVariants as kind_of
use Rattle.peer_codes.specs.declared.event.Event.{Event}
use Rattle.peer_codes.specs.declared.event.Event.TheVariants as events
use Rattle.peer_codes.specs.declared.phase.Ways.{Ways}
use Rattle.peer_codes.specs.declared.phase.Phase.{Phase}
use Rattle.peer_codes.specs.declared.phase.Phase.TheVariants as phases
use Rattle.peer_codes.specs.declared.step.Step.{Step}
use Rattle.peer_codes.specs.Versions.{same_version}
use Rattle.peer_codes.specs.Reading.{hello_of, beat_of, is_frame}
use Rattle.peer_codes.specs.Faults.{kind_in}
use Rattle.peer_codes.specs.Codes.{proof_tag, way_of, after, covered, uncovered}

-- the fault closes the connection
abbrev pub closed : ConnectionFault → Step
closed fault = record { phase = phases.Closed fault; proof = None; event = Err fault }

-- what a side says to show that it has the key
abbrev pub proof_of : List ℕ → Role → Hellos → Proof
proof_of key role hellos = record { tag = proof_tag key role hellos }

-- both ways, of the side in the first role
abbrev pub ways_of : List ℕ → Role → Role → Hellos → Ways
ways_of key own other hellos = record { reading = way_of key other hellos; writing = way_of key own hellos }

-- both Hellos are said: this side's proof is to be written, and the other's is awaited
abbrev pub proving : List ℕ → Role → Role → Hellos → Phase
proving key own other hellos = phases.Proving (proof_of key other hellos) (ways_of key own other hellos)

abbrev pub is_coded : Link → Bool
is_coded Plain = false
is_coded (Coded nonce) = true

-- a Hello of a connection with codes
abbrev pub only_coded : Option Hello → Option Hello
only_coded None = None
only_coded (Some hello) = if is_coded hello.link then Some hello else None

-- who dialled takes no Hello of another version than its own
abbrev pub of_version : Option Hello → Option Hello → Option Hello
of_version None theirs = theirs
of_version (Some own) None = None
of_version (Some own) (Some theirs) = if same_version own.version theirs.version then Some theirs else None

-- no such Hello came: the called may still say its own, the caller said it already
abbrev pub no_hello : Option Hello → Step
no_hello None = record { phase = phases.Refused; proof = None; event = Err (faults.Record BadHello) }
no_hello (Some own) = closed (faults.Record BadHello)

-- the other's Hello came, or bytes that are none of this kind and version
abbrev pub greeted : List ℕ → Option Hello → Option Hello → Step
greeted key own None = no_hello own
greeted key None (Some theirs) = record { phase = phases.Asked theirs; proof = None; event = Ok (events.Greeted theirs) }
greeted key (Some own) (Some theirs) =
    let hellos : Hellos = record { caller = own; called = theirs } in
    record { phase = proving key Caller Called hellos; proof = Some (proof_of key Caller hellos); event = Ok (events.Greeted theirs) }

abbrev pub on_greeting : List ℕ → Option Hello → Kind → List ℕ → Step
on_greeting key own kind_of.Hello content = greeted key own (of_version own (only_coded (hello_of content)))
on_greeting key own kind_of.Proof content = closed faults.UnexpectedRecord
on_greeting key own kind_of.Frame content = closed faults.UnexpectedRecord
on_greeting key own kind_of.Beat content = closed faults.UnexpectedRecord
on_greeting key own (kind_of.More byte) content = closed (faults.Record BadKind)

-- the other's proof is right
abbrev pub opened : Ways → Step
opened ways = record { phase = phases.Open ways; proof = None; event = Ok events.Opened }

-- open exactly by the proof that is awaited
abbrev pub on_proof : Proof → Ways → Kind → List ℕ → Step
on_proof theirs ways kind_of.Proof content =
    if not (length content == TAG_BYTES) then closed (faults.Record BadLength)
    else (if bytes_eq content theirs.tag then opened ways
    else closed faults.WrongProof)
on_proof theirs ways kind_of.Hello content = closed faults.UnexpectedRecord
on_proof theirs ways kind_of.Frame content = closed faults.UnexpectedRecord
on_proof theirs ways kind_of.Beat content = closed faults.UnexpectedRecord
on_proof theirs ways (kind_of.More byte) content = closed (faults.Record BadKind)

-- the other's way goes on behind a body of so many bytes
abbrev pub heard : Ways → ℕ → Event → Step
heard ways count event = record { phase = phases.Open (record { reading = after ways.reading count; writing = ways.writing }); proof = None; event = Ok event }

abbrev pub frame_heard : Ways → ℕ → Result (List ℕ) ConnectionFault → Step
frame_heard ways count (Err fault) = closed fault
frame_heard ways count (Ok body) = if is_frame body then heard ways count (events.Frame (record { bytes = record { items = body } })) else closed (faults.Record BadLength)

abbrev pub beat_told : Ways → ℕ → Result Beat RecordFault → Step
beat_told ways count (Err fault) = closed (faults.Record fault)
beat_told ways count (Ok beat) = heard ways count (events.Beat beat)

abbrev pub beat_heard : Ways → ℕ → Result (List ℕ) ConnectionFault → Step
beat_heard ways count (Err fault) = closed fault
beat_heard ways count (Ok body) = beat_told ways count (beat_of body)

abbrev pub more_heard : Ways → ℕ → ℕ → Result (List ℕ) ConnectionFault → Step
more_heard ways count byte (Err fault) = closed fault
more_heard ways count byte (Ok body) = heard ways count (events.More (record { kind = byte; bytes = record { items = body } }))

-- a further kind comes only behind Hellos of the second version
abbrev pub on_more : Version → Ways → ℕ → List ℕ → Step
on_more First ways byte content = closed (faults.Record BadKind)
on_more Second ways byte content = more_heard ways (length content - TAG_BYTES) byte (uncovered ways.reading (kind_of.More byte) content)

abbrev pub on_record : Ways → Kind → List ℕ → Step
on_record ways kind_of.Frame content = frame_heard ways (length content - TAG_BYTES) (uncovered ways.reading kind_of.Frame content)
on_record ways kind_of.Beat content = beat_heard ways (length content - TAG_BYTES) (uncovered ways.reading kind_of.Beat content)
on_record ways kind_of.Hello content = closed faults.UnexpectedRecord
on_record ways kind_of.Proof content = closed faults.UnexpectedRecord
on_record ways (kind_of.More byte) content = on_more ways.reading.version ways byte content

-- a connection stays open where something came, and a fault closes it
abbrev pub staying : Ways → Result Event ConnectionFault → Step
staying ways (Ok event) = record { phase = phases.Open ways; proof = None; event = Ok event }
staying ways (Err fault) = closed fault

-- what a record of this kind does
unfoldable pub stepped : List ℕ → Phase → Kind → List ℕ → Step
stepped key (phases.Greeting own) kind content = on_greeting key own kind content
stepped key (phases.Asked caller) kind content = closed faults.UnexpectedRecord
stepped key phases.Refused kind content = closed (faults.Record BadHello)
stepped key (phases.Proving theirs ways) kind content = on_proof theirs ways kind content
stepped key (phases.Open ways) kind content = on_record ways kind content
stepped key (phases.Closed fault) kind content = closed fault

abbrev pub step_by : List ℕ → Phase → Result Kind RecordFault → List ℕ → Step
step_by key phase (Err fault) content = closed (faults.Record fault)
step_by key phase (Ok kind) content = stepped key phase kind content

-- what stands in front of the bytes that came does
unfoldable pub front_step : List ℕ → Phase → List ℕ → Step
front_step key phase front = step_by key phase (kind_in front) (drop 5 front)

-- the connection is open, and what came is the next record of the other's way, coded, with this body
pub record IsFrameSaid (phase : Phase) (kind : Kind) (content body : List ℕ) : Type 0 where
  pub ways : Ways
  pub phase_is : phase ≡ phases.Open ways
  pub kind_is : kind ≡ kind_of.Frame
  pub text : content ≡ covered ways.reading kind_of.Frame body

-- the same of a beat, which its body reads as
pub record IsBeatSaid (phase : Phase) (kind : Kind) (content : List ℕ) (beat : Beat) : Type 0 where
  pub ways : Ways
  pub body : List ℕ
  pub phase_is : phase ≡ phases.Open ways
  pub kind_is : kind ≡ kind_of.Beat
  pub text : content ≡ covered ways.reading kind_of.Beat body
  pub beat_is : beat_of body ≡ Ok beat

-- the same of a record of a further kind, on a connection of the second version
pub record IsMoreSaid (phase : Phase) (kind : Kind) (content : List ℕ) (more : More) : Type 0 where
  pub ways : Ways
  pub phase_is : phase ≡ phases.Open ways
  pub version : ways.reading.version ≡ Second
  pub kind_is : kind ≡ kind_of.More more.kind
  pub text : content ≡ covered ways.reading (kind_of.More more.kind) more.bytes.items

-- a proof was awaited, and it came
pub record IsOpening (phase : Phase) (kind : Kind) (content : List ℕ) : Type 0 where
  pub theirs : Proof
  pub ways : Ways
  pub phase_is : phase ≡ phases.Proving theirs ways
  pub kind_is : kind ≡ kind_of.Proof
  pub text : content ≡ theirs.tag
