-- What happens to a connection from its beginning on, and what one that is open goes by.
use Rattle.std.specs.Prelude.{◌≡◌, ◌⊎◌, ℕ, ◌-◌, true, if◌then◌else◌, List, [], ◌∷◌, ◌++◌, length, drop, Option, Some, None, Ok}
use Rattle.peer_codes.specs.declared.limits.TheConstants.{TAG_BYTES}
use Rattle.peer_codes.specs.declared.fault.RecordFault.TheVariants.{BadHello}
use Rattle.peer_codes.specs.declared.connection_fault.ConnectionFault.{ConnectionFault}
use Rattle.peer_codes.specs.declared.connection_fault.ConnectionFault.TheVariants as faults
use Rattle.peer_codes.specs.declared.role.Role.{Role}
use Rattle.peer_codes.specs.declared.role.Role.TheVariants.{Caller, Called}
use Rattle.peer_codes.specs.declared.hello.Hello.{Hello}
use Rattle.peer_codes.specs.declared.hellos.Hellos.{Hellos}
use Rattle.peer_codes.specs.declared.kind.Kind.TheVariants as kind_of
use Rattle.peer_codes.specs.declared.way.Way.{Way}
use Rattle.peer_codes.specs.declared.phase.Ways.{Ways}
use Rattle.peer_codes.specs.declared.phase.Phase.{Phase}
use Rattle.peer_codes.specs.declared.phase.Phase.TheVariants as phases
use Rattle.peer_codes.specs.declared.connection.Connection.{Connection}
use Rattle.peer_codes.specs.Versions.{same_version}
use Rattle.peer_codes.specs.Fits.{IsHello}
use Rattle.peer_codes.specs.Reading.{hello_of}
use Rattle.peer_codes.specs.Faults.{front, kind_in}
use Rattle.peer_codes.specs.Codes.{proof_tag, way_of, after}
use Rattle.peer_codes.specs.Steps.{is_coded, proving, only_coded, front_step}

-- one thing that happens to a connection
pub data Happening : Type 0 where
  -- these bytes came as the next record
  Came : (bytes : List ℕ) → Happening
  -- this side answered with its own Hello
  Answered : (hello : Hello) → Happening
  -- this side coded a record whose body has so many bytes
  Said : (count : ℕ) → Happening

-- the called answers where it knows who calls, in the version that it heard, and once where it refused
abbrev pub answered_phase : List ℕ → Hello → Phase → Phase
answered_phase key hello (phases.Asked caller) =
    if same_version caller.version hello.version then proving key Called Caller (record { caller = caller; called = hello })
    else phases.Closed (faults.Record BadHello)
answered_phase key hello phases.Refused = phases.Closed (faults.Record BadHello)
answered_phase key hello (phases.Greeting own) = phases.Greeting own
answered_phase key hello (phases.Proving theirs ways) = phases.Proving theirs ways
answered_phase key hello (phases.Open ways) = phases.Open ways
answered_phase key hello (phases.Closed fault) = phases.Closed fault

-- the own way goes on where the connection is open
abbrev pub said_phase : ℕ → Phase → Phase
said_phase count (phases.Open ways) = phases.Open (record { reading = ways.reading; writing = after ways.writing count })
said_phase count (phases.Greeting own) = phases.Greeting own
said_phase count (phases.Asked caller) = phases.Asked caller
said_phase count (phases.Proving theirs ways) = phases.Proving theirs ways
said_phase count phases.Refused = phases.Refused
said_phase count (phases.Closed fault) = phases.Closed fault

abbrev pub phase_after : List ℕ → Phase → Happening → Phase
phase_after key phase (Came bytes) = (front_step key phase bytes).phase
phase_after key phase (Answered hello) = answered_phase key hello phase
phase_after key phase (Said count) = said_phase count phase

-- how far a connection is, of the side with this own Hello, behind all that happened to it, the newest first
abbrev pub phase_behind : List ℕ → Option Hello → List Happening → Phase
phase_behind key own [] = phases.Greeting own
phase_behind key own (happening ∷ before) = phase_after key (phase_behind key own before) happening

-- what stands in front of what came is taken, and happened to the connection
pub record FrontCame (old new : Connection) : Type 0 where
  pub key : new.key ≡ old.key
  pub phase : new.phase ≡ phase_after old.key.bytes old.phase (Came (front old.came.waiting))
  pub came : old.came.waiting ≡ front old.came.waiting ++ new.came.waiting

-- closed by some fault
abbrev pub IsClosed : Phase → Type 0
IsClosed phase = (fault : ConnectionFault) × (phase ≡ phases.Closed fault)

-- one of these is such
abbrev pub Happened : (Happening → Type 0) → List Happening → Type 0
Happened P [] = ⊥
Happened P (happening ∷ before) = P happening ⊎ Happened P before

-- a record came that is this Hello
abbrev pub HelloCame : Hello → Happening → Type 0
HelloCame hello (Came bytes) = (kind_in bytes ≡ Ok kind_of.Hello) × (only_coded (hello_of (drop 5 bytes)) ≡ Some hello)
HelloCame hello (Answered own) = ⊥
HelloCame hello (Said count) = ⊥

-- a record came that is a proof with this tag
abbrev pub ProofCame : List ℕ → Happening → Type 0
ProofCame tag (Came bytes) = (kind_in bytes ≡ Ok kind_of.Proof) × (drop 5 bytes ≡ tag)
ProofCame tag (Answered own) = ⊥
ProofCame tag (Said count) = ⊥

-- it said this Hello as its own
abbrev pub HelloSaid : Hello → Happening → Type 0
HelloSaid hello (Came bytes) = ⊥
HelloSaid hello (Answered own) = own ≡ hello
HelloSaid hello (Said count) = ⊥

-- both Hellos were said, this side's in its role
abbrev pub Met : Option Hello → Role → Hellos → List Happening → Type 0
Met own Caller hellos before = (own ≡ Some hellos.caller) × Happened (HelloCame hellos.called) before
Met own Called hellos before = (own ≡ None) × Happened (HelloCame hellos.caller) before × Happened (HelloSaid hellos.called) before

-- the other of the two sides
abbrev pub across : Role → Role
across Caller = Called
across Called = Caller

-- a way behind records whose bodies have so many bytes, the newest first
abbrev pub behind_all : Way → List ℕ → Way
behind_all way [] = way
behind_all way (count ∷ before) = after (behind_all way before) count

-- the Hello has a nonce
abbrev pub IsCoded : Hello → Type 0
IsCoded hello = is_coded hello.link ≡ true

-- both Hellos are such as come, and have nonces
pub record AreCoded (hellos : Hellos) : Type 0 where
  pub caller : IsHello hellos.caller
  pub called : IsHello hellos.called
  pub caller_coded : IsCoded hellos.caller
  pub called_coded : IsCoded hellos.called

-- each own Hello that the called answered with has a nonce
abbrev pub AnswersCoded : List Happening → Type 0
AnswersCoded [] = Unit {0}
AnswersCoded (Came bytes ∷ before) = AnswersCoded before
AnswersCoded (Answered hello ∷ before) = IsCoded hello × AnswersCoded before
AnswersCoded (Said count ∷ before) = AnswersCoded before

-- how many bytes the body of a coded record has
abbrev pub body_length : List ℕ → ℕ
body_length bytes = length (drop 5 bytes) - TAG_BYTES

-- how many bytes the bodies of the records had that came, the newest first
abbrev pub counts_read : List Happening → List ℕ
counts_read [] = []
counts_read (Came bytes ∷ before) = body_length bytes ∷ counts_read before
counts_read (Answered hello ∷ before) = counts_read before
counts_read (Said count ∷ before) = counts_read before

-- and of those that this side coded
abbrev pub counts_said : List Happening → List ℕ
counts_said [] = []
counts_said (Came bytes ∷ before) = counts_said before
counts_said (Answered hello ∷ before) = counts_said before
counts_said (Said count ∷ before) = count ∷ counts_said before

-- both Hellos are of one version, and both ways are of it
pub record IsOfOneVersion (hellos : Hellos) (ways : Ways) : Type 0 where
  pub called : hellos.called.version ≡ hellos.caller.version
  pub reading : ways.reading.version ≡ hellos.caller.version
  pub writing : ways.writing.version ≡ hellos.caller.version

-- what an open connection goes by: both Hellos, each with a nonce; then the proof of the other side over them, which
-- came; and the two ways that they give with the key, each behind all the records that came and were said on it since
pub record IsProved (key : List ℕ) (own : Option Hello) (before : List Happening) (ways : Ways) : Type 0 where
  pub role : Role
  pub hellos : Hellos
  pub nonces : IsCoded hellos.caller × IsCoded hellos.called
  pub version : IsOfOneVersion hellos ways
  pub since : List Happening
  pub opening : Happening
  pub earlier : List Happening
  pub parts : before ≡ since ++ opening ∷ earlier
  pub met : Met own role hellos earlier
  pub proved : ProofCame (proof_tag key (across role) hellos) opening
  pub reading : ways.reading ≡ behind_all (way_of key (across role) hellos) (counts_read since)
  pub writing : ways.writing ≡ behind_all (way_of key role hellos) (counts_said since)
