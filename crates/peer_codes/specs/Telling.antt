-- What a connection goes by when it tells an event: what stands in front of what came.
use Rattle.std.specs.Prelude.{◌≡◌, ℕ, List, length, drop, Option, Some, None, IfSome, Ok}
use Rattle.peer_codes.specs.declared.role.Role.TheVariants.{Caller}
use Rattle.peer_codes.specs.declared.version.Version.TheVariants.{Second}
use Rattle.peer_codes.specs.declared.hello.Hello.{Hello}
use Rattle.peer_codes.specs.declared.records.Proof.{Proof}
use Rattle.peer_codes.specs.declared.kind.Kind.{Kind}
use Rattle.peer_codes.specs.declared.kind.Kind.TheVariants as kind_of
use Rattle.peer_codes.specs.declared.event.Event.{Event}
use Rattle.peer_codes.specs.declared.event.Event.TheVariants as events
use Rattle.peer_codes.specs.declared.phase.Ways.{Ways}
use Rattle.peer_codes.specs.declared.phase.Phase.{Phase}
use Rattle.peer_codes.specs.declared.phase.Phase.TheVariants as phases
use Rattle.peer_codes.specs.declared.connection.Connection.{Connection}
use Rattle.peer_codes.specs.Reading.{hello_of, beat_of}
use Rattle.peer_codes.specs.Faults.{front, kind_in}
use Rattle.peer_codes.specs.Codes.{after, covered}
use Rattle.peer_codes.specs.Steps.{proof_of, only_coded}

-- in front stands a record of this kind with these bytes behind it
pub record InFront (kind : Kind) (content : List ℕ) (c : Connection) : Type 0 where
  pub kind_is : kind_in (front c.came.waiting) ≡ Ok kind
  pub content_is : drop 5 (front c.came.waiting) ≡ content

-- the caller's own proof, from its own Hello and the other's, is to be said; the called has none before it answered
abbrev pub own_proof : List ℕ → Option Hello → Hello → Option Proof → Option Proof
own_proof key None theirs earlier = earlier
own_proof key (Some own) theirs earlier = Some (proof_of key Caller (record { caller = own; called = theirs }))

-- no Hello came yet, and one of a connection with codes stands in front, of the version in which the caller called
pub record IsGreeting (hello : Hello) (old new : Connection) : Type 0 where
  pub own : Option Hello
  pub content : List ℕ
  pub greeting : old.phase ≡ phases.Greeting own
  pub came : InFront kind_of.Hello content old
  pub hello_is : only_coded (hello_of content) ≡ Some hello
  pub version : IfSome own (λ mine. mine.version ≡ hello.version)
  pub out : new.out ≡ record old.out { proof = own_proof old.key.bytes own hello old.out.proof }

-- the proof that is awaited stands in front, and opens the connection
pub record IsOpened (old new : Connection) : Type 0 where
  pub theirs : Proof
  pub ways : Ways
  pub awaited : old.phase ≡ phases.Proving theirs ways
  pub came : InFront kind_of.Proof theirs.tag old
  pub opens : new.phase ≡ phases.Open ways

-- the connection is open, in front stands the next record of the other's way, coded, with this body, and that way goes on
-- behind it
pub record IsHeard (kind : Kind) (body : List ℕ) (old new : Connection) : Type 0 where
  pub ways : Ways
  pub open_was : old.phase ≡ phases.Open ways
  pub came : InFront kind (covered ways.reading kind body) old
  pub goes_on : new.phase ≡ phases.Open (record { reading = after ways.reading (length body); writing = ways.writing })

-- the same of a record of a further kind, on a connection of the second version
pub record IsMoreHeard (kind : ℕ) (body : List ℕ) (old new : Connection) : Type 0 where
  pub heard : IsHeard (kind_of.More kind) body old new
  pub second : heard.ways.reading.version ≡ Second

-- what each event goes by
abbrev pub ToldBy : Event → Connection → Connection → Type 0
ToldBy (events.Greeted hello) old new = IsGreeting hello old new
ToldBy events.Opened old new = IsOpened old new
ToldBy (events.Frame frame) old new = IsHeard kind_of.Frame frame.bytes.items old new
ToldBy (events.More more) old new = IsMoreHeard more.kind more.bytes.items old new
ToldBy (events.Beat beat) old new = (body : List ℕ) × (beat_of body ≡ Ok beat) × IsHeard kind_of.Beat body old new

-- the called has to answer before it reads on
abbrev pub IsAsked : Phase → Type 0
IsAsked phase = (caller : Hello) × (phase ≡ phases.Asked caller)

-- the proof that was awaited came, and no fault closed it since
abbrev pub IsOpen : Phase → Type 0
IsOpen phase = (ways : Ways) × (phase ≡ phases.Open ways)
