-- What a connection wrote, with what it has begun: this side's own Hello, with codes its proof, and records that were handed over.
use Rattle.std.specs.Prelude.{◌≡◌, ◌⊎◌, ℕ, List, [], ◌∷◌, ◌++◌, length, take, Option, Some, None, IfSome}
use Rattle.peer_codes.specs.declared.version.Version.{Version}
use Rattle.peer_codes.specs.declared.frame.Frame.{Frame}
use Rattle.peer_codes.specs.declared.hello.Hello.{Hello}
use Rattle.peer_codes.specs.declared.key.Key.{Key}
use Rattle.peer_codes.specs.declared.records.Proof.{Proof}
use Rattle.peer_codes.specs.declared.records.Record.{Record}
use Rattle.peer_codes.specs.declared.records.Record.TheVariants as record_of
use Rattle.peer_codes.specs.declared.role.Role.{Role}
use Rattle.peer_codes.specs.declared.way.Way.{Way}
use Rattle.peer_codes.specs.declared.phase.Phase.{Phase as ChannelPhase}
use Rattle.peer_codes.specs.declared.phase.Phase.TheVariants as channel_phases
use Rattle.peer_codes.specs.declared.connection.Connection.{Connection as Channel}
use Rattle.peer_codes.specs.Codes.{way_of, after, coded}
use Rattle.peer_codes.specs.Fits.{IsRecord}
use Rattle.peer_codes.specs.Outgoings.{unwritten}
use Rattle.peer_codes.specs.Spelling.{kind, body, record_text}
use Rattle.peer_codes.specs.Steps.{proof_of}
use Rattle.node_links.specs.declared.own.Own.{Own}
use Rattle.node_links.specs.declared.phase.Phase.{Phase}
use Rattle.node_links.specs.declared.phase.Phase.TheVariants as phases
use Rattle.node_links.specs.declared.stage.Stage.{Stage}
use Rattle.node_links.specs.declared.stage.Stage.TheVariants as stages
use Rattle.node_links.specs.declared.plain_connection.PlainConnection.{PlainConnection}
use Rattle.node_links.specs.declared.connection.Connection.{Connection}
use Rattle.node_links.specs.declared.connection.Connection.TheVariants.{Plain, Coded}
use Rattle.node_links.specs.Going.{HasHello, unwritten_of}
use Rattle.node_links.specs.Hearing.{texts}
use Rattle.node_links.specs.Outgoings as plain
use Rattle.node_links.specs.Talks.{Talk, role_of, hellos_of, IsHelloIn}
use Rattle.node_links.specs.Versions.{in_version}

-- ---- what was handed over

pub data Given : Type 0 where
  -- a Hello, as this side's own
  OwnHello : (hello : Hello) → Given
  -- a frame of these bytes, for this node
  FrameFor : (to : ℕ) (bytes : List ℕ) → Given

-- this is one of these
abbrev pub IsOneOf : Given → List Given → Type 0
IsOneOf one [] = ⊥
IsOneOf one (other ∷ more) = (other ≡ one) ⊎ IsOneOf one more

-- one that was handed over, in some version
pub record IsOwn (given : List Given) (mine : Hello) : Type 0 where
  pub hello : Hello
  pub version : Version
  pub among : IsOneOf (OwnHello hello) given
  pub mine_is : mine ≡ in_version version hello

-- frames for a node, besides; for one that isn't known yet none
abbrev pub frames_for : Option ℕ → List Frame → List Given → List Given
frames_for None frames given = given
frames_for (Some to) [] given = given
frames_for (Some to) (frame ∷ more) given = FrameFor to frame.bytes.items ∷ frames_for (Some to) more given

-- ---- what is said

-- a frame was handed over for the node whose Hello came; before a Hello came nothing is said but the own ones
abbrev pub IsSaidTo : List Given → Option Hello → Record → Type 0
IsSaidTo given (Some theirs) (record_of.Frame frame) = IsOneOf (FrameFor theirs.ends.from frame.bytes.items) given
IsSaidTo given (Some theirs) (record_of.Beat beat) = Unit {0}
IsSaidTo given (Some theirs) (record_of.More more) = Unit {0}
IsSaidTo given (Some theirs) (record_of.Hello hello) = ⊥
IsSaidTo given (Some theirs) (record_of.Proof proof) = ⊥
IsSaidTo given None said = ⊥

abbrev pub AreSaidTo : List Given → Option Hello → List Record → Type 0
AreSaidTo given theirs [] = Unit {0}
AreSaidTo given theirs (said ∷ more) = IsSaidTo given theirs said × AreSaidTo given theirs more

-- ---- without codes

-- an own Hello is a record as the others
abbrev pub IsPlainTo : List Given → Option Hello → Record → Type 0
IsPlainTo given theirs (record_of.Hello hello) = IsOwn given hello
IsPlainTo given theirs (record_of.Frame frame) = IsSaidTo given theirs (record_of.Frame frame)
IsPlainTo given theirs (record_of.Beat beat) = IsSaidTo given theirs (record_of.Beat beat)
IsPlainTo given theirs (record_of.More more) = IsSaidTo given theirs (record_of.More more)
IsPlainTo given theirs (record_of.Proof proof) = ⊥

abbrev pub ArePlainTo : List Given → Option Hello → List Record → Type 0
ArePlainTo given theirs [] = Unit {0}
ArePlainTo given theirs (said ∷ more) = IsPlainTo given theirs said × ArePlainTo given theirs more

-- this Hello stands in front of what came
pub record CameFirst (theirs : Hello) (came : List ℕ) : Type 0 where
  pub is : IsRecord (record_of.Hello theirs)
  pub rest : List ℕ
  pub text : came ≡ record_text (record_of.Hello theirs) ++ rest

abbrev pub IsHello : Record → Type 0
IsHello (record_of.Hello hello) = Unit {0}
IsHello (record_of.Proof proof) = ⊥
IsHello (record_of.Frame frame) = ⊥
IsHello (record_of.Beat beat) = ⊥
IsHello (record_of.More more) = ⊥

-- who dialled says its own Hello first: it waits, or it was begun
abbrev pub GreetsFirst : Option ℕ → Option Hello → List Record → Type 0
GreetsFirst None waits said = Unit {0}
GreetsFirst (Some number) waits (first ∷ more) = IsHello first
GreetsFirst (Some number) (Some mine) [] = Unit {0}
GreetsFirst (Some number) None [] = ⊥

-- nothing is read before the other's Hello, which is the one by which the connection is open
abbrev pub PlainKnows : Option Hello → List ℕ → List ℕ → Phase → Type 0
PlainKnows theirs came waiting (phases.Greeting mine) = (theirs ≡ None) × (came ≡ waiting)
PlainKnows theirs came waiting (phases.Asked hello) = theirs ≡ Some hello
PlainKnows theirs came waiting (phases.Open hello) = theirs ≡ Some hello
PlainKnows theirs came waiting (phases.Closed fault) = Unit {0}

-- what was written, with what was begun, is the text of these records, each an own Hello or said to the node whose Hello came
pub record PlainSpoke (given : List Given) (own : Own) (talk : Talk) (c : PlainConnection) : Type 0 where
  pub key : own.key ≡ None
  pub waits : IfSome c.out.hello (IsOwn given)
  pub theirs : Option Hello
  pub came : IfSome theirs (λ hello. CameFirst hello talk.came)
  pub said : List Record
  pub are : ArePlainTo given theirs said
  pub first : GreetsFirst talk.dialled c.out.hello said
  pub text : talk.wrote ++ plain.unwritten c.out ≡ texts said
  pub knows : PlainKnows theirs talk.came c.came.waiting c.phase

-- ---- with codes

-- the way on which this side speaks
abbrev pub our_way : Key → Role → Hello → Hello → Way
our_way key role mine theirs = way_of key.bytes role (hellos_of role mine theirs)

-- what this side says to prove itself
abbrev pub our_proof : Key → Role → Hello → Hello → Proof
our_proof key role mine theirs = proof_of key.bytes role (hellos_of role mine theirs)

-- a way behind such records, the newest first
abbrev pub way_on : Way → List Record → Way
way_on way [] = way
way_on way (said ∷ earlier) = after (way_on way earlier) (length (body said))

-- their texts, each coded as the next of the way
abbrev pub coded_on : Way → List Record → List ℕ
coded_on way [] = []
coded_on way (said ∷ earlier) = coded_on way earlier ++ coded (way_on way earlier) (kind said) (body said)

-- this Hello, which has a nonce, stands in front of what came
pub record CameCoded (theirs : Hello) (came : List ℕ) : Type 0 where
  pub hello : List ℕ
  pub is : IsHelloIn theirs hello
  pub rest : List ℕ
  pub text : came ≡ hello ++ rest

-- both Hellos are known: all waits to be said; or the own Hello was begun; or the proof behind it, and then records on this side's way
abbrev pub IsProvedBy : Hello → Proof → Way → List Record → Option Hello → Option Proof → List ℕ → Type 0
IsProvedBy mine proof way said (Some hello) (Some waits) text = (hello ≡ mine) × (waits ≡ proof) × (said ≡ []) × (text ≡ [])
IsProvedBy mine proof way said None (Some waits) text = (waits ≡ proof) × (said ≡ []) × (text ≡ record_text (record_of.Hello mine))
IsProvedBy mine proof way said None None text = text ≡ record_text (record_of.Hello mine) ++ (record_text (record_of.Proof proof) ++ coded_on way said)
IsProvedBy mine proof way said (Some hello) None text = ⊥

-- without both nothing is said but the own Hello: none is known, or it waits, or it was begun
abbrev pub IsSoFar : Key → Role → Option Hello → Option Hello → List Record → Option Hello → Option Proof → List ℕ → Type 0
IsSoFar key role None theirs said hello proof text = (hello ≡ None) × (proof ≡ None) × (said ≡ []) × (text ≡ [])
IsSoFar key role (Some mine) None said hello proof text =
    (proof ≡ None) × (said ≡ []) × (((hello ≡ Some mine) × (text ≡ [])) ⊎ ((hello ≡ None) × (text ≡ record_text (record_of.Hello mine))))
IsSoFar key role (Some mine) (Some theirs) said hello proof text = IsProvedBy mine (our_proof key role mine theirs) (our_way key role mine theirs) said hello proof text

-- this side's way is that of both Hellos, behind all that it said
pub record IsOurWay (key : Key) (role : Role) (mine theirs : Option Hello) (said : List Record) (way : Way) : Type 0 where
  pub own : Hello
  pub own_is : mine ≡ Some own
  pub other : Hello
  pub other_is : theirs ≡ Some other
  pub way_is : way ≡ way_on (our_way key role own other) said

-- which Hellos are known, and the way on which the next record is coded
abbrev pub KnowsHellos : Key → Option ℕ → Option Hello → Option Hello → List Record → List ℕ → List ℕ → ChannelPhase → Type 0
KnowsHellos key dialled mine theirs said came waiting (channel_phases.Greeting own) = (mine ≡ own) × (theirs ≡ None) × HasHello dialled own × (came ≡ waiting)
KnowsHellos key dialled mine theirs said came waiting (channel_phases.Asked caller) = (mine ≡ None) × (theirs ≡ Some caller) × (dialled ≡ None)
KnowsHellos key dialled mine theirs said came waiting channel_phases.Refused = (mine ≡ None) × (theirs ≡ None) × (dialled ≡ None)
KnowsHellos key dialled mine theirs said came waiting (channel_phases.Proving proof ways) = IsOurWay key (role_of dialled) mine theirs said ways.writing
KnowsHellos key dialled mine theirs said came waiting (channel_phases.Open ways) = IsOurWay key (role_of dialled) mine theirs said ways.writing
KnowsHellos key dialled mine theirs said came waiting (channel_phases.Closed fault) = Unit {0}

abbrev pub IsKnown : Option Hello → Type 0
IsKnown mine = (hello : Hello) × (mine ≡ Some hello)

-- the Hello that is judged, or by which the connection is open, is the one that came; behind its proof the own one is known too
abbrev pub IsOfStage : Option Hello → Option Hello → Stage → Type 0
IsOfStage mine theirs stages.Greeting = Unit {0}
IsOfStage mine theirs (stages.Asked hello) = theirs ≡ Some hello
IsOfStage mine theirs (stages.Matched hello) = theirs ≡ Some hello
IsOfStage mine theirs (stages.Proved hello) = IsKnown mine × (theirs ≡ Some hello)
IsOfStage mine theirs (stages.Open hello) = IsKnown mine × (theirs ≡ Some hello)
IsOfStage mine theirs (stages.Closed fault) = Unit {0}

-- to whom records are said, once both Hellos are known
abbrev pub said_to : Option Hello → Option Hello → Option Hello
said_to None theirs = None
said_to (Some mine) theirs = theirs

-- what was written, with what was begun, is this side's own Hello, its proof under the key over both, and then these records, each coded as
-- the next of its way and said to the node whose Hello came; a frame that waits in the channel is handed over too
pub record CodedSpoke (given : List Given) (own : Own) (talk : Talk) (c : Channel) (stage : Stage) : Type 0 where
  pub key : own.key ≡ Some c.key
  pub mine : Option Hello
  pub own_is : IfSome mine (IsOwn given)
  pub theirs : Option Hello
  pub came : IfSome theirs (λ hello. CameCoded hello talk.came)
  pub said : List Record
  pub are : AreSaidTo given (said_to mine theirs) said
  pub waits : IfSome c.out.frame (λ frame. IsSaidTo given (said_to mine theirs) (record_of.Frame frame))
  pub text : IsSoFar c.key (role_of talk.dialled) mine theirs said c.out.hello c.out.proof (talk.wrote ++ unwritten c.out)
  pub knows : KnowsHellos c.key talk.dialled mine theirs said talk.came c.came.waiting c.phase
  pub stage_is : IsOfStage mine theirs stage

-- ---- of both kinds

abbrev pub SpokeBy : List Given → Own → Talk → Connection → Type 0
SpokeBy given own talk (Plain c) = PlainSpoke given own talk c
SpokeBy given own talk (Coded c) = CodedSpoke given own talk c.channel c.stage

-- what a connection of this node wrote is its own, of what was handed over; of all that came over it only the Hello counts
abbrev pub Spoke : List Given → Own → Talk → Connection → Type 0
Spoke given own talk c = ∥ SpokeBy given own talk c ∥₁

pub spoke_prop : (given : List Given) (own : Own) (talk : Talk) (c : Connection) → IsProp (Spoke given own talk c)
spoke_prop given own talk c = λ x y. squash₁ x y

-- it stays so
abbrev pub SpeaksOn : Connection → Connection → Type 0
SpeaksOn old new = (given : List Given) (own : Own) (talk : Talk) → Spoke given own talk old → Spoke given own talk new

-- this came besides
abbrev pub SpeaksOnWith : Connection → Connection → List ℕ → Type 0
SpeaksOnWith old new piece = (given : List Given) (own : Own) (talk : Talk) → Spoke given own talk old → Spoke given own (record talk { came = talk.came ++ piece }) new

-- so much of what was begun is written now
abbrev pub SpeaksOnWritten : Connection → Connection → ℕ → Type 0
SpeaksOnWritten old new count = (given : List Given) (own : Own) (talk : Talk) → Spoke given own talk old → Spoke given own (record talk { wrote = talk.wrote ++ take count (unwritten_of old) }) new

-- this Hello is handed over besides
abbrev pub SpeaksAs : Connection → Connection → Hello → Type 0
SpeaksAs old new mine = (given : List Given) (own : Own) (talk : Talk) → Spoke given own talk old → Spoke (OwnHello mine ∷ given) own talk new

-- and so are these frames, for the node at the other end
abbrev pub SpeaksOf : Connection → Connection → Option ℕ → List Frame → Type 0
SpeaksOf old new to frames = (given : List Given) (own : Own) (talk : Talk) → Spoke given own talk old → Spoke (frames_for to frames given) own talk new
