-- What a connection goes by: how far it is, by all that came over it and was written to it.
use Rattle.std.specs.Prelude.{◌≡◌, ◌⊎◌, ℕ, true, List, [], ◌++◌, take, Option, Some, None, Result, Ok, Err}
use Rattle.peer_codes.specs.declared.hello.Hello.{Hello}
use Rattle.peer_codes.specs.declared.hello.Link.{Link}
use Rattle.peer_codes.specs.declared.key.Key.{Key}
use Rattle.peer_codes.specs.declared.kind.Kind.TheVariants as kind_of
use Rattle.peer_codes.specs.declared.records.Record.{Record}
use Rattle.peer_codes.specs.declared.records.Record.TheVariants as record_of
use Rattle.peer_codes.specs.declared.role.Role.{Role}
use Rattle.peer_codes.specs.declared.phase.Ways.{Ways}
use Rattle.peer_codes.specs.declared.phase.Phase.{Phase as ChannelPhase}
use Rattle.peer_codes.specs.declared.phase.Phase.TheVariants as channel_phases
use Rattle.peer_codes.specs.declared.outgoing.Outgoing.{Outgoing}
use Rattle.peer_codes.specs.declared.connection.Connection.{Connection as Channel}
use Rattle.peer_codes.specs.Fits.{IsRecord}
use Rattle.peer_codes.specs.Histories.{across, IsCoded}
use Rattle.peer_codes.specs.Outgoings.{unwritten}
use Rattle.peer_codes.specs.Spelling.{record_text}
use Rattle.peer_codes.specs.Steps.{is_coded, proving}
use Rattle.node_links.specs.declared.own.Own.{Own}
use Rattle.node_links.specs.declared.peer_fault.PeerFault.{PeerFault}
use Rattle.node_links.specs.declared.heard.Heard.{Heard}
use Rattle.node_links.specs.declared.phase.Phase.{Phase}
use Rattle.node_links.specs.declared.phase.Phase.TheVariants as phases
use Rattle.node_links.specs.declared.stage.Stage.{Stage}
use Rattle.node_links.specs.declared.stage.Stage.TheVariants as stages
use Rattle.node_links.specs.declared.connection.Connection.{Connection}
use Rattle.node_links.specs.declared.connection.Connection.TheVariants.{Plain, Coded}
use Rattle.node_links.specs.Coding.{peer_at, fault_at}
use Rattle.node_links.specs.Connections.{peer_in, fault_in}
use Rattle.node_links.specs.Hearing.{AreSaid, texts}
use Rattle.node_links.specs.Judging.{judged_match}
use Rattle.node_links.specs.Outgoings as plain
use Rattle.node_links.specs.Talks.{Talk, Takes, TakesCoded, Piece, way_behind, AreCodedOn, bytes_of, role_of, hellos_of, their_way, their_proof, IsHelloIn, IsOfKind, IsWritten, SaysHeard, Opens}

-- ---- without codes

-- all that came: this Hello, and then so much that isn't read yet
pub record PlainGreeted (came waiting : List ℕ) (hello : Hello) : Type 0 where
  pub is : IsRecord (record_of.Hello hello)
  pub text : came ≡ record_text (record_of.Hello hello) ++ waiting

-- all that came: this Hello, which was taken, then these frames, beats and records of further kinds, and then so much that isn't read yet
pub record PlainSpoke (own : Own) (dialled : Option ℕ) (came waiting : List ℕ) (hello : Hello) : Type 0 where
  pub is : IsRecord (record_of.Hello hello)
  pub takes : Takes own dialled hello
  pub said : List Record
  pub are : AreSaid hello said
  pub text : came ≡ record_text (record_of.Hello hello) ++ (texts said ++ waiting)

abbrev pub PlainAt : Own → Option ℕ → List ℕ → List ℕ → Phase → Type 0
PlainAt own dialled came waiting (phases.Greeting mine) = came ≡ waiting
PlainAt own dialled came waiting (phases.Asked hello) = PlainGreeted came waiting hello
PlainAt own dialled came waiting (phases.Open hello) = PlainSpoke own dialled came waiting hello
PlainAt own dialled came waiting (phases.Closed fault) = Unit {0}

-- ---- with codes

-- nothing was said, or this side's own Hello first: it waits, or it was begun
abbrev pub Begins : Option Hello → List ℕ → Outgoing → Type 0
Begins None wrote out = (wrote ++ unwritten out ≡ []) × (out.hello ≡ None) × (out.proof ≡ None)
Begins (Some mine) wrote out =
    IsCoded mine × (((wrote ++ unwritten out ≡ []) × (out.hello ≡ Some mine)) ⊎ ((out.hello ≡ None) × ((more : List ℕ) × (wrote ++ unwritten out ≡ record_text (record_of.Hello mine) ++ more))))

-- the other's Hello came, and so much behind it isn't read yet
pub record Greeted (came waiting : List ℕ) (theirs : Hello) : Type 0 where
  pub hello : List ℕ
  pub is : IsHelloIn theirs hello
  pub text : came ≡ hello ++ waiting

-- who dialled has its own Hello from the beginning, and who was dialled has none yet
abbrev pub HasHello : Option ℕ → Option Hello → Type 0
HasHello None mine = mine ≡ None
HasHello (Some number) None = ⊥
HasHello (Some number) (Some mine) = Unit {0}

-- it waits for the answer of who was dialled, or for the other's proof over both, which are of one version
abbrev pub Awaits : Key → Option ℕ → Option Hello → Hello → ChannelPhase → Type 0
Awaits key dialled None theirs phase = (dialled ≡ None) × (phase ≡ channel_phases.Asked theirs)
Awaits key dialled (Some mine) theirs phase = (mine.version ≡ theirs.version) × (phase ≡ proving key.bytes (role_of dialled) (across (role_of dialled)) (hellos_of (role_of dialled) mine theirs))

abbrev pub Matches : Own → Option ℕ → Hello → Type 0
Matches own dialled theirs = judged_match own dialled theirs ≡ Ok tt

-- the own Hello was written; the other's came, of the same version, then its proof over both, then records coded on its way, and so much that
-- isn't read yet
pub record Proved (key : Key) (role : Role) (mine theirs : Hello) (wrote came waiting : List ℕ) (phase : ChannelPhase) : Type 0 where
  pub first : IsWritten mine wrote
  pub version : mine.version ≡ theirs.version
  pub ways : Ways
  pub open_is : phase ≡ channel_phases.Open ways
  pub hello : List ℕ
  pub hello_is : IsHelloIn theirs hello
  pub proof : List ℕ
  pub proof_is : IsOfKind kind_of.Proof (their_proof key role mine theirs) proof
  pub said : List Piece
  pub are : AreCodedOn (their_way key role mine theirs) said
  pub reading : ways.reading ≡ way_behind (their_way key role mine theirs) said
  pub text : came ≡ hello ++ (proof ++ (bytes_of said ++ waiting))

abbrev pub ProvedBy : Key → Option Hello → Hello → Talk → List ℕ → ChannelPhase → Type 0
ProvedBy key None theirs talk waiting phase = ⊥
ProvedBy key (Some mine) theirs talk waiting phase = Proved key (role_of talk.dialled) mine theirs talk.wrote talk.came waiting phase

abbrev pub CodedAt : Own → Talk → Key → List ℕ → ChannelPhase → Option Hello → Stage → Type 0
CodedAt own talk key waiting phase mine stages.Greeting = (talk.came ≡ waiting) × (phase ≡ channel_phases.Greeting mine) × HasHello talk.dialled mine
CodedAt own talk key waiting phase mine (stages.Asked theirs) = Greeted talk.came waiting theirs × Awaits key talk.dialled mine theirs phase
CodedAt own talk key waiting phase mine (stages.Matched theirs) = Matches own talk.dialled theirs × Greeted talk.came waiting theirs × Awaits key talk.dialled mine theirs phase
CodedAt own talk key waiting phase mine (stages.Proved theirs) = Matches own talk.dialled theirs × ProvedBy key mine theirs talk waiting phase
CodedAt own talk key waiting phase mine (stages.Open theirs) = TakesCoded own talk.dialled theirs × ProvedBy key mine theirs talk waiting phase
CodedAt own talk key waiting phase mine (stages.Closed fault) = Unit {0}

-- the key is this node's, what was written begins with its own Hello, and what came is so far
pub record CodedOn (own : Own) (talk : Talk) (c : Channel) (stage : Stage) : Type 0 where
  pub key : own.key ≡ Some c.key
  pub mine : Option Hello
  pub begins : Begins mine talk.wrote c.out
  pub at : CodedAt own talk c.key c.came.waiting c.phase mine stage

-- of one that is closed nothing is told
abbrev pub CodedGoes : Own → Talk → Channel → Stage → Type 0
CodedGoes own talk c (stages.Closed fault) = Unit {0}
CodedGoes own talk c stages.Greeting = CodedOn own talk c stages.Greeting
CodedGoes own talk c (stages.Asked theirs) = CodedOn own talk c (stages.Asked theirs)
CodedGoes own talk c (stages.Matched theirs) = CodedOn own talk c (stages.Matched theirs)
CodedGoes own talk c (stages.Proved theirs) = CodedOn own talk c (stages.Proved theirs)
CodedGoes own talk c (stages.Open theirs) = CodedOn own talk c (stages.Open theirs)

-- ---- of both kinds

abbrev pub GoesBy : Own → Talk → Connection → Type 0
GoesBy own talk (Plain c) = (own.key ≡ None) × PlainAt own talk.dialled talk.came c.came.waiting c.phase
GoesBy own talk (Coded c) = CodedGoes own talk c.channel c.stage

-- what a connection of this node goes by, where this came over it and was written to it
abbrev pub Goes : Own → Talk → Connection → Type 0
Goes own talk c = ∥ GoesBy own talk c ∥₁

pub goes_prop : (own : Own) (talk : Talk) (c : Connection) → IsProp (Goes own talk c)
goes_prop own talk c = λ x y. squash₁ x y

-- nothing came over a connection that begins, and nothing was written
abbrev pub silence : Option ℕ → Talk
silence dialled = record { dialled = dialled; came = []; wrote = [] }

-- whatever it went by, it goes by
abbrev pub GoesOn : Connection → Connection → Type 0
GoesOn old new = (own : Own) (talk : Talk) → Goes own talk old → Goes own talk new

-- and this came besides
abbrev pub GoesOnWith : Connection → Connection → List ℕ → Type 0
GoesOnWith old new piece = (own : Own) (talk : Talk) → Goes own talk old → Goes own (record talk { came = talk.came ++ piece }) new

-- what of the record that was begun isn't written yet
abbrev pub unwritten_of : Connection → List ℕ
unwritten_of (Plain c) = plain.unwritten c.out
unwritten_of (Coded c) = unwritten c.channel.out

-- so much of it is written now
abbrev pub GoesOnWritten : Connection → Connection → ℕ → Type 0
GoesOnWritten old new count = (own : Own) (talk : Talk) → Goes own talk old → Goes own (record talk { wrote = talk.wrote ++ take count (unwritten_of old) }) new

-- the node at the other end, once it is open
abbrev pub peer_of : Connection → Option ℕ
peer_of (Plain c) = peer_in c.phase
peer_of (Coded c) = peer_at c.stage

abbrev pub taken_in : Phase → Option Hello
taken_in (phases.Open hello) = Some hello
taken_in (phases.Greeting mine) = None
taken_in (phases.Asked hello) = None
taken_in (phases.Closed fault) = None

abbrev pub taken_at : Stage → Option Hello
taken_at (stages.Open hello) = Some hello
taken_at stages.Greeting = None
taken_at (stages.Asked hello) = None
taken_at (stages.Matched hello) = None
taken_at (stages.Proved hello) = None
taken_at (stages.Closed fault) = None

-- what that node said first
abbrev pub taken_of : Connection → Option Hello
taken_of (Plain c) = taken_in c.phase
taken_of (Coded c) = taken_at c.stage

-- the node with this Hello has opened it
abbrev pub OpensAs : Option Hello → Connection → Type 0
OpensAs None c = Unit {0}
OpensAs (Some hello) c = (own : Own) (talk : Talk) → Goes own talk c → ∥ Opens own hello talk ∥₁

-- the fault that closed it
abbrev pub fault_of : Connection → Option PeerFault
fault_of (Plain c) = fault_in c.phase
fault_of (Coded c) = fault_at c.stage

-- a Hello of the kind of connections that a node with this key has
abbrev pub IsOfKey : Option Key → Link → Type 0
IsOfKey None link = Unit {0}
IsOfKey (Some key) link = is_coded link ≡ true

-- what a connection tells of its peer came as it has to
abbrev pub Tells : Option (Result Heard PeerFault) → Connection → Connection → Type 0
Tells None old new = Unit {0}
Tells (Some (Err fault)) old new = Unit {0}
Tells (Some (Ok heard)) old new = (own : Own) (talk : Talk) (from : ℕ) → Goes own talk old → peer_of new ≡ Some from → ∥ SaysHeard own from heard talk ∥₁
