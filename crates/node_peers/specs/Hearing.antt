-- What came over the lines of peers and was written to them, and which frames are told of it.
use Rattle.std.specs.Prelude.{◌≡◌, ◌⊎◌, ℕ, Bool, true, false, List, [], ◌∷◌, ◌++◌, get_or, Option, Some, None, IfSome, Result, Ok, Err}
use Rattle.std.specs.Coded.{×_prop, Π_prop, Unit-prop}
use Rattle.node_links.specs.declared.connection.Connection.{Connection}
use Rattle.node_links.specs.declared.heard.Heard.{Heard}
use Rattle.node_links.specs.declared.heard.Heard.TheVariants as heards
use Rattle.node_links.specs.declared.peer_fault.PeerFault.{PeerFault}
use Rattle.node_links.specs.declared.own.Own.{Own}
use Rattle.node_links.specs.Speaking.{SpeaksOnWith}
use Rattle.node_links.specs.Talks.{Talk, Says, Opens}
use Rattle.node_links.specs.Going.{Goes, goes_prop, GoesOnWith, silence, peer_of}
use Rattle.node_wires.specs.declared.line.Line.{Line}
use Rattle.node_wires.specs.Passages.{Passage, came_over, wrote_over}
use Rattle.peer_codes.specs.declared.frame.Frame.{Frame}
use Rattle.peer_codes.specs.declared.hello.Hello.{Hello}
use Rattle.peer_codes.specs.declared.hello.Life.{Life}
use Rattle.node_peers.specs.declared.link.Link.{Link}
use Rattle.node_peers.specs.declared.notice.Notice.{Notice}
use Rattle.node_peers.specs.declared.notice.Notice.TheVariants as notices
use Rattle.node_peers.specs.Greeting.{IsOurs}
use Rattle.node_peers.specs.Handing.{AreFor, peer_in, peer_at}
use Rattle.node_peers.specs.Lines.{line_at, dialled_over}
use Rattle.node_peers.specs.Speaking.{Speaks, IsUnspoken, speaks_prop}

-- the connection that a line has: who was dialled over it, all that came over it and was written to it
abbrev pub talk_over : List Passage → Line → Talk
talk_over passed line = record { dialled = dialled_over line; came = came_over passed line; wrote = wrote_over passed line }

-- ---- connections

-- a connection goes by what came over it and was written to it, unless some of it was lost
abbrev pub IsKept : Bool → Own → Talk → Connection → Type 0
IsKept true own talk c = Unit {0}
IsKept false own talk c = Goes own talk c

abbrev pub Hears : Own → Talk → Option Link → Type 0
Hears own talk None = Unit {0}
Hears own talk (Some link) = IsKept link.is_lost own talk link.connection

-- and what it wrote is its own, of what was handed to the peers
abbrev pub IsOf : Own → List Passage → Talk → Option Link → Type 0
IsOf own sent talk link = Hears own talk link × Speaks own sent talk link

-- the connection at each place goes by this
abbrev pub FitsBy : Own → List Passage → (ℕ → Talk) → List (Option Link) → Type 0
FitsBy own sent talks links = (place : ℕ) → IsOf own sent (talks place) (get_or links place None)

-- the connection at each place goes by what passed over its line
abbrev pub Fits : Own → List Passage → List Passage → List (Option Link) → Type 0
Fits own sent passed links = FitsBy own sent (λ place. talk_over passed (line_at place)) links

-- ---- frames and nodes that are told

-- over some line this had passed, once so much had passed over all
pub record Told (own : Own) (passed : List Passage) (from : ℕ) (frame : Frame) : Type 0 where
  pub place : ℕ
  pub before : List Passage
  pub since : List Passage
  pub passed_is : passed ≡ before ++ since
  pub says : Says own from frame (talk_over before (line_at place))

-- over some line the node with this Hello had opened a connection
pub record OpenedBy (own : Own) (passed : List Passage) (hello : Hello) : Type 0 where
  pub place : ℕ
  pub before : List Passage
  pub since : List Passage
  pub passed_is : passed ≡ before ++ since
  pub opens : Opens own hello (talk_over before (line_at place))

abbrev pub IsOpened : Own → List Passage → Hello → Type 0
IsOpened own passed hello = ∥ OpenedBy own passed hello ∥₁

-- this node had, and where its life is to be kept that is the one of its Hello
pub record Joins (own : Own) (passed : List Passage) (peer : ℕ) (life : Option Life) : Type 0 where
  pub hello : Hello
  pub from_is : hello.ends.from ≡ peer
  pub life_is : IfSome life (λ l. l ≡ hello.life)
  pub opened : OpenedBy own passed hello

abbrev pub IsTold : Own → List Passage → Notice → Type 0
IsTold own passed (notices.Frame from frame) = ∥ Told own passed from frame ∥₁
IsTold own passed (notices.Joined peer life) = ∥ Joins own passed peer life ∥₁
IsTold own passed (notices.Gone peer) = Unit {0}
IsTold own passed (notices.Refused peer fault source) = Unit {0}
IsTold own passed (notices.Unreached peer refuses) = Unit {0}
IsTold own passed (notices.Strangers peer count fault) = Unit {0}
IsTold own passed (notices.Settings peer settings) = Unit {0}

abbrev pub AreTold : Own → List Passage → List Notice → Type 0
AreTold own passed [] = Unit {0}
AreTold own passed (notice ∷ more) = IsTold own passed notice × AreTold own passed more

-- a frame that is set aside of a node, at the place of its number
abbrev pub IsAside : Own → List Passage → ℕ → Option Frame → Type 0
IsAside own passed from None = Unit {0}
IsAside own passed from (Some frame) = IsTold own passed (notices.Frame from frame)

abbrev pub AreAside : Own → List Passage → List (Option Frame) → Type 0
AreAside own passed frames = (number : ℕ) → IsAside own passed number (get_or frames number None)

-- ---- there is one proof of each at most

kept_prop : (lost : Bool) (own : Own) (talk : Talk) (c : Connection) → IsProp (IsKept lost own talk c)
kept_prop true own talk c = Unit-prop
kept_prop false own talk c = goes_prop own talk c

hears_prop : (own : Own) (talk : Talk) (link : Option Link) → IsProp (Hears own talk link)
hears_prop own talk None = Unit-prop
hears_prop own talk (Some link) = kept_prop link.is_lost own talk link.connection

of_prop : (own : Own) (sent : List Passage) (talk : Talk) (link : Option Link) → IsProp (IsOf own sent talk link)
of_prop own sent talk link = ×_prop (hears_prop own talk link) (speaks_prop own sent talk link)

pub fits_prop : (own : Own) (sent passed : List Passage) (links : List (Option Link)) → IsProp (Fits own sent passed links)
fits_prop own sent passed links = Π_prop (λ place. of_prop own sent (talk_over passed (line_at place)) (get_or links place None))

told_prop : (own : Own) (passed : List Passage) (notice : Notice) → IsProp (IsTold own passed notice)
told_prop own passed (notices.Frame from frame) = λ x y. squash₁ x y
told_prop own passed (notices.Joined peer life) = λ x y. squash₁ x y
told_prop own passed (notices.Gone peer) = Unit-prop
told_prop own passed (notices.Refused peer fault source) = Unit-prop
told_prop own passed (notices.Unreached peer refuses) = Unit-prop
told_prop own passed (notices.Strangers peer count fault) = Unit-prop
told_prop own passed (notices.Settings peer settings) = Unit-prop

pub are_told_prop : (own : Own) (passed : List Passage) (told : List Notice) → IsProp (AreTold own passed told)
are_told_prop own passed [] = Unit-prop
are_told_prop own passed (notice ∷ more) = ×_prop (told_prop own passed notice) (are_told_prop own passed more)

aside_prop : (own : Own) (passed : List Passage) (from : ℕ) (frame : Option Frame) → IsProp (IsAside own passed from frame)
aside_prop own passed from None = Unit-prop
aside_prop own passed from (Some frame) = told_prop own passed (notices.Frame from frame)

pub are_aside_prop : (own : Own) (passed : List Passage) (frames : List (Option Frame)) → IsProp (AreAside own passed frames)
are_aside_prop own passed frames = Π_prop (λ number. aside_prop own passed number (get_or frames number None))

-- ---- calls

-- what a connection went by it goes by
abbrev pub KeepsOn : Option Link → Option Link → Type 0
KeepsOn old new = (own : Own) (sent : List Passage) (talk : Talk) → IsOf own sent talk old → IsOf own sent talk new

-- and so do those at all places
abbrev pub FitsOn : List (Option Link) → List (Option Link) → Type 0
FitsOn old new = (own : Own) (sent : List Passage) (talks : ℕ → Talk) → FitsBy own sent talks old → FitsBy own sent talks new

-- where it answers with a Hello of this node
abbrev pub KeepsAs : Hello → Option Link → Option Link → Type 0
KeepsAs mine old new = (own : Own) (sent : List Passage) (talk : Talk) → IsOurs own mine → IsOf own sent talk old → IsOf own sent talk new

abbrev pub FitsAs : Hello → List (Option Link) → List (Option Link) → Type 0
FitsAs mine old new = (own : Own) (sent : List Passage) (talks : ℕ → Talk) → IsOurs own mine → FitsBy own sent talks old → FitsBy own sent talks new

-- where it is given frames that were handed to its node
abbrev pub KeepsSaying : List Frame → Option Link → Option Link → Type 0
KeepsSaying frames old new = (own : Own) (sent : List Passage) (talk : Talk) → AreFor (peer_in old) sent frames → IsOf own sent talk old → IsOf own sent talk new

abbrev pub FitsSaying : List Frame → ℕ → List (Option Link) → List (Option Link) → Type 0
FitsSaying frames place old new = (own : Own) (sent : List Passage) (talks : ℕ → Talk) → AreFor (peer_at old place) sent frames → FitsBy own sent talks old → FitsBy own sent talks new

-- the connection at a place goes by what passed over its line, and over no other line anything passed
pub record Moves (place : ℕ) (old new : Option Link) (passed_old passed_new : List Passage) : Type 0 where
  pub heard : (own : Own) (sent : List Passage) → IsOf own sent (talk_over passed_old (line_at place)) old → IsOf own sent (talk_over passed_new (line_at place)) new
  pub elsewhere : (other : ℕ) → (place ≡ other → ⊥) → talk_over passed_new (line_at other) ≡ talk_over passed_old (line_at other)

abbrev pub FitsThrough : List Passage → List Passage → List (Option Link) → List (Option Link) → Type 0
FitsThrough passed_old passed_new old new = (own : Own) (sent : List Passage) → Fits own sent passed_old old → Fits own sent passed_new new

-- over a connection of this node that begins over a line nothing came, and nothing was written to it
abbrev pub IsFresh : Own → Line → Option Link → Type 0
IsFresh own line None = Unit {0}
IsFresh own line (Some link) = Goes own (silence (dialled_over line)) link.connection × IsUnspoken own (silence (dialled_over line)) link.connection

-- a piece was taken in, or lost
abbrev pub TakesIn : Link → Link → List ℕ → Type 0
TakesIn old new piece = ((new.is_lost ≡ true) × (new.connection ≡ old.connection)) ⊎ ((new.is_lost ≡ old.is_lost) × (old.is_lost ≡ false) × GoesOnWith old.connection new.connection piece × SpeaksOnWith old.connection new.connection piece)

-- a frame that a connection says is one that came as it has to
abbrev pub SaysFrame : Option (Result Heard PeerFault) → Link → Link → Type 0
SaysFrame None old new = Unit {0}
SaysFrame (Some (Err fault)) old new = Unit {0}
SaysFrame (Some (Ok (heards.Hello hello))) old new = Unit {0}
SaysFrame (Some (Ok (heards.Proved hello))) old new = Unit {0}
SaysFrame (Some (Ok (heards.Beat beat))) old new = Unit {0}
SaysFrame (Some (Ok (heards.Further further))) old new = Unit {0}
SaysFrame (Some (Ok (heards.Frame frame))) old new = (own : Own) (talk : Talk) (from : ℕ) → Hears own talk (Some old) → peer_of new.connection ≡ Some from → ∥ Says own from frame talk ∥₁

-- where it is open now it was opened as it has to be
abbrev pub OpensIn : Own → Option Hello → Option Link → Type 0
OpensIn own None link = Unit {0}
OpensIn own (Some hello) link = (talk : Talk) → Hears own talk link → ∥ Opens own hello talk ∥₁

abbrev pub OpensAt : Own → Option Hello → ℕ → List (Option Link) → Type 0
OpensAt own None place links = Unit {0}
OpensAt own (Some hello) place links = (talks : ℕ → Talk) → ((other : ℕ) → Hears own (talks other) (get_or links other None)) → ∥ Opens own hello (talks place) ∥₁
