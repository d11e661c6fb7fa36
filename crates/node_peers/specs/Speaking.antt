-- What is written over the lines of peers: each connection's own Hello, and of frames those that were handed to the node at its other end.
use Rattle.std.specs.Prelude.{◌≡◌, ◌⊎◌, ℕ, false, List, [], ◌∷◌, ◌++◌, Option, Some, None}
use Rattle.node_links.specs.declared.own.Own.{Own}
use Rattle.node_links.specs.Speaking.{Given, OwnHello, FrameFor, Spoke}
use Rattle.node_links.specs.declared.connection.Connection.{Connection}
use Rattle.node_links.specs.Talks.{Talk}
use Rattle.node_wires.specs.declared.line.Line.TheVariants.{Peer as ToPeer}
use Rattle.node_wires.specs.Passages.{Passage, Wrote}
use Rattle.node_peers.specs.declared.link.Link.{Link}
use Rattle.node_peers.specs.Greeting.{IsOurs}
use Rattle.node_peers.specs.Handing.{Is}

-- a Hello of this node, or a frame that was handed to the peer for which it is
abbrev pub IsAllowed : Own → List Passage → Given → Type 0
IsAllowed own sent (OwnHello hello) = IsOurs own hello
IsAllowed own sent (FrameFor to bytes) = ∥ Is (Wrote (ToPeer to) bytes) sent ∥₁

abbrev pub AreAllowed : Own → List Passage → List Given → Type 0
AreAllowed own sent [] = Unit {0}
AreAllowed own sent (one ∷ given) = IsAllowed own sent one × AreAllowed own sent given

-- a connection that begins spoke nothing else
abbrev pub IsUnspoken : Own → Talk → Connection → Type 0
IsUnspoken own talk c = (given : List Given) × ((sent : List Passage) → AreAllowed own sent given) × Spoke given own talk c

-- what a connection wrote with what it has begun is its own, of what may be said; it took in all that came, or of one of which a piece was lost
-- all before that
pub record SpeaksBy (own : Own) (sent : List Passage) (talk : Talk) (link : Link) : Type 0 where
  pub given : List Given
  pub allowed : AreAllowed own sent given
  pub heard : List ℕ
  pub lost : List ℕ
  pub came : talk.came ≡ heard ++ lost
  pub whole : link.is_lost ≡ false → lost ≡ []
  pub spoke : Spoke given own (record talk { came = heard }) link.connection

-- where no connection is any more, what was written is what one spoke
abbrev pub Speaks : Own → List Passage → Talk → Option Link → Type 0
Speaks own sent talk (Some link) = ∥ SpeaksBy own sent talk link ∥₁
Speaks own sent talk None = ∥ ((talk.wrote ≡ []) ⊎ ((link : Link) × SpeaksBy own sent talk link)) ∥₁

pub speaks_prop : (own : Own) (sent : List Passage) (talk : Talk) (link : Option Link) → IsProp (Speaks own sent talk link)
speaks_prop own sent talk None = λ x y. squash₁ x y
speaks_prop own sent talk (Some link) = λ x y. squash₁ x y

-- a connection of this node spoke what was written over a line, of what may be said
pub record SpokenBy (own : Own) (sent : List Passage) (talk : Talk) : Type 0 where
  pub given : List Given
  pub allowed : AreAllowed own sent given
  pub heard : List ℕ
  pub lost : List ℕ
  pub came : talk.came ≡ heard ++ lost
  pub connection : Connection
  pub spoke : Spoke given own (record talk { came = heard }) connection

-- one did, or nothing was written since a connection began there
abbrev pub IsSpoken : Own → List Passage → Talk → Type 0
IsSpoken own sent talk = ∥ ((talk.wrote ≡ []) ⊎ SpokenBy own sent talk) ∥₁
