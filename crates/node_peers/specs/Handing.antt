-- Which frames may go to a peer, and that each of them was handed to it.
use Rattle.std.specs.Prelude.{◌≡◌, ◌⊎◌, ◌<◌, ℕ, false, List, [], ◌∷◌, ◌++◌, length, get_or, Option, Some, None}
use Rattle.std.specs.Coded.{Π_prop}
use Rattle.peer_codes.specs.declared.frame.Frame.{Frame}
use Rattle.peer_codes.specs.declared.hello.Life.{Life}
use Rattle.node_wires.specs.declared.line.Line.TheVariants.{Peer as ToPeer}
use Rattle.node_wires.specs.Passages.{Passage, Wrote}
use Rattle.node_links.specs.declared.accepted.LastAccepted.{LastAccepted}
use Rattle.node_links.specs.Going.{peer_of}
use Rattle.node_links.specs.Promising.{promises_less}
use Rattle.node_peers.specs.declared.link.Link.{Link}
use Rattle.node_peers.specs.declared.peer.Peer.{Peer}

-- ---- what may go to one peer

abbrev pub accepted_in : Option LastAccepted → List Frame
accepted_in None = []
accepted_in (Some last) = last.frame ∷ []

abbrev pub forwarded_in : Option Frame → List Frame
forwarded_in None = []
forwarded_in (Some frame) = frame ∷ []

-- the frames that wait for a peer, and those that go to it again
abbrev pub frames_for : Peer → List Frame
frames_for peer = peer.outbox.frames ++ (accepted_in peer.accepted.last ++ forwarded_in peer.forwarded.last)

-- one of these frames has these bytes
abbrev pub Among : List ℕ → List Frame → Type 0
Among bytes [] = ⊥
Among bytes (frame ∷ more) = (frame.bytes.items ≡ bytes) ⊎ Among bytes more

-- ---- by one call

-- no frame may go that couldn't before, the life that is kept stays the one, and what it is known to have promised only rises
pub record GoesBack (old new : Peer) : Type 0 where
  pub back : (bytes : List ℕ) → Among bytes (frames_for new) → Among bytes (frames_for old)
  pub kept : (life : Life) → old.kept ≡ Some life → new.kept ≡ Some life
  pub promised : promises_less new.promised old.promised ≡ false

-- but this one
pub record GoesWith (sent : List ℕ) (old new : Peer) : Type 0 where
  pub back : (bytes : List ℕ) → Among bytes (frames_for new) → (sent ≡ bytes) ⊎ Among bytes (frames_for old)

-- the same of all peers
pub record GoBack (old new : List Peer) : Type 0 where
  pub count : length new ≡ length old
  pub back : (number : ℕ) (nobody : Peer) → GoesBack (get_or old number nobody) (get_or new number nobody)

-- ---- what was handed to them

-- this is one of these
abbrev pub Is : Passage → List Passage → Type 0
Is one [] = ⊥
Is one (other ∷ more) = (other ≡ one) ⊎ Is one more

-- each frame that may go to a peer was handed to it
abbrev pub IsHanded : ℕ → List Passage → Peer → Type 0
IsHanded number sent peer = (bytes : List ℕ) → Among bytes (frames_for peer) → ∥ Is (Wrote (ToPeer number) bytes) sent ∥₁

abbrev pub AreHanded : List Passage → List Peer → Type 0
AreHanded sent peers = (number : ℕ) (nobody : Peer) → number < length peers → IsHanded number sent (get_or peers number nobody)

pub are_handed_prop : (sent : List Passage) (peers : List Peer) → IsProp (AreHanded sent peers)
are_handed_prop sent peers = Π_prop (λ number. Π_prop (λ nobody. Π_prop (λ within. Π_prop (λ bytes. Π_prop (λ among. λ x y. squash₁ x y)))))

-- ---- what a connection is given to say

-- the node at the other end of the connection at a place, once it is open
abbrev pub peer_in : Option Link → Option ℕ
peer_in None = None
peer_in (Some link) = peer_of link.connection

abbrev pub peer_at : List (Option Link) → ℕ → Option ℕ
peer_at links place = peer_in (get_or links place None)

-- each of these frames was handed to this node; to one that isn't known yet none goes
pub record AreFor (peer : Option ℕ) (sent : List Passage) (frames : List Frame) : Type 0 where
  pub handed : (number : ℕ) (bytes : List ℕ) → peer ≡ Some number → Among bytes frames → ∥ Is (Wrote (ToPeer number) bytes) sent ∥₁
