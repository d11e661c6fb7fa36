-- Nodes whose stores were lost and made anew: no connection of them stays open.
use Rattle.std.specs.Prelude.{◌≡◌, ◌≢◌, ◌⊎◌, ◌<◌, ℕ, List, length, get_or, slice_get, Option, Some, None}
use Rattle.node_links.specs.declared.limits.TheConstants.{NODES}
use Rattle.node_links.specs.declared.own.Known.TheVariants.{Two}
use Rattle.node_links.specs.declared.own.Own.{Own}
use Rattle.node_peers.specs.declared.peer.Peer.{Peer}
use Rattle.node_peers.specs.Knowing.{known_of}

abbrev pub open_in : Option Peer → Option ℕ
open_in None = None
open_in (Some peer) = peer.open

-- the place by which a node is there, if it is
abbrev pub open_at : List Peer → ℕ → Option ℕ
open_at peers number = open_in (slice_get peers number)

-- a node of which two lives are known isn't there, but where it is this one
abbrev pub IsClosed : Own → List Peer → ℕ → Type 0
IsClosed own peers number = number ≢ own.number → known_of own number peers ≡ Two → open_at peers number ≡ None

-- nor any of the match
abbrev pub AreClosed : Own → List Peer → Type 0
AreClosed own peers = (number : ℕ) → number < NODES → IsClosed own peers number

-- ---- calls by which connections may end, and none opens

-- a peer is there as before or no more, and tells each life as before or no more; the life that is kept stays
pub record Fades (old new : Peer) : Type 0 where
  pub place : (new.open ≡ old.open) ⊎ (new.open ≡ None)
  pub told : (number : ℕ) → (get_or new.told number None ≡ get_or old.told number None) ⊎ (get_or new.told number None ≡ None)
  pub kept : new.kept ≡ old.kept

-- the same of all peers
pub record AllFade (old new : List Peer) : Type 0 where
  pub count : length new ≡ length old
  pub fade : (number : ℕ) (nobody : Peer) → Fades (get_or old number nobody) (get_or new number nobody)

-- by the connection at this place nobody is there
abbrev pub IsLeft : ℕ → List Peer → Type 0
IsLeft place peers = (number : ℕ) → number < NODES → open_at peers number ≢ Some place
