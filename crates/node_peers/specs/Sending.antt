-- Which frames wait for a peer once one more was sent to it.
use Rattle.std.specs.Prelude.{◌≡◌, ◌≢◌, ℕ, List, [], ◌∷◌, ◌++◌, get_or}
use Rattle.peer_codes.specs.declared.frame.Frame.{Frame}
use Rattle.node_links.specs.Waiting.{newest}
use Rattle.node_peers.specs.declared.peer.Peer.{Peer}

pub data IsSent (bytes : List ℕ) (old new : List Frame) : Type 0 where
  -- it waits behind the newest of the others
  waits : (frame : Frame) (most : ℕ) → frame.bytes.items ≡ bytes → new ≡ newest most old ++ frame ∷ [] → IsSent bytes old new
  -- it is dropped, for want of memory, and the newest of the others wait
  unkept : (most : ℕ) → new ≡ newest most old → IsSent bytes old new
  -- it is dropped: it is an Ask that comes too soon, or no frame
  dropped : new ≡ old → IsSent bytes old new

-- this was sent to the peer of this number, and of the others nothing changed
pub record Sends (number : ℕ) (bytes : List ℕ) (old new : List Peer) : Type 0 where
  pub sent : (nobody : Peer) → IsSent bytes (get_or old number nobody).outbox.frames (get_or new number nobody).outbox.frames
  pub others : (nobody : Peer) (other : ℕ) → other ≢ number → get_or new other nobody ≡ get_or old other nobody
