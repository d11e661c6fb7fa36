-- How peers are seen.
use Rattle.std.specs.Prelude.{ℕ, ◌-◌, is_some, slice_get, Option, Some, None}
use Rattle.clockwork.specs.Measuring.{lately}
use Rattle.peer_codes.specs.declared.beat.Beat.{Beat}
use Rattle.node_peers.specs.declared.lag.Lag.{Lag}
use Rattle.node_links.specs.Repeating.{slot_in}
use Rattle.node_peers.specs.declared.peer.Peer.{Peer}
use Rattle.node_peers.specs.declared.peers.Peers.{Peers}
use Rattle.node_peers.specs.declared.view.View.{View}

-- by its connection, what came over it, what was sent to it, and what it owes an answer to
abbrev pub seen_as : Peer → View
seen_as peer = record {
  is_open = is_some peer.open;
  since = peer.since;
  heard = peer.heard;
  measured = peer.measures.counted;
  beat = peer.beat;
  accepted = slot_in peer.accepted;
  unanswered = peer.owed.unanswered;
}

abbrev pub seen_if_there : Option Peer → Option View
seen_if_there None = None
seen_if_there (Some peer) = Some (seen_as peer)

-- how far this front is ahead of that of its last beat, and the longest that was measured of it by then
abbrev pub behind_by : ℕ → ℕ → Peer → Option Beat → Option Lag
behind_by front now peer None = None
behind_by front now peer (Some beat) = Some (record { behind = front - beat.front; slowest = lately peer.measures.counted now })

abbrev pub lag_if_there : ℕ → ℕ → Option Peer → Option Lag
lag_if_there front now None = None
lag_if_there front now (Some peer) = behind_by front now peer peer.beat

-- the peer of this number is behind this node by so much; none is of a number that no node has
abbrev pub lag_of : Peers → ℕ → ℕ → Option Lag
lag_of peers number now = lag_if_there peers.own_front.front now (slice_get peers.peers.items number)

-- the peer of this number is seen so; none is of a number that no node has
abbrev pub view_of : Peers → ℕ → Option View
view_of peers number = seen_if_there (slice_get peers.peers.items number)
