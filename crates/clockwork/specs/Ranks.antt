-- How many present peers come before a node, where several may tick for one reason.
use Rattle.std.specs.Prelude.{ℕ, ◌+◌, Bool, false, not, ◌&&◌, if◌then◌else◌, nat_lt, List, Option, Some, None, count_by}
use Rattle.clockwork.specs.declared.known.PeerReport.{PeerReport}
use Rattle.clockwork.specs.declared.known.Peer.{Peer}
use Rattle.clockwork.specs.Presence.{told}

-- present, with a lower number
unfoldable pub is_before : Option PeerReport → ℕ → ℕ → Bool
is_before None peer number = false
is_before (Some beat) peer number = nat_lt peer number

unfoldable pub rank_by_number : ℕ → ℕ → ℕ → List Peer → ℕ
rank_by_number time slow number peers = count_by (λ peer. is_before (told time slow peer.link) peer.number number) peers

-- how late a node's turn comes where nodes are counted cyclically from behind a leader on
unfoldable pub turn : ℕ → ℕ → ℕ
turn leader number = if nat_lt leader number then number else number + 256

-- present, with an earlier turn
unfoldable pub comes_sooner : Option PeerReport → ℕ → ℕ → ℕ → Bool
comes_sooner None leader peer number = false
comes_sooner (Some beat) leader peer number = nat_lt (turn leader peer) (turn leader number)

unfoldable pub rank_behind : ℕ → ℕ → ℕ → ℕ → List Peer → ℕ
rank_behind time slow leader number peers = count_by (λ peer. comes_sooner (told time slow peer.link) leader peer.number number) peers

-- present, with this front or a greater one and a lower number
unfoldable pub is_as_far : Option PeerReport → ℕ → ℕ → ℕ → Bool
is_as_far None front peer number = false
is_as_far (Some beat) front peer number = not (nat_lt beat.front front) && nat_lt peer number

unfoldable pub rank_as_far : ℕ → ℕ → ℕ → ℕ → List Peer → ℕ
rank_as_far time slow front number peers = count_by (λ peer. is_as_far (told time slow peer.link) front peer.number number) peers
