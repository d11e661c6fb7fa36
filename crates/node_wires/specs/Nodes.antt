-- From where the nodes of a match dial this one.
use Rattle.std.specs.Prelude.{◌≡◌, ℕ, Bool, false, nat_lt, ◌==◌, ◌&&◌, ◌||◌, List, [], ◌∷◌, slice_get, Some, None, bytes_eq}
use Rattle.std.specs.List.{list_any}
use Rattle.std.specs.declared.net.ip_addr.IpAddr.{IpAddr}
use Rattle.std.specs.declared.net.ip_addr.IpAddr.TheVariants.{V4, V6}
use Rattle.std.specs.declared.net.socket_addr.SocketAddr.{SocketAddr}
use Rattle.std.specs.Net.Addr.{ipv4_octets, ipv6_segments}
use Rattle.std.specs.Net.Socket.{socket_ip}
use Rattle.node_wires.specs.declared.nodes.Nodes.{Nodes}
use Rattle.node_wires.specs.declared.nodes.Source.{Source}

-- both are one address
abbrev pub is_same : IpAddr → IpAddr → Bool
is_same (V4 one) (V4 other) = bytes_eq (ipv4_octets one) (ipv4_octets other)
is_same (V6 one) (V6 other) = bytes_eq (ipv6_segments one) (ipv6_segments other)
is_same (V4 one) (V6 other) = false
is_same (V6 one) (V4 other) = false

abbrev pub source_of : ℕ → IpAddr → Source
source_of node address = record { node = node; address = address }

-- the node of this number is dialled at this address
abbrev pub is_at : List SocketAddr → ℕ → IpAddr → Bool
is_at addresses node address = elim (slice_get addresses node) [ Some own ↦ is_same (socket_ip own) address | None ↦ false ]

-- the address is among those from which that node dials besides
abbrev pub is_source : List Source → ℕ → IpAddr → Bool
is_source sources node address = list_any (λ source. source.node == node && is_same source.address address) sources

-- a node of a greater number, which alone dials, does so from this address: that at which it is dialled, or one besides
abbrev pub dials_from : Nodes → ℕ → IpAddr → Bool
dials_from nodes node address =
    nat_lt nodes.own node && (is_at nodes.addresses.items node address || is_source nodes.sources.items node address)

-- the nodes are dialled at these addresses and dial from nowhere else, and this one is that of this number
abbrev pub AreDialledAt : ℕ → List SocketAddr → Nodes → Type 0
AreDialledAt number addresses nodes = (nodes.own ≡ number) × (nodes.addresses.items ≡ addresses) × (nodes.sources.items ≡ [])

-- some node does
abbrev pub is_home : Nodes → IpAddr → Bool
is_home nodes address = list_any (λ node. dials_from nodes node address) (0 ∷ 1 ∷ 2 ∷ 3 ∷ 4 ∷ 5 ∷ 6 ∷ [])
