-- Where nodes are reached that run in processes of their own. Those that share a key know one another and the seats by
-- codes and tokens, so their addresses may be any; else they are trusted by their addresses.
use Rattle.std.specs.Prelude.{◌≡◌, ℕ, ◌+◌, ◌/◌, ◌==◌, ◌&&◌, ◌||◌, nat_le, Bool, true, List, [], ◌∷◌, slice_index, bytes_eq, is_some, codes, ◌++◌, if◌then◌else◌, Option, None, Some}
use Rattle.std.specs.List.{list_any}
use Rattle.std.specs.declared.net.ip_addr.IpAddr.{IpAddr}
use Rattle.std.specs.declared.net.ip_addr.IpAddr.TheVariants.{V4, V6}
use Rattle.std.specs.declared.net.socket_addr.SocketAddr.{SocketAddr}
use Rattle.std.specs.Net.Addr.{ipv4_octets, ipv6_octets}
use Rattle.std.specs.Net.Socket.{socket_ip, socket_port}
use Rattle.std.specs.Net.Grammar.{IsSocketText}
use Rattle.toml.specs.Data.{Data, Members, string, get}
use Rattle.match_file.specs.declared.key.Key.{Key}
use Rattle.match_file.specs.declared.key.Key.TheVariants.{Node, KeyFile, Peers, Seats, Status, From}
use Rattle.match_file.specs.declared.match_fault.MatchFault.{MatchFault}
use Rattle.match_file.specs.declared.match_fault.MatchFault.TheVariants.{BadEntry, OutOfMemory}
use Rattle.match_file.specs.Keys.{key_text}
use Rattle.match_file.specs.Matches.{entry_at}
use Rattle.match_file.specs.Said.{IsAbsent, IsThere, SaysEach}
use Rattle.match_file.specs.Hosts.{SaysFroms}

-- the number is one of these
abbrev pub is_within : ℕ → ℕ → ℕ → Bool
is_within least most number = nat_le least number && nat_le number most

-- 127/8, 10/8, 172.16/12, 192.168/16 and 100.64/10
abbrev pub is_trusted_v4 : List ℕ → Bool
is_trusted_v4 octets =
    slice_index octets 0 == 127 || slice_index octets 0 == 10 || (slice_index octets 0 == 172 && is_within 16 31 (slice_index octets 1))
    || (slice_index octets 0 == 192 && slice_index octets 1 == 168) || (slice_index octets 0 == 100 && is_within 64 127 (slice_index octets 1))

abbrev pub own_v6 : List ℕ
own_v6 = 0 ∷ 0 ∷ 0 ∷ 0 ∷ 0 ∷ 0 ∷ 0 ∷ 0 ∷ 0 ∷ 0 ∷ 0 ∷ 0 ∷ 0 ∷ 0 ∷ 0 ∷ 1 ∷ []

-- fc00::/7 and ::1
abbrev pub is_trusted_v6 : List ℕ → Bool
is_trusted_v6 octets = slice_index octets 0 / 2 == 126 || bytes_eq octets own_v6

-- of this machine, or of a network that isn't reached from everywhere
abbrev pub is_trusted : IpAddr → Bool
is_trusted (V4 address) = is_trusted_v4 (ipv4_octets address)
is_trusted (V6 address) = is_trusted_v6 (ipv6_octets address)

-- of this machine alone: 127/8 and ::1
abbrev pub is_loopback : IpAddr → Bool
is_loopback (V4 address) = slice_index (ipv4_octets address) 0 == 127
is_loopback (V6 address) = bytes_eq (ipv6_octets address) own_v6

-- the nodes share a key
abbrev pub has_key : Members → Bool
has_key table = is_some (entry_at KeyFile table)

-- it has so many ports from its own on, 0 being none; and it is trusted where there is no key
abbrev pub is_usable : Bool → SocketAddr → ℕ → Bool
is_usable keyed address ports =
    nat_le 1 (socket_port address) && nat_le (socket_port address + ports) 65536 && (keyed || is_trusted (socket_ip address))

-- the text of an address that can be used, and has so many ports
pub record IsAddress (keyed : Bool) (ports : ℕ) (text : List ℕ) (address : SocketAddr) : Type 0 where
  pub text_of : IsSocketText text address
  pub usable : is_usable keyed address ports ≡ true

-- a node's table has it at a key
abbrev pub SaysAddress : Bool → Key → ℕ → Data → SocketAddr → Type 0
SaysAddress keyed key ports entry address =
    (text : List ℕ) × (get (key_text key) entry ≡ Some (string text)) × IsAddress keyed ports text address

-- and so has each node's table
abbrev pub SaysAddresses : Key → ℕ → Members → List SocketAddr → Type 0
SaysAddresses key ports table addresses = SaysEach (SaysAddress (has_key table) key ports) (entry_at Node table) addresses

abbrev pub has_colon : List ℕ → Bool
has_colon text = list_any (λ character. character == 58) text

-- a text without a colon is a port of this machine
abbrev pub with_host : List ℕ → List ℕ
with_host text = if has_colon text then text else codes "127.0.0.1:" ++ text

-- where a node's table says that its status is asked for; any address will do
abbrev pub SaysStatus : Data → Option SocketAddr → Type 0
SaysStatus entry None = get (key_text Status) entry ≡ None
SaysStatus entry (Some address) =
    (text : List ℕ) × (get (key_text Status) entry ≡ Some (string text)) × IsAddress true 1 (with_host text) address

-- and so says each node's table
abbrev pub SaysStatuses : Members → List (Option SocketAddr) → Type 0
SaysStatuses table addresses = SaysEach SaysStatus (entry_at Node table) addresses

-- of where nodes and seats are reached, or memory was refused
abbrev pub IsUnreached : ℕ → Members → MatchFault → Type 0
IsUnreached players table (BadEntry Peers) = IsAbsent (SaysAddresses Peers 1 table)
IsUnreached players table (BadEntry Seats) = IsThere (SaysAddresses Peers 1 table) × IsAbsent (SaysAddresses Seats players table)
IsUnreached players table (BadEntry Status) =
    IsThere (SaysAddresses Peers 1 table) × IsThere (SaysAddresses Seats players table) × IsAbsent (SaysStatuses table)
IsUnreached players table (BadEntry From) =
    IsThere (SaysAddresses Peers 1 table) × IsThere (SaysAddresses Seats players table) × IsThere (SaysStatuses table) × IsAbsent (SaysFroms table)
IsUnreached players table OutOfMemory = Unit {0}
IsUnreached players table fault = ⊥
