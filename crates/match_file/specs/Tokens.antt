-- The tokens of seats: of each its digest stands in the match file.
use Rattle.std.specs.Prelude.{◌≡◌, ℕ, ◌&&◌, Bool, not, false, List, length, Option, Some, None, Ok}
use Rattle.std.specs.List.{list_any}
use Rattle.std.specs.declared.net.socket_addr.SocketAddr.{SocketAddr}
use Rattle.std.specs.Net.Socket.{socket_ip}
use Rattle.hex.specs.Hex.{decode_sized}
use Rattle.toml.specs.Data.{Data, Members, string}
use Rattle.match_file.specs.declared.key.Key.TheVariants.{Tokens}
use Rattle.match_file.specs.Addresses.{is_loopback, has_key}
use Rattle.match_file.specs.Matches.{entry_at}
use Rattle.match_file.specs.Said.{SaysEach}

-- a text of hex digits, small or large, of these 32 bytes
pub record SaysDigest (entry : Data) (digest : List ℕ) : Type 0 where
  pub digits : List ℕ
  pub text : entry ≡ string digits
  pub bytes : decode_sized digits 32 ≡ Ok digest

-- one of these addresses is reached from other machines
abbrev pub is_one_far : List SocketAddr → Bool
is_one_far addresses = list_any (λ address. not (is_loopback (socket_ip address))) addresses

-- nodes that share a key await bots from other machines
abbrev pub is_open : Members → List SocketAddr → Bool
is_open table seats = has_key table && is_one_far seats

-- a digest for each of so many players; or there is no entry, which is enough where no bot comes from elsewhere, or the
-- nodes trust one another by their addresses
abbrev pub SaysTokens : ℕ → List SocketAddr → Members → Option (List (List ℕ)) → Type 0
SaysTokens players seats table None = (entry_at Tokens table ≡ None) × (is_open table seats ≡ false)
SaysTokens players seats table (Some digests) = SaysEach SaysDigest (entry_at Tokens table) digests × (length digests ≡ players)
