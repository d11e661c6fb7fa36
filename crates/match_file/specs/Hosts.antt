-- From which IP addresses nodes dial, besides those at which they are reached.
use Rattle.std.specs.Prelude.{◌≡◌, ℕ, List, [], ◌∷◌, Option, Some, None, Vec}
use Rattle.std.specs.declared.net.ip_addr.IpAddr.{IpAddr}
use Rattle.std.specs.Global.{Global}
use Rattle.std.specs.Net.Grammar.{IsIpText}
use Rattle.toml.specs.Data.{Data, Members, string, array, get}
use Rattle.match_file.specs.declared.key.Key.TheVariants.{Node, From}
use Rattle.match_file.specs.Keys.{key_text}
use Rattle.match_file.specs.Matches.{entry_at}
use Rattle.match_file.specs.Said.{SaysEach}

-- a text, an IP address without a port
pub record SaysHost (entry : Data) (host : IpAddr) : Type 0 where
  pub text : List ℕ
  pub is_text : entry ≡ string text
  pub address : IsIpText text host

-- an array of such texts, or one text
abbrev pub SaysHosts : Data → List IpAddr → Type 0
SaysHosts (array items) hosts = SaysEach SaysHost (Some (array items)) hosts
SaysHosts entry hosts = (host : IpAddr) × (hosts ≡ host ∷ []) × SaysHost entry host

-- what stands at the key of a node's table; none where there is no entry
abbrev pub AreFrom : Option Data → List IpAddr → Type 0
AreFrom None hosts = hosts ≡ []
AreFrom (Some entry) hosts = SaysHosts entry hosts

abbrev pub SaysFrom : Data → Vec IpAddr Global → Type 0
SaysFrom entry hosts = AreFrom (get (key_text From) entry) hosts.items

-- and so says each node's table
abbrev pub SaysFroms : Members → List (Vec IpAddr Global) → Type 0
SaysFroms table hosts = SaysEach SaysFrom (entry_at Node table) hosts
