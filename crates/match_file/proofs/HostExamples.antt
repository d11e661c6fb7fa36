-- From where nodes dial, and near misses.
use Rattle.std.proofs.Common.{◌≡◌, ℕ, pos, [], ◌∷◌, Vec, Global, refl, sym, ◌∙◌, ap, length, arith}
use Rattle.std.specs.Prelude.{codes}
use Rattle.std.specs.Fmt.{digits}
use Rattle.std.specs.declared.net.ip_addr.IpAddr.{IpAddr}
use Rattle.std.specs.declared.net.ip_addr.IpAddr.TheVariants.{V4}
use Rattle.toml.specs.Data.{string, integer, array, table, no_members, member}
use Rattle.toml.specs.View.{items_of}
use Rattle.match_file.specs.Said.{IsAbsent}
use Rattle.match_file.specs.Hosts.{SaysHost, SaysHosts, SaysFrom}

abbrev host : ℕ → IpAddr
host last = V4 (record { octets = 10 ∷ 0 ∷ 0 ∷ last ∷ [] })

one_host : SaysHost (string (codes "10.0.0.7")) (host 7)
unfolding digits
one_host = record {
  text = codes "10.0.0.7";
  is_text = refl;
  address = record { a = 10; b = 0; c = 0; d = 7; fit = (omega arith, omega arith, omega arith, omega arith); value = refl; spelled = refl };
}

another_host : SaysHost (string (codes "10.0.0.8")) (host 8)
unfolding digits
another_host = record {
  text = codes "10.0.0.8";
  is_text = refl;
  address = record { a = 10; b = 0; c = 0; d = 8; fit = (omega arith, omega arith, omega arith, omega arith); value = refl; spelled = refl };
}

no_host_of_a_number : IsAbsent (SaysHost (integer (pos 7)))
no_host_of_a_number one says = let e : integer (pos 7) ≡ string says.text = says.is_text in cc

-- ---- an entry

alone : SaysHosts (string (codes "10.0.0.7")) (host 7 ∷ [])
alone = (host 7, refl, one_host)

both : SaysHosts (array (items_of (string (codes "10.0.0.7") ∷ string (codes "10.0.0.8") ∷ []))) (host 7 ∷ host 8 ∷ [])
both = (string (codes "10.0.0.7") ∷ string (codes "10.0.0.8") ∷ [], refl, (one_host, (another_host, tt)))

empty : SaysHosts (array (items_of [])) []
empty = ([], refl, tt)

not_none_of_a_text : SaysHosts (string (codes "10.0.0.7")) [] → ⊥
not_none_of_a_text says = let e : 0 ≡ 1 = ap length says.1 in omega (arith, e)

not_twice : SaysHosts (string (codes "10.0.0.7")) (host 7 ∷ host 7 ∷ []) → ⊥
not_twice says = let e : 2 ≡ 1 = ap length says.1 in omega (arith, e)

no_hosts_of_a_number : IsAbsent (SaysHosts (integer (pos 7)))
no_hosts_of_a_number hosts says = no_host_of_a_number says.0 says.2

-- ---- a table

nothing_there : (hosts : Vec IpAddr Global) → hosts.items ≡ [] → SaysFrom (table no_members) hosts
nothing_there hosts none = none

none_made_up : (hosts : Vec IpAddr Global) → hosts.items ≡ host 7 ∷ [] → SaysFrom (table no_members) hosts → ⊥
none_made_up hosts one says = let e : [] ≡ host 7 ∷ [] = sym says ∙ one in cc

no_number_there : IsAbsent (SaysFrom (table (member (codes "from") (integer (pos 7)) no_members)))
no_number_there hosts says = no_hosts_of_a_number hosts.items says
