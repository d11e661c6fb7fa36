-- The keys that no command reads, over what the code goes over.
use Rattle.std.proofs.Common.{◌≡◌, Option, ℕ, zero, suc, List, [], ◌∷◌, Some, None, slice_get, length, get_or, ◌<◌, ◌≤◌, sym, map, not, String, BTreeMap, Global, string_bytes, refl, ap}
use Rattle.std.specs.Prelude.{filter, MatchOption, IfSome}
use Rattle.std.specs.Borrow.{Bor}
use Rattle.std.specs.Option.{option_copied}
use Rattle.std.proofs.lemmas.Option.{slice_get_past, slice_get_read}
use Rattle.std.specs.BTreeMap.{keys}
use Rattle.std.specs.List.{HoldsAt}
use Rattle.std.specs.Map.{keys_of as entry_keys}
use Rattle.toml.specs.declared.value.Value.{Value}
use Rattle.toml.specs.Data.{Members, as_table}
use Rattle.toml.specs.View.{view, items_of, table_view, members_view}
use Rattle.match_file.specs.Unused.{is_used, keys_of, unused_keys, is_used_in_node, unused_in as unused_in_table, node_at}

abbrev pub unused_in : List (String Global) → List (List ℕ)
unused_in names = filter (λ key. not (is_used key)) (map string_bytes names)

keys_seen : (entries : List (String Global × Value)) → keys_of (members_view entries) ≡ map string_bytes (entry_keys entries)
keys_seen [] = refl
keys_seen (entry ∷ entries) = ap (λ (t : List (List ℕ)). string_bytes entry.0 ∷ t) (keys_seen entries)

pub unused_seen : (table : BTreeMap (String Global) Value) → unused_keys (table_view table) ≡ unused_in (keys table)
unused_seen table = ap (λ (names : List (List ℕ)). filter (λ key. not (is_used key)) names) (keys_seen table.entries)

abbrev pub node_unused_in : List (String Global) → List (List ℕ)
node_unused_in names = filter (λ key. not (is_used_in_node key)) (map string_bytes names)

pub node_unused_seen : (table : BTreeMap (String Global) Value) → unused_in_table (table_view table) ≡ node_unused_in (keys table)
node_unused_seen table = ap (λ (names : List (List ℕ)). filter (λ key. not (is_used_in_node key)) names) (keys_seen table.entries)

-- the table at a place, by the values over which the code goes
abbrev pub table_of : Option Value → Option Members
table_of None = None
table_of (Some value) = as_table (view value)

pub node_seen : (values : List Value) (place : ℕ) → node_at place (items_of (map view values)) ≡ table_of (slice_get values place)
node_seen [] zero = refl
node_seen [] (suc place) = refl
node_seen (value ∷ values) zero = refl
node_seen (value ∷ values) (suc place) = node_seen values place

pub got : (r : Option (Bor Value)) (xs : List Value) (i : ℕ) → MatchOption r (length xs ≤ i) (λ x. (i < length xs) × HoldsAt (λ y. x.now ≡ y) xs i) → IfSome r (λ x. x.now ≡ get_or xs i x.now) → table_of (option_copied r) ≡ table_of (slice_get xs i)
got None xs i past at = ap table_of (sym (slice_get_past xs i past))
got (Some x) xs i past at = ap table_of (sym (slice_get_read xs (length xs) i x.now refl past.0 at))
