-- The keys of a match file that no command reads, and those by which a node in a process of its own doesn't go.
use Rattle.std.specs.Prelude.{ℕ, zero, suc, Bool, not, ◌||◌, List, [], ◌∷◌, Option, Some, None, codes, filter, bytes_eq, is_some}
use Rattle.std.specs.List.{list_any}
use Rattle.toml.specs.Data.{Data, Items, no_items, item, Members, no_members, member, array, get, as_table}
use Rattle.match_file.specs.Keys.{key_text}
use Rattle.match_file.specs.Matches.{entry_at}
use Rattle.match_file.specs.declared.key.Key.{Key}
use Rattle.match_file.specs.declared.key.Key.TheVariants.{Name, Game, Hands, Names, Node, Stores, Logs, Port, Outage, Away, KeyFile, Peers, Seats, Status, From, Tokens, Patience, Start}

-- the keys of a table, in its order
abbrev pub keys_of : Members → List (List ℕ)
keys_of no_members = []
keys_of (member key entry more) = key ∷ keys_of more

-- some command reads what stands at this key
abbrev pub is_used : List ℕ → Bool
is_used key =
    list_any (λ used. bytes_eq key (key_text used))
    (Name ∷ Game ∷ Hands ∷ Names ∷ Node ∷ Stores ∷ Logs ∷ Port ∷ Outage ∷ Away ∷ KeyFile ∷ Tokens ∷ Patience ∷ Start ∷ [])

-- the others
abbrev pub unused_keys : Members → List (List ℕ)
unused_keys table = filter (λ key. not (is_used key)) (keys_of table)

-- something stands at this key at the top
abbrev pub is_there : Key → Members → Bool
is_there key table = is_some (entry_at key table)

-- those by which `node` doesn't go, at which something stands
abbrev pub unused_by_node : Members → List Key
unused_by_node table = filter (λ key. is_there key table) (Port ∷ Outage ∷ [])

-- some command reads what stands at this key of a node's table
abbrev pub is_used_in_node : List ℕ → Bool
is_used_in_node key =
    bytes_eq key (codes "seed") || bytes_eq key (codes "deals") || bytes_eq key (key_text Peers) || bytes_eq key (key_text Seats)
    || bytes_eq key (key_text Status) || bytes_eq key (key_text From)

-- the others of a node's table
abbrev pub unused_in : Members → List (List ℕ)
unused_in table = filter (λ key. not (is_used_in_node key)) (keys_of table)

-- the table at a place, counted from 0; none where there is no such place, or something else
abbrev pub node_at : ℕ → Items → Option Members
node_at place no_items = None
node_at zero (item node more) = as_table node
node_at (suc place) (item node more) = node_at place more

-- the table of a node
abbrev pub node_table : ℕ → Members → Option Members
node_table node table = elim (entry_at Node table) [ Some (array nodes) ↦ node_at node nodes | other ↦ None ]

-- the others in the table of this node; none where there is no such table
abbrev pub unused_in_node : ℕ → Members → List (List ℕ)
unused_in_node node table = elim (node_table node table) [ Some its ↦ unused_in its | None ↦ [] ]
