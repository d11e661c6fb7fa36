-- How many nodes are out.
use Rattle.std.specs.Prelude.{ℕ, zero, suc, ◌+◌, ◌*◌, ◌<◌, Bool, true, ◌&&◌, ◌==◌, nat_le, nat_lt, if◌then◌else◌, List, Option, Some, None}
use Rattle.std.specs.List.{list_any}
use Rattle.match_file.specs.declared.outage.Outage.{Outage}

-- an outage that ends there isn't over yet
abbrev pub goes_on : ℕ → Option ℕ → Bool
goes_on count None = true
goes_on count (Some back) = nat_lt count back

-- this outage keeps the node out when so many commands are applied
abbrev pub is_out : ℕ → ℕ → Outage → Bool
is_out count node outage = (outage.node == node && nat_le outage.at count) && goes_on count outage.back

-- some outage keeps the node out
abbrev pub is_node_out : List Outage → ℕ → ℕ → Bool
is_node_out outages count node = list_any (is_out count node) outages

-- how many of so many nodes are out when so many commands are applied
abbrev pub out_at : List Outage → ℕ → ℕ → ℕ
out_at outages count zero = 0
out_at outages count (suc nodes) = out_at outages count nodes + (if is_node_out outages count nodes then 1 else 0)

-- at each count fewer than half the nodes are out
abbrev pub LeaveMost : ℕ → List Outage → Type 0
LeaveMost nodes outages = (count : ℕ) → 2 * out_at outages count nodes < nodes
