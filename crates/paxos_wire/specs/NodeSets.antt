-- Sets of nodes, how many of a set there are, and when they are a quorum.
use Rattle.std.specs.Prelude.{ℕ, zero, suc, ◌+◌, ◌*◌, Bool, false, nat_lt, if◌then◌else◌, List, replicate, slice_index_or}
use Rattle.paxos_wire.specs.declared.limits.TheConstants.{NODES}

-- how many of the first n nodes are in the set
abbrev pub count : (ℕ → Bool) → ℕ → ℕ
count set zero = 0
count set (suc n) = if set n then 1 + count set n else count set n

-- the node is among these; marks stand by node
abbrev pub has : List Bool → ℕ → Bool
has nodes node = slice_index_or nodes node false

abbrev pub no_nodes : List Bool
no_nodes = replicate NODES false

-- more than half of the n nodes are among these
abbrev pub is_quorum : ℕ → List Bool → Bool
is_quorum n nodes = nat_lt n (2 * count (has nodes) n)
