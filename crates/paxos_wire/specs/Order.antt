-- The order of ballots: by round, then by node.
use Rattle.std.specs.Prelude.{◌==◌, Bool, false, true, nat_lt, if◌then◌else◌}
use Rattle.paxos_wire.specs.declared.ballot.Ballot.{Ballot}

-- by round, then by node
abbrev pub is_below : Ballot → Ballot → Bool
is_below a b = if nat_lt a.round b.round then true else if a.round == b.round then nat_lt a.node b.node else false

-- of one round and one node
abbrev pub is_same_ballot : Ballot → Ballot → Bool
is_same_ballot a b = if a.round == b.round then a.node == b.node else false
