-- Ballots in order: by round, then by node. ('Paxos Made Simple' calls them proposal numbers.)
use Rattle.std.specs.Prelude.{◌≡◌, ◌<◌, ◌≤◌, ◌⊎◌}
use Rattle.paxos_wire.specs.declared.ballot.Ballot.{Ballot}

-- by round, then by node
abbrev pub Below : Ballot → Ballot → Type 0
Below a b = (a.round < b.round) ⊎ ((a.round ≡ b.round) × (a.node < b.node))

-- below, or the same
abbrev pub AtMost : Ballot → Ballot → Type 0
AtMost a b = (a.round < b.round) ⊎ ((a.round ≡ b.round) × (a.node ≤ b.node))

-- below every ballot that a node begins
abbrev pub no_ballot : Ballot
no_ballot = record { round = 0; node = 0 }
