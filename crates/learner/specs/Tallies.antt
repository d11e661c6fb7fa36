-- What is counted at a slot: for each ballot and command, the nodes that accepted it.
use Rattle.std.specs.Prelude.{ℕ, ◌+◌, ◌==◌, Bool, true, false, not, if◌then◌else◌, List, [], ◌∷◌, slice_set}
use Rattle.paxos_wire.specs.declared.ballot.Ballot.{Ballot}
use Rattle.slot_log.specs.declared.command.Command.{Command}
pub use Rattle.paxos_wire.specs.NodeSets.{has, no_nodes, is_quorum}
use Rattle.learner.specs.declared.tally.Tally.{Tally}
use Rattle.learner.specs.Same.{is_same}

-- the tally is of this command in this ballot
unfoldable pub is_of : Ballot → Command → Tally → Bool
is_of ballot command tally =
    if not (tally.ballot.round == ballot.round) then false
    else if not (tally.ballot.node == ballot.node) then false
    else is_same tally.command command

-- how many tallies stand before it
abbrev pub skipped : Ballot → Command → List Tally → ℕ
skipped ballot command [] = 0
skipped ballot command (tally ∷ tallies) = if is_of ballot command tally then 0 else 1 + skipped ballot command tallies

-- the nodes that accepted the command in the ballot: nodes are counted, not frames, and ballots and commands are counted apart
abbrev pub nodes_for : Ballot → Command → List Tally → List Bool
nodes_for ballot command [] = no_nodes
nodes_for ballot command (tally ∷ tallies) = if is_of ballot command tally then tally.nodes else nodes_for ballot command tallies

-- with one more node: in the tally of its ballot and command, or in a new one
abbrev pub with_node : Ballot → Command → ℕ → List Tally → List Tally
with_node ballot command node [] = record { ballot = ballot; command = command; nodes = slice_set no_nodes node true } ∷ []
with_node ballot command node (tally ∷ tallies) =
    if is_of ballot command tally then record tally { nodes = slice_set tally.nodes node true } ∷ tallies
    else tally ∷ with_node ballot command node tallies

-- the node makes a quorum of what was none
abbrev pub is_completed : ℕ → List Bool → ℕ → Bool
is_completed n nodes node = if is_quorum n nodes then false else is_quorum n (slice_set nodes node true)
