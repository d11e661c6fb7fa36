use Rattle.std.proofs.Common.{◌≡◌, drop, map}
use Rattle.paxos_wire.specs.declared.entry.Entry.{Entry}
use Rattle.node_rules.specs.Rules.{highest}
use Rattle.dealer_node.proofs.seen_ballot.highest_of.Given as goal

abbrev pub invariant-loop-entry : goal.invariant-loop-entry
invariant-loop-entry l =
    highest l.seen (map (λ (entry : Entry). entry.ballot) (drop l.entry-index l.entries)) ≡ highest l.fn.ballot (map (λ (entry : Entry). entry.ballot) l.entries)
