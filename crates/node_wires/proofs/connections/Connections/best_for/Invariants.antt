use Rattle.node_wires.specs.Places.{rank, IsBest}
use Rattle.node_wires.proofs.connections.Connections.best_for.Given as goal

abbrev pub invariant-loop-place : goal.invariant-loop-place
invariant-loop-place l = IsBest (rank l.self.nodes l.self.lines.items l.coming) l.place l.best
