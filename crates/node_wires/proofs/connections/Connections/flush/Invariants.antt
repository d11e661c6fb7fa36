use Rattle.std.proofs.Common.{◌≡◌, ◌<◌, ℕ, length}
use Rattle.node_wires.specs.Sending.{IsSentAt}
use Rattle.node_wires.proofs.connections.Connections.flush.Given as goal

abbrev pub invariant-loop-place : goal.invariant-loop-place
invariant-loop-place l = record {
  sent : (other : ℕ) → other < l.place → IsSentAt l.self.lines.items other;
  all : length l.self.lines.items ≡ length l.fn.self.lines.items;
}
