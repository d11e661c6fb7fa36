use Rattle.std.proofs.Common.{◌≡◌, ℕ, ◌<◌}
use Rattle.node_status.specs.Given.{given_at, IsServed}
use Rattle.node_status.specs.Asking.{KeepsOthers, AreAnswered}
use Rattle.node_status.proofs.askers.Askers.flush.Given as goal

abbrev pub invariant-loop-place : goal.invariant-loop-place
invariant-loop-place g l = record {
  others : KeepsOthers (g.W.Wire.passed l.initial.wire) (g.W.Wire.passed l.wire);
  answered : AreAnswered (g.W.Wire.passed l.initial.wire) l.initial.self.askers.items → AreAnswered (g.W.Wire.passed l.wire) l.self.askers.items;
  lines : (at : ℕ) → (given_at l.self.askers.items at).line ≡ (given_at l.initial.self.askers.items at).line;
  served : (at : ℕ) → at < l.place → IsServed l.now (given_at l.self.askers.items at);
}
