use Rattle.std.proofs.Common.{◌≡◌, ℕ, ◌<◌, ◌≤◌, List}
use Rattle.node_wires.specs.Passages.{Passage}
use Rattle.node_status.specs.Given.{given_at, with_line}
use Rattle.node_status.specs.Asking.{AreAnswered}
use Rattle.node_status.proofs.askers.Askers.answer.Given as goal

abbrev pub invariant-loop-place : goal.invariant-loop-place
invariant-loop-place l = record {
  given : (at : ℕ) → at < l.place → given_at l.self.askers.items at ≡ with_line l.line (given_at l.initial.self.askers.items at);
  rest : (at : ℕ) → l.place ≤ at → given_at l.self.askers.items at ≡ given_at l.initial.self.askers.items at;
  answered : (passed : List Passage) → AreAnswered passed l.initial.self.askers.items → AreAnswered passed l.self.askers.items;
}
