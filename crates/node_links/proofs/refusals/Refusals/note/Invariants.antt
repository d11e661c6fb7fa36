use Rattle.std.proofs.Common.{◌≡◌, ◌<◌, ℕ, None}
use Rattle.node_links.specs.Refusing.{due_at}
use Rattle.node_links.proofs.refusals.Refusals.note.Given as goal

abbrev pub invariant-loop-number : goal.invariant-loop-number
invariant-loop-number l = record {
  same : l.self ≡ l.initial.self;
  none : (number : ℕ) → number < l.number → due_at l.self number l.now ≡ None;
}
