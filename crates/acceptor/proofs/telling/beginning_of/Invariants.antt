use Rattle.std.proofs.Common.{◌≡◌, ℕ, ◌+◌, ◌<◌, ◌≤◌}
use Rattle.promise_store.specs.Room.{placed_in}
use Rattle.acceptor.specs.Answers.{is_placed_in}
use Rattle.acceptor.proofs.telling.beginning_of.Given as goal

abbrev pub invariant-loop-place : goal.invariant-loop-place
invariant-loop-place l = (k : ℕ) → l.first ≤ k → k < l.first + l.place → is_placed_in l.ballot (placed_in l.held k) ≡ l.voted
