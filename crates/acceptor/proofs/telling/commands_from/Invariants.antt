use Rattle.std.proofs.Common.{◌≡◌, ℕ, ◌+◌, ◌<◌, ◌≤◌, true, Ok, length}
use Rattle.std.specs.Prelude.{IsSome}
use Rattle.std.specs.List.{AllByRecursion}
use Rattle.slot_log.specs.Range.{IsInRange}
use Rattle.promise_store.specs.Keeping.{is_closed, held_of}
use Rattle.promise_store.specs.Room.{placed_in}
use Rattle.acceptor.specs.Answers.{commands_told}
use Rattle.acceptor.specs.Taken.{Read}
use Rattle.acceptor.proofs.telling.commands_from.Given as goal

abbrev pub invariant-loop-place : goal.invariant-loop-place
invariant-loop-place g l = record {
  read : Read g.D.Disk (λ held. commands_told held l.first l.place) l.fn.store l.store (Ok l.told);
  few : length l.told ≤ l.place;
  range : AllByRecursion IsInRange l.told;
  all : ((k : ℕ) → l.first ≤ k → k < l.first + l.count → IsSome (placed_in (held_of l.fn.store) k)) → length l.told ≡ l.place;
  -- nothing was read yet, or the store was open
  begin : l.place ≡ 0 → l.store ≡ l.fn.store;
  opened : is_closed l.fn.store ≡ true → l.place ≡ 0;
}
