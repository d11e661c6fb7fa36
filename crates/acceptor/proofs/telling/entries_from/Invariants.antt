use Rattle.std.proofs.Common.{◌≡◌, ◌+◌, ◌≤◌, true, Ok, length}
use Rattle.std.specs.List.{AllByRecursion}
use Rattle.paxos_wire.specs.Fits.{IsEntry, Rise}
use Rattle.promise_store.specs.Keeping.{is_closed}
use Rattle.protocol_model.specs.Votes.{told_from}
use Rattle.acceptor.specs.Taken.{Read}
use Rattle.acceptor.proofs.telling.entries_from.Given as goal

abbrev pub invariant-loop-place : goal.invariant-loop-place
invariant-loop-place g l = record {
  read : Read g.D.Disk (λ held. told_from held l.first l.place) l.fn.store l.store (Ok l.entries);
  few : length l.entries ≤ l.place;
  each : AllByRecursion IsEntry l.entries;
  rise : Rise l.first (l.first + l.place) l.entries;
  -- nothing was read yet, or the store was open
  begin : l.place ≡ 0 → l.store ≡ l.fn.store;
  opened : is_closed l.fn.store ≡ true → l.place ≡ 0;
}
