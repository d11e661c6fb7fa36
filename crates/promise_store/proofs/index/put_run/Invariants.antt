use Rattle.std.proofs.Common.{◌≡◌, ◌≤◌, ◌+◌, ℕ, Option, take}
use Rattle.std.specs.Vec.{vec_len, vec_capacity}
use Rattle.paxos_wire.specs.Fits.{IsBallot}
use Rattle.promise_store.specs.Index.{Rise, found}
use Rattle.promise_store.specs.Ranges.{AreInRange}
use Rattle.promise_store.specs.Holding.{Kept, placed_of, with_votes}
use Rattle.promise_store.proofs.Indexed.{behind_all}
use Rattle.promise_store.proofs.index.put_run.Given as goal

abbrev pub invariant-loop-command : goal.invariant-loop-command
invariant-loop-command l = record {
  rising : Rise 0 l.entries.items;
  capacity : vec_capacity l.entries ≡ vec_capacity l.initial.entries;
  len : vec_len l.entries ≤ vec_len l.initial.entries + l.command-index;
  here : l.placed ≡ behind_all l.fn.first (take l.command-index l.commands);
  found : (held : ℕ → Option Kept) → ((slot : ℕ) → found slot l.initial.entries.items ≡ placed_of (held slot))
      → (slot : ℕ) → found slot l.entries.items ≡ placed_of (with_votes l.fn.first (take l.command-index l.commands) held slot);
  range : IsBallot l.fn.first.ballot → AreInRange l.initial.entries.items → AreInRange l.entries.items;
}
