use Rattle.std.proofs.Common.{◌≡◌, length}
use Rattle.holdem_table.proofs.store_files.open_stores.Given as goal

abbrev pub invariant-loop-node : goal.invariant-loop-node
invariant-loop-node l = length l.disks.items ≡ l.node
