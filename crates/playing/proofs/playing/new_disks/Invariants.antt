use Rattle.std.proofs.Common.{◌≡◌, length}
use Rattle.playing.proofs.playing.new_disks.Given as goal

abbrev pub invariant-loop-node : goal.invariant-loop-node
invariant-loop-node l = length l.disks.items ≡ l._node
