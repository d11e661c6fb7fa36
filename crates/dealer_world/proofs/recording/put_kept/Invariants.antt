use Rattle.std.proofs.Common.{◌≡◌, ◌++◌, take}
use Rattle.dealer_world.specs.Records.{log_of}
use Rattle.dealer_world.proofs.recording.put_kept.Given as goal

abbrev pub invariant-loop-number : goal.invariant-loop-number
invariant-loop-number l = l.log.items ≡ l.fn.log.items ++ log_of (take l.number l.pieces.pieces) l.of.node l.of.start
