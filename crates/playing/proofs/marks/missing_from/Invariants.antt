use Rattle.playing.specs.Marks.{AreDelivered}
use Rattle.playing.proofs.marks.missing_from.Given as goal

abbrev pub invariant-loop-place : goal.invariant-loop-place
invariant-loop-place l = AreDelivered l.delivered l.place
