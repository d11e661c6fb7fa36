use Rattle.std.proofs.Common.{arith}
use Rattle.std.proofs.lemmas.Grind.{common_steps}
use Rattle.playing.proofs.showing.put_pieces.Goals as goal

pub loop-reader-preserved : goal.loop-reader-preserved
loop-reader-preserved c = grind (arith, common_steps)
