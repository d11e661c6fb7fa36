use Rattle.std.proofs.Common.{arith}
use Rattle.std.proofs.lemmas.Grind.{common_steps}
use Rattle.dealer_world.proofs.recording.put_pieces.Goals as goal

pub loop-reader-preserved : goal.loop-reader-preserved
loop-reader-preserved c = grind (arith, common_steps)
