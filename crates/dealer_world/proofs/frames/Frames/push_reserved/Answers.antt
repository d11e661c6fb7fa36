use Rattle.std.proofs.Common.{arith}
use Rattle.std.proofs.lemmas.Grind.{common_steps}
use Rattle.dealer_world.proofs.frames.Frames.push_reserved.Goals as goal

pub returns-clause-frames : goal.returns-clause-frames
returns-clause-frames c = grind (arith, common_steps)
