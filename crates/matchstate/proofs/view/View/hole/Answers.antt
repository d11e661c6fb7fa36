use Rattle.std.proofs.Common.{arith}
use Rattle.std.proofs.lemmas.Grind.{common_steps}
use Rattle.matchstate.proofs.view.View.hole.Goals as goal

pub returns-then-position-players : goal.returns-then-position-players
returns-then-position-players c = grind (arith, common_steps)
