use Rattle.std.proofs.Common.{arith}
use Rattle.std.proofs.lemmas.Grind.{elements}
use Rattle.matchstate.proofs.betting_field.newest_play.Goals as goal

pub returns : goal.returns
returns c = grind (arith, elements)
