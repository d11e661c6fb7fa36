use Rattle.node_service.proofs.Going.{on}
use Rattle.node_service.proofs.laws.turns_are_one.Goals as goal

pub returns : goal.returns
returns g c = λ taken one two three first then_on. on first then_on
