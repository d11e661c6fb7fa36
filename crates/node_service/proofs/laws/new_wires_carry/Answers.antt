use Rattle.node_service.proofs.Crossing.{carried_first}
use Rattle.node_service.proofs.laws.new_wires_carry.Goals as goal

pub returns : goal.returns
returns c = carried_first
