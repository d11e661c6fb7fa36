use Rattle.dealer_world.proofs.Conflicts.{runs_send_to_nodes}
use Rattle.dealer_world.proofs.laws.runs_send_to_nodes.Goals as goal

pub returns : goal.returns
returns c = runs_send_to_nodes c.layers_below.ensures
