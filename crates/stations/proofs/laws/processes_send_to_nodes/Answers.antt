use Rattle.stations.proofs.Joining.{processes_send_to_nodes}
use Rattle.stations.proofs.laws.processes_send_to_nodes.Goals as goal

pub returns : goal.returns
returns c = processes_send_to_nodes c.runs_send_to_nodes.ensures
