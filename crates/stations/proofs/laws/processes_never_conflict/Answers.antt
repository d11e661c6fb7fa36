use Rattle.stations.proofs.Joining.{processes_never_conflict}
use Rattle.stations.proofs.laws.processes_never_conflict.Goals as goal

pub returns : goal.returns
returns c = processes_never_conflict c.runs_never_conflict.ensures
