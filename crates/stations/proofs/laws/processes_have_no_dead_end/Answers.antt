use Rattle.stations.proofs.Moving.{processes_have_no_dead_end}
use Rattle.stations.proofs.laws.processes_have_no_dead_end.Goals as goal

pub returns : goal.returns
returns c = processes_have_no_dead_end c.no_dead_end.ensures
