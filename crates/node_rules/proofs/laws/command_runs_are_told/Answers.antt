use Rattle.node_rules.proofs.Counted.{command_runs_are_told}
use Rattle.node_rules.proofs.laws.command_runs_are_told.Goals as goal

pub returns : goal.returns
returns c = command_runs_are_told c.layers_below.ensures
