use Rattle.node_rules.proofs.Shown.{acts_wait, waiting_fits}
use Rattle.node_rules.proofs.laws.acts_wait.Goals as goal

pub returns-clause-calls : goal.returns-clause-calls
returns-clause-calls c = acts_wait c.layers_below.ensures

pub returns-clause-fits : goal.returns-clause-fits
returns-clause-fits c = waiting_fits
