use Rattle.clockwork.proofs.Sleeping.{waits_awake}
use Rattle.clockwork.proofs.laws.a_node_that_is_behind_waits_awake.Goals as goal

pub returns : goal.returns
returns c = waits_awake c.args._watch.now c.args._lost c.args._now
