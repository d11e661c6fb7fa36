use Rattle.node_rules.proofs.Shown.{calls_show, down_shows_nothing}
use Rattle.node_rules.proofs.laws.calls_show.Goals as goal

pub returns-clause-calls : goal.returns-clause-calls
returns-clause-calls c = calls_show c.layers_below.ensures

pub returns-clause-down : goal.returns-clause-down
returns-clause-down c = down_shows_nothing c.layers_below.ensures
