use Rattle.node_rules.proofs.Ways.{no_dead_end, most_is_unpromised, calm_is_movable}
use Rattle.node_rules.proofs.laws.no_dead_end.Goals as goal

pub returns-clause-ways : goal.returns-clause-ways
returns-clause-ways c = no_dead_end c.layers_below.ensures

pub returns-clause-most : goal.returns-clause-most
returns-clause-most c = most_is_unpromised

pub returns-clause-calm : goal.returns-clause-calm
returns-clause-calm c = calm_is_movable
