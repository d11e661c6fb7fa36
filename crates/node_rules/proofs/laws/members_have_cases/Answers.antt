use Rattle.node_rules.proofs.Cases.{each_has_a_case, orders_help}
use Rattle.node_rules.proofs.laws.members_have_cases.Goals as goal

pub returns-clause-each : goal.returns-clause-each
returns-clause-each c = each_has_a_case

pub returns-clause-orders : goal.returns-clause-orders
returns-clause-orders c = orders_help c.layers_below.ensures
