use Rattle.dealer_world.proofs.CaseRuns.{nodes_have_cases, orders_help_runs}
use Rattle.dealer_world.proofs.laws.members_have_cases.Goals as goal

pub returns-clause-each : goal.returns-clause-each
returns-clause-each c = nodes_have_cases c.draws_are_deals.ensures.deal c.members_have_cases.ensures.each

pub returns-clause-orders : goal.returns-clause-orders
returns-clause-orders c = orders_help_runs c.layers_below.ensures c.members_have_cases.ensures.orders
