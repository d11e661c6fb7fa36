use Rattle.dealer_kind.proofs.Counts.{three_nodes, few_nodes, odd_nodes}
use Rattle.dealer_kind.proofs.laws.nodes_are_few_and_odd.Goals as goal

pub returns-clause-least : goal.returns-clause-least
returns-clause-least c = three_nodes

pub returns-clause-most : goal.returns-clause-most
returns-clause-most c = few_nodes

pub returns-clause-odd : goal.returns-clause-odd
returns-clause-odd c = odd_nodes
