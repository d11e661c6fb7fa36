use Rattle.dealer_node.proofs.AsOne.{as_one, tells_up}
use Rattle.dealer_node.proofs.laws.seen_as_one.Goals as goal

pub returns-clause-one : goal.returns-clause-one
returns-clause-one g c = as_one g.D.Disk c.journals_have_one_reading.ensures.records

pub returns-clause-up : goal.returns-clause-up
returns-clause-up g c = tells_up g.D.Disk
