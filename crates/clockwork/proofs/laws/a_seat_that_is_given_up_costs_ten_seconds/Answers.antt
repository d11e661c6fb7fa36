use Rattle.clockwork.proofs.Fairness.{costs_ten_seconds}
use Rattle.clockwork.proofs.Sightings.{counts_on}
use Rattle.clockwork.proofs.laws.a_seat_that_is_given_up_costs_ten_seconds.Goals as goal

pub returns-clause-counted : goal.returns-clause-counted
returns-clause-counted c = λ seat acts seen first. counts_on seat acts seen first

pub returns-clause-cost : goal.returns-clause-cost
returns-clause-cost c = λ patience turns. costs_ten_seconds patience turns
