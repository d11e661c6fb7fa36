use Rattle.clockwork.proofs.Sightings.{only_then, and_then}
use Rattle.clockwork.proofs.laws.a_seat_is_given_up_only_while_it_is_away.Goals as goal

pub returns-clause-only : goal.returns-clause-only
returns-clause-only c = λ looks. only_then looks

pub returns-clause-then : goal.returns-clause-then
returns-clause-then c = λ looks now. and_then looks now
