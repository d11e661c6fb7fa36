use Rattle.clockwork.proofs.Sightings.{comes_exactly_then}
use Rattle.clockwork.proofs.laws.a_seat_comes_once_it_was_here.Goals as goal

pub returns : goal.returns
returns c = λ looks. comes_exactly_then looks
