use Rattle.matchstate.proofs.Positions.{seats_have_one_position}
use Rattle.matchstate.proofs.laws.seats_have_one_position.Goals as goal

pub returns : goal.returns
returns c = seats_have_one_position
