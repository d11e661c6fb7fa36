use Rattle.serving.proofs.Apart.{left_alone}
use Rattle.serving.proofs.laws.played_seats_are_left_alone.Goals as goal

pub returns : goal.returns
returns c = left_alone
