use Rattle.seat_relay.proofs.Parts.{over_is_the_end}
use Rattle.seat_relay.proofs.laws.over_is_the_end.Goals as goal

pub returns : goal.returns
returns c = over_is_the_end
