use Rattle.seat_relay.proofs.Standing.{first_answers_stand}
use Rattle.seat_relay.proofs.laws.first_answers_stand.Goals as goal

pub returns : goal.returns
returns c = first_answers_stand
