use Rattle.seat_session.proofs.Progress.{ready_comes_once}
use Rattle.seat_session.proofs.laws.ready_comes_once.Goals as goal

pub returns : goal.returns
returns c = ready_comes_once
