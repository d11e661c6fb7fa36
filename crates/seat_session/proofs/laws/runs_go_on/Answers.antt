use Rattle.seat_session.proofs.Pieces.{runs_go_on}
use Rattle.seat_session.proofs.laws.runs_go_on.Goals as goal

pub returns : goal.returns
returns c = runs_go_on
