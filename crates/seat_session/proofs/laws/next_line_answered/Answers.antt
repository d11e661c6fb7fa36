use Rattle.seat_session.proofs.EachLine.{next_line_answered}
use Rattle.seat_session.proofs.laws.next_line_answered.Goals as goal

pub returns : goal.returns
returns c = next_line_answered
