use Rattle.seat_session.proofs.EachLine.{each_line_answered}
use Rattle.seat_session.proofs.laws.each_line_answered.Goals as goal

pub returns : goal.returns
returns c = each_line_answered
