use Rattle.seat_session.proofs.RightLines.{right_lines_act}
use Rattle.seat_session.proofs.laws.right_lines_act.Goals as goal

pub returns : goal.returns
returns c = right_lines_act c.texts_are_answers.ensures
