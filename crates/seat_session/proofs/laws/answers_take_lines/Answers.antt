use Rattle.seat_session.proofs.Progress.{answers_take_lines}
use Rattle.seat_session.proofs.laws.answers_take_lines.Goals as goal

pub returns : goal.returns
returns c = answers_take_lines
