use Rattle.seat_session.proofs.Pieces.{whole_lines}
use Rattle.seat_session.proofs.laws.whole_lines.Goals as goal

pub returns : goal.returns
returns c = whole_lines
