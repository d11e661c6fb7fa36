use Rattle.seat_session.proofs.Progress.{pieces_add_lines}
use Rattle.seat_session.proofs.laws.pieces_add_lines.Goals as goal

pub returns : goal.returns
returns c = pieces_add_lines
