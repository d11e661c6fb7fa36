use Rattle.seat_session.proofs.Pieces.{any_pieces}
use Rattle.seat_session.proofs.laws.any_pieces.Goals as goal

pub returns : goal.returns
returns c = any_pieces
