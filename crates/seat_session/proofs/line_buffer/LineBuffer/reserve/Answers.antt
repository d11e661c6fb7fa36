use Rattle.std.proofs.Common.{rules}
use Rattle.seat_session.proofs.line_buffer.LineBuffer.reserve.Goals as goal

pub returns-clause-ok : goal.returns-clause-ok
returns-clause-ok c = search rules
