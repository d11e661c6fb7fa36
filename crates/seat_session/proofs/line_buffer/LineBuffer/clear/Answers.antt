use Rattle.std.proofs.Common.{rules}
use Rattle.seat_session.proofs.line_buffer.LineBuffer.clear.Goals as goal

pub returns-clause-waiting : goal.returns-clause-waiting
returns-clause-waiting c = search rules

pub returns-clause-room : goal.returns-clause-room
returns-clause-room c = search rules
