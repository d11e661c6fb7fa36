use Rattle.std.proofs.Common.{rules}
use Rattle.seat_session.proofs.line_buffer.LineBuffer.feed_reserved.Goals as goal

pub returns-clause-waiting : goal.returns-clause-waiting
returns-clause-waiting c = search rules
