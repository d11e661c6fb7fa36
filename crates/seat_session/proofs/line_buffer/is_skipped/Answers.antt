use Rattle.std.proofs.Common.{rules}
use Rattle.seat_session.proofs.line_buffer.is_skipped.Goals as goal

pub returns-in_default-2 : goal.returns-in_default-2
returns-in_default-2 c = search rules
