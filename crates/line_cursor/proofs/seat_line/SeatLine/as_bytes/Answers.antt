use Rattle.std.proofs.Common.{rules}
use Rattle.line_cursor.proofs.seat_line.SeatLine.as_bytes.Goals as goal

pub returns-clause-value : goal.returns-clause-value
returns-clause-value c = search rules
