use Rattle.std.proofs.Common.{rules}
use Rattle.line_cursor.proofs.seat_line.has_come_to_showdown.Goals as goal

pub returns-then-finished : goal.returns-then-finished
returns-then-finished c = search rules
