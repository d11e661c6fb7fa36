use Rattle.std.proofs.Common.{arith}
use Rattle.std.proofs.lemmas.Grind.{elements}
use Rattle.line_cursor.proofs.seat_line.SeatLine.put_action.Goals as goal

pub returns-clause-text : goal.returns-clause-text
returns-clause-text c = grind (arith, elements)
