use Rattle.std.proofs.Common.{arith, rules}
use Rattle.std.proofs.lemmas.Grind.{common_steps}
use Rattle.line_cursor.proofs.seat_line.SeatLine.put_cards.Goals as goal

pub returns-clause-text : goal.returns-clause-text
returns-clause-text c = grind (arith, common_steps)

pub returns-clause-len : goal.returns-clause-len
returns-clause-len c = search rules
