use Rattle.std.proofs.Common.{rules}
use Rattle.matchstate.proofs.line.seat_line.Goals as goal

pub seat_line_reserved-requires-clause-room : goal.seat_line_reserved-requires-clause-room
seat_line_reserved-requires-clause-room c = search rules

pub returns-clause-ok : goal.returns-clause-ok
returns-clause-ok c = search rules
