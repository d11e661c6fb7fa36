use Rattle.std.proofs.Common.{rules}
use Rattle.match_log.proofs.seat_names.SeatNames.read.Goals as goal

pub returns-clause-found : goal.returns-clause-found
returns-clause-found c = search rules

pub returns-clause-names : goal.returns-clause-names
returns-clause-names c = search rules

pub returns-clause-only : goal.returns-clause-only
returns-clause-only c = search rules
