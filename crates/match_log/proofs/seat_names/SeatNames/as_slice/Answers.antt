use Rattle.std.proofs.Common.{rules}
use Rattle.match_log.proofs.seat_names.SeatNames.as_slice.Goals as goal

pub returns-clause-value : goal.returns-clause-value
returns-clause-value c = search rules
