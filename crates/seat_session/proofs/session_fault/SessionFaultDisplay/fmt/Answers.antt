use Rattle.std.proofs.Common.{rules}
use Rattle.seat_session.proofs.session_fault.SessionFaultDisplay.fmt.Goals as goal

pub returns-in-Malformed-clause-writes : goal.returns-in-Malformed-clause-writes
returns-in-Malformed-clause-writes g c = search rules
