use Rattle.std.proofs.Common.{rules}
use Rattle.seat_session.proofs.session_fault.SessionFault.code.Goals as goal

pub returns-in-Malformed : goal.returns-in-Malformed
returns-in-Malformed c = search rules
