use Rattle.std.proofs.Common.{rules}
use Rattle.seat_session.proofs.session_fault.SessionFault.closes.Goals as goal

pub returns-in-BadVersion : goal.returns-in-BadVersion
returns-in-BadVersion c = search rules
