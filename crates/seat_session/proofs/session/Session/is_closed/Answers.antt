use Rattle.std.proofs.Common.{rules}
use Rattle.seat_session.proofs.session.Session.is_closed.Goals as goal

pub returns-in_default : goal.returns-in_default
returns-in_default c = search rules
