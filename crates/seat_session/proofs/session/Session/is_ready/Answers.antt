use Rattle.std.proofs.Common.{rules}
use Rattle.seat_session.proofs.session.Session.is_ready.Goals as goal

pub returns-in-Ready : goal.returns-in-Ready
returns-in-Ready c = search rules
