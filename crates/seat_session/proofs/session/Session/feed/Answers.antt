use Rattle.std.proofs.Common.{rules}
use Rattle.seat_session.proofs.session.Session.feed.Goals as goal

pub returns-clause-ok : goal.returns-clause-ok
returns-clause-ok c = search rules
