use Rattle.std.proofs.Common.{rules}
use Rattle.seat_session.proofs.saying.said_by.Goals as goal

pub returns-in-Ready-clause-says : goal.returns-in-Ready-clause-says
returns-in-Ready-clause-says c = search rules
