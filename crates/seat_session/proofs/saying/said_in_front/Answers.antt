use Rattle.std.proofs.Common.{rules}
use Rattle.seat_session.proofs.saying.said_in_front.Goals as goal

pub returns-in-Line-clause-front : goal.returns-in-Line-clause-front
returns-in-Line-clause-front c = search rules
