use Rattle.std.proofs.Common.{rules}
use Rattle.seat_session.proofs.version.is_version.Goals as goal

pub returns-in-None : goal.returns-in-None
returns-in-None c = search rules
