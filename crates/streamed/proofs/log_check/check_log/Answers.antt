use Rattle.std.proofs.Common.{rules}
use Rattle.streamed.proofs.log_check.check_log.Goals as goal

pub returns-in-Ok : goal.returns-in-Ok
returns-in-Ok g c = search rules
