use Rattle.std.proofs.Common.{rules}
use Rattle.streamed.proofs.log_check.check_run.Goals as goal

pub returns-in-Err : goal.returns-in-Err
returns-in-Err g c = search rules
