use Rattle.std.proofs.Common.{rules}
use Rattle.streamed.proofs.log_check.put_verdict.Goals as goal

pub returns-in-Err : goal.returns-in-Err
returns-in-Err c = search rules
