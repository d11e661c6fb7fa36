use Rattle.std.proofs.Common.{rules}
use Rattle.playing.proofs.showing.put_answer.Goals as goal

pub returns-in-Err : goal.returns-in-Err
returns-in-Err c = search rules
