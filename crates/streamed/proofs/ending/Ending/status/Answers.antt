use Rattle.std.proofs.Common.{rules}
use Rattle.streamed.proofs.ending.Ending.status.Goals as goal

pub returns-in-SaidNo : goal.returns-in-SaidNo
returns-in-SaidNo c = search rules
