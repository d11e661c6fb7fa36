use Rattle.std.proofs.Common.{rules}
use Rattle.streamed.proofs.ending.EndingFromStop.from.Goals as goal

pub returns-in-StreamFailed : goal.returns-in-StreamFailed
returns-in-StreamFailed c = search rules
