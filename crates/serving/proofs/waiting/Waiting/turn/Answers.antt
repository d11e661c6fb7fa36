use Rattle.std.proofs.Common.{rules}
use Rattle.serving.proofs.waiting.Waiting.turn.Goals as goal

pub returns-in-Line : goal.returns-in-Line
returns-in-Line c = search rules
