use Rattle.std.proofs.Common.{rules}
use Rattle.serving.proofs.due.meeting.Goals as goal

pub returns-in-Awaited : goal.returns-in-Awaited
returns-in-Awaited c = search rules
