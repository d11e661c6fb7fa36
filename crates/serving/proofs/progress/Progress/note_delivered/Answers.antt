use Rattle.std.proofs.Common.{rules}
use Rattle.serving.proofs.progress.Progress.note_delivered.Goals as goal

pub returns : goal.returns
returns c = search rules
