use Rattle.std.proofs.Common.{rules}
use Rattle.serving.proofs.progress.Progress.count_commands.Goals as goal

pub returns-clause-counted : goal.returns-clause-counted
returns-clause-counted g c = search rules
