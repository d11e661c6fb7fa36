use Rattle.std.proofs.Common.{rules}
use Rattle.serving.proofs.progress.Progress.drop_seat.Goals as goal

pub returns-clause-places : goal.returns-clause-places
returns-clause-places g c = search rules
