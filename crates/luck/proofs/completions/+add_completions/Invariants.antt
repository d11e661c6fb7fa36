use Rattle.std.proofs.Common.{length}
use Rattle.luck.proofs.completions.+add_completions.Given as goal

abbrev pub decreases-add_completions : goal.decreases-add_completions
decreases-add_completions l = length l.others.now
