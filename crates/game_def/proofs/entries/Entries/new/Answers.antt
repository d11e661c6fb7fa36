use Rattle.game_def.proofs.Once.{no_entries}
use Rattle.game_def.proofs.entries.Entries.new.Goals as goal

pub invariant_of-result : goal.invariant_of-result
invariant_of-result c = rw c.new.ensures no_entries
