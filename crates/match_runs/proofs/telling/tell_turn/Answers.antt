use Rattle.std.proofs.Common.{rules}
use Rattle.match_runs.proofs.telling.tell_turn.Goals as goal

pub returns-in-Gone : goal.returns-in-Gone
returns-in-Gone g c = search rules
