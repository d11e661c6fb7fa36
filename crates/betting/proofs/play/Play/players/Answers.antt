use Rattle.std.proofs.Common.{rules}
use Rattle.betting.proofs.play.Play.players.Goals as goal

pub returns-clause-value : goal.returns-clause-value
returns-clause-value c = search rules
