use Rattle.std.proofs.Common.{rules}
use Rattle.betting.proofs.play.Play.folded.Goals as goal

pub returns : goal.returns
returns c = search rules
