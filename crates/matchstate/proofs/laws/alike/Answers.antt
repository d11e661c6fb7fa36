use Rattle.matchstate.proofs.Alikeness.{alike_lines}
use Rattle.matchstate.proofs.laws.alike.Goals as goal

pub returns : goal.returns
returns c = alike_lines
