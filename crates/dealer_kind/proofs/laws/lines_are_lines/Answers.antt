use Rattle.dealer_kind.proofs.Holding.{one_meaning}
use Rattle.dealer_kind.proofs.laws.lines_are_lines.Goals as goal

pub returns : goal.returns
returns c = one_meaning
