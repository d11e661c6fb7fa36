use Rattle.luck.proofs.Dividing.{deals_divide_parts}
use Rattle.luck.proofs.laws.deals_divide_parts.Goals as goal

pub returns : goal.returns
returns c = deals_divide_parts
