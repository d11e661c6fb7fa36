use Rattle.luck.proofs.DealsLaws.{counted_are_deals}
use Rattle.luck.proofs.laws.counted_are_deals.Goals as goal

pub returns : goal.returns
returns c = counted_are_deals
