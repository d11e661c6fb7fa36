use Rattle.std.proofs.Common.{rules}
use Rattle.dealer_kind.proofs.source.Source.has_deals.Goals as goal

pub returns-then-len-hands : goal.returns-then-len-hands
returns-then-len-hands c = search rules
