use Rattle.std.proofs.Common.{rules}
use Rattle.dealer_kind.proofs.config.Config.new.Goals as goal

pub invariant_of-result : goal.invariant_of-result
invariant_of-result c = search rules

pub returns-clause-found : goal.returns-clause-found
returns-clause-found c = search rules
