use Rattle.std.proofs.Common.{rules}
use Rattle.promise_store.proofs.once_disk.passes.Goals as goal

pub returns-in-Some-eq0-clause-burnt : goal.returns-in-Some-eq0-clause-burnt
returns-in-Some-eq0-clause-burnt c = search rules
