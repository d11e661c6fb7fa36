use Rattle.std.proofs.Common.{rules}
use Rattle.promise_store.proofs.memory_disk.passes.Goals as goal

pub returns-in-Some-clause-burnt : goal.returns-in-Some-clause-burnt
returns-in-Some-clause-burnt c = search rules
