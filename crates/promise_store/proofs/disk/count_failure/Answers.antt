use Rattle.std.proofs.Common.{rules}
use Rattle.promise_store.proofs.disk.count_failure.Goals as goal

pub returns-clause-rose : goal.returns-clause-rose
returns-clause-rose c = search rules
