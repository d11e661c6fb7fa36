use Rattle.std.proofs.Common.{rules}
use Rattle.promise_store.proofs.appending.write_through.Goals as goal

pub returns-clause-written : goal.returns-clause-written
returns-clause-written g c = search rules

pub returns-clause-failed : goal.returns-clause-failed
returns-clause-failed g c = search rules
