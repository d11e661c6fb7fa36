use Rattle.std.proofs.Common.{rules}
use Rattle.promise_store.proofs.medium.Medium.len.Goals as goal

pub returns-clause-len : goal.returns-clause-len
returns-clause-len c = search rules
