use Rattle.std.proofs.Common.{rules}
use Rattle.promise_store.proofs.medium.Medium.read.Goals as goal

pub returns-clause-bytes : goal.returns-clause-bytes
returns-clause-bytes c = search rules
