use Rattle.std.proofs.Common.{rules}
use Rattle.promise_store.proofs.held.Held.find.Goals as goal

pub returns : goal.returns
returns c = search rules
