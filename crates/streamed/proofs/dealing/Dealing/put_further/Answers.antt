use Rattle.std.proofs.Common.{rules}
use Rattle.streamed.proofs.dealing.Dealing.put_further.Goals as goal

pub returns-clause-ok : goal.returns-clause-ok
returns-clause-ok c = search rules
