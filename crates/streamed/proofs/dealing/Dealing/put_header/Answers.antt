use Rattle.std.proofs.Common.{rules}
use Rattle.streamed.proofs.dealing.Dealing.put_header.Goals as goal

pub returns-in_ok-header-in-Some-clause-ok : goal.returns-in_ok-header-in-Some-clause-ok
returns-in_ok-header-in-Some-clause-ok c = search rules
