use Rattle.std.proofs.Common.{rules}
use Rattle.streamed.proofs.dealing.put_fault.Goals as goal

pub returns-in-Ok : goal.returns-in-Ok
returns-in-Ok c = search rules
