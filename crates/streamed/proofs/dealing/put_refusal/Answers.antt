use Rattle.std.proofs.Common.{rules}
use Rattle.streamed.proofs.dealing.put_refusal.Goals as goal

pub returns-in-Illegal : goal.returns-in-Illegal
returns-in-Illegal c = search rules
