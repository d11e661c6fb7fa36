use Rattle.std.proofs.Common.{rules}
use Rattle.serving.proofs.serve_fault.ServeFault.code.Goals as goal

pub returns-in-LinkFailed : goal.returns-in-LinkFailed
returns-in-LinkFailed c = search rules
