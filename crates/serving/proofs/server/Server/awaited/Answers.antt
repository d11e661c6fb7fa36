use Rattle.std.proofs.Common.{rules}
use Rattle.serving.proofs.server.Server.awaited.Goals as goal

pub returns-in-Await : goal.returns-in-Await
returns-in-Await g c = search rules
