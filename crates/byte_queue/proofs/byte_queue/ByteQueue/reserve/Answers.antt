use Rattle.std.proofs.Common.{rules}
use Rattle.byte_queue.proofs.byte_queue.ByteQueue.reserve.Goals as goal

pub returns-clause-ok : goal.returns-clause-ok
returns-clause-ok c = search rules
