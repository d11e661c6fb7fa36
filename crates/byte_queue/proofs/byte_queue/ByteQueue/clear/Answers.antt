use Rattle.std.proofs.Common.{rules}
use Rattle.byte_queue.proofs.byte_queue.ByteQueue.clear.Goals as goal

pub returns-clause-waiting : goal.returns-clause-waiting
returns-clause-waiting c = search rules
