use Rattle.std.proofs.lemmas.Grind.{elements}
use Rattle.std.proofs.Common.{arith}
use Rattle.byte_queue.proofs.byte_queue.ByteQueue.waiting.Goals as goal

pub returns : goal.returns
returns c = grind (arith, elements)
