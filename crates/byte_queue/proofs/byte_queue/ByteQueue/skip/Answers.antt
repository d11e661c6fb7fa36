use Rattle.std.proofs.lemmas.Grind.{elements}
use Rattle.std.proofs.Common.{arith}
use Rattle.byte_queue.proofs.byte_queue.ByteQueue.skip.Goals as goal

pub returns-then-self-gt-KEPT-clause-waiting : goal.returns-then-self-gt-KEPT-clause-waiting
returns-then-self-gt-KEPT-clause-waiting c = grind (arith, elements)
