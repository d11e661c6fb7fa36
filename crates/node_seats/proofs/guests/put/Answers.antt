use Rattle.std.proofs.Common.{arith}
use Rattle.node_seats.proofs.Guesting.{heard_begun, begun_beside}
use Rattle.node_seats.proofs.guests.put.Goals as goal

pub returns-then-place-len-clause-heard : goal.returns-then-place-len-clause-heard
returns-then-place-len-clause-heard c = λ old new e. heard_begun c.args.guests.now.items c.args.place c.args.guest old new (omega arith) c.requires e

pub returns-else-place-len-clause-heard : goal.returns-else-place-len-clause-heard
returns-else-place-len-clause-heard c = λ old new e. begun_beside c.args.guests.now.items c.args.place old new (omega arith) e
