use Rattle.std.proofs.Common.{arith}
use Rattle.node_seats.proofs.Guesting.{heard_given, heard_closed, given_beside}
use Rattle.node_seats.proofs.guests.clear.Goals as goal

pub returns-then-place-len-clause-given : goal.returns-then-place-len-clause-given
returns-then-place-len-clause-given c = λ old new seat e. heard_given c.args.guests.now.items c.args.place seat old new (omega arith) e

pub returns-else-place-len-clause-given : goal.returns-else-place-len-clause-given
returns-else-place-len-clause-given c = λ old new seat e. given_beside c.args.guests.now.items c.args.place seat old new (omega arith) e

pub returns-then-place-len-clause-closed : goal.returns-then-place-len-clause-closed
returns-then-place-len-clause-closed c = λ passed. heard_closed c.args.guests.now.items c.args.place passed (omega arith)
