use Rattle.std.proofs.Common.{rules}
use Rattle.streamed.proofs.stream.read_piece.Goals as goal

pub returns-in-Interrupted-clause-end : goal.returns-in-Interrupted-clause-end
returns-in-Interrupted-clause-end g c = search rules
