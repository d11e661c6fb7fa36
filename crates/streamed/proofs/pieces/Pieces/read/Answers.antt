use Rattle.std.proofs.Common.{rules}
use Rattle.streamed.proofs.pieces.Pieces.read.Goals as goal

pub returns-in-Some-clause-end : goal.returns-in-Some-clause-end
returns-in-Some-clause-end g c = search rules
