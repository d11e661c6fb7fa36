use Rattle.std.proofs.Common.{rules}
use Rattle.streamed.proofs.pieces.Pieces.new.Goals as goal

pub returns-clause-left : goal.returns-clause-left
returns-clause-left c = search rules
