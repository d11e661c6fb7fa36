use Rattle.std.proofs.Common.{rules}
use Rattle.streamed.proofs.pieces.Pieces.bytes.Goals as goal

pub returns : goal.returns
returns c = search rules
