use Rattle.std.proofs.Common.{rules}
use Rattle.playing.proofs.playing.Playing.line.Goals as goal

pub returns : goal.returns
returns c = search rules
