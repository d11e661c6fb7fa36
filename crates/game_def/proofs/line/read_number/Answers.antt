use Rattle.game_def.specs.Reading.{number}
use Rattle.std.proofs.Common.{rules}
use Rattle.game_def.proofs.line.read_number.Goals as goal

pub returns : goal.returns
unfolding number
returns c = search rules
