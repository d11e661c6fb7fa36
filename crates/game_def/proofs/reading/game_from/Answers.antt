use Rattle.game_def.specs.WholeFile.{game_from}
use Rattle.game_def.proofs.Passing.{passing_defines}
use Rattle.std.proofs.Common.{rules}
use Rattle.game_def.proofs.reading.game_from.Goals as goal

pub build-requires : goal.build-requires
unfolding game_from
build-requires c = search (rules, passing_defines)

pub returns : goal.returns
unfolding game_from
returns c = search (rules, passing_defines)
