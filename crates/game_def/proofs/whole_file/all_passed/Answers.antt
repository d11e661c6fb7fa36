use Rattle.game_def.specs.WholeFile.{all_passed}
use Rattle.std.proofs.Common.{rules}
use Rattle.game_def.proofs.whole_file.all_passed.Goals as goal

pub returns-in_err-passed : goal.returns-in_err-passed
unfolding all_passed
returns-in_err-passed c = search rules
