use Rattle.std.proofs.Common.{rules}
use Rattle.game_def.proofs.whole_file.greatest_blind.Goals as goal

pub returns-in-Some : goal.returns-in-Some
returns-in-Some c = search rules
