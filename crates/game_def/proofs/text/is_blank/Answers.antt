use Rattle.std.proofs.Common.{rules}
use Rattle.game_def.proofs.text.is_blank.Goals as goal

pub returns-in_default : goal.returns-in_default
returns-in_default c = search rules
