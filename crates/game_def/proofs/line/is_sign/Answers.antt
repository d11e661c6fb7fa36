use Rattle.std.proofs.Common.{rules}
use Rattle.game_def.proofs.line.is_sign.Goals as goal

pub returns-in_default-2 : goal.returns-in_default-2
returns-in_default-2 c = search rules
