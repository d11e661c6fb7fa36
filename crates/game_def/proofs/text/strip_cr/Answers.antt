use Rattle.std.proofs.Common.{rules}
use Rattle.game_def.proofs.text.strip_cr.Goals as goal

pub returns-in-Some-eq13 : goal.returns-in-Some-eq13
returns-in-Some-eq13 c = search rules
