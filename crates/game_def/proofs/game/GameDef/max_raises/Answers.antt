use Rattle.std.proofs.Common.{rules}
use Rattle.game_def.proofs.game.GameDef.max_raises.Goals as goal

pub returns : goal.returns
returns c = search rules
