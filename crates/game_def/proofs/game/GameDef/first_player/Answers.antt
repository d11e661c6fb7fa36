use Rattle.std.proofs.Common.{rules}
use Rattle.game_def.proofs.game.GameDef.first_player.Goals as goal

pub returns-clause-value : goal.returns-clause-value
returns-clause-value c = search rules
