use Rattle.std.proofs.Common.{rules}
use Rattle.game_def.proofs.game.GameDef.players.Goals as goal

pub returns-clause-value : goal.returns-clause-value
returns-clause-value c = search rules

pub returns-clause-least : goal.returns-clause-least
returns-clause-least c = search rules
