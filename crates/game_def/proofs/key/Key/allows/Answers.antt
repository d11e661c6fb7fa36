use Rattle.std.proofs.Common.{rules}
use Rattle.game_def.proofs.key.Key.allows.Goals as goal

pub returns-in-Limit : goal.returns-in-Limit
returns-in-Limit c = search rules
