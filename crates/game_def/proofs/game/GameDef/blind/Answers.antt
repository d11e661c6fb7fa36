use Rattle.game_def.proofs.Amounts.{blind_within}
use Rattle.std.proofs.Common.{rules}
use Rattle.game_def.proofs.game.GameDef.blind.Goals as goal

pub returns-clause-value : goal.returns-clause-value
returns-clause-value c = search (rules, blind_within)
