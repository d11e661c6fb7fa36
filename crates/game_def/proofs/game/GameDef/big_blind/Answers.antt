use Rattle.game_def.proofs.Amounts.{big_blind_within}
use Rattle.std.proofs.Common.{rules}
use Rattle.game_def.proofs.game.GameDef.big_blind.Goals as goal

pub returns-clause-value : goal.returns-clause-value
returns-clause-value c = search (rules, big_blind_within)

pub returns-clause-least : goal.returns-clause-least
returns-clause-least c = search (rules, big_blind_within)

pub returns-clause-most : goal.returns-clause-most
returns-clause-most c = search (rules, big_blind_within)
