use Rattle.std.proofs.Common.{rules}
use Rattle.dealer_kind.proofs.config.Config.game_word.Goals as goal

pub returns-clause-value : goal.returns-clause-value
returns-clause-value c = search rules
