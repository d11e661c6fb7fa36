use Rattle.std.proofs.Common.{◌∙◌, ap}
use Rattle.match_log.specs.BestFive.{best_worth}
use Rattle.match_log.proofs.BestOfCards.{best_is_best_worth}
use Rattle.luck.proofs.stakes.value.Goals as goal

pub returns : goal.returns
returns c = best_is_best_worth c.seven.result c.best_of_seven.result c.best_of_seven.ensures ∙ ap best_worth c.seven.ensures.value
