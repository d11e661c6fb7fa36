use Rattle.std.proofs.Common.{◌∙◌, ap}
use Rattle.luck.specs.Means.{parts_of}
use Rattle.luck.proofs.Lucky.{mean_is}
use Rattle.luck.proofs.hand_luck.means.Goals as goal

pub returns-clause-each : goal.returns-clause-each
returns-clause-each c = λ position within.
    mean_is c.args.stakes.now.spent c.args.stakes.now.folded _ c.counted.result c.parts.result position _ within c.counted.ensures.sum (c.parts.ensures.value ∙ ap parts_of c.players.ensures.value) (c.means.ensures.each position within)
