use Rattle.std.proofs.Common.{ap, ◌*◌}
use Rattle.betting.proofs.Start.{totals-start}
use Rattle.betting.proofs.totals.Totals.new.Goals as goal

pub returns : goal.returns
returns c = totals-start c.args.game.now c.limits.ensures c.blinds.result c.blinds.ensures.places c.blinds.ensures.each c.big_blind-big_blind.result c.players.result c.first_player.result (2 * c.from.result)
    c.big_blind-big_blind.ensures.value c.players.ensures.value c.first_player.ensures.value (ap (λ n. 2 * n) c.from.ensures)
