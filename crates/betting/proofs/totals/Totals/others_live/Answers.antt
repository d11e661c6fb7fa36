use Rattle.std.proofs.Common.{true, sym, ◌∙◌, arith}
use Rattle.betting.specs.TotalsInside.{seat_lives}
use Rattle.betting.proofs.Counts.{count_below-covers}
use Rattle.betting.proofs.totals.Totals.others_live.Goals as goal

pub overflow_sub-result : goal.overflow_sub-result
overflow_sub-result c = omega (arith, c.live_count-live.ensures.value, count_below-covers (seat_lives c.args.game.now c.args.self.now) c.args.game.now.players c.args.position true c.requires.seat (sym c.is_live.ensures ∙ c.if-is_live.true))
