use Rattle.std.proofs.Common.{sym, ◌∙◌, arith}
use Rattle.betting.specs.TotalsInside.{seat_lives}
use Rattle.betting.proofs.Counts.{counted_yes, counted_no, counted_fits, count_below-zero}
use Rattle.betting.proofs.totals.Totals.live_count.Goals as goal
use Rattle.betting.proofs.totals.Totals.live_count.Goals.{then-is_live, else-is_live}

pub loop-position-init : goal.loop-position-init
loop-position-init c = sym (count_below-zero (seat_lives c.args.game.now c.args.self.now))

pub overflow_add-count : goal.overflow_add-count
overflow_add-count c = omega (arith, counted_fits (seat_lives c.args.game.now c.args.self.now) c.loop-position.position c.loop-position.count c.loop-position.invariant)

pub loop-position-preserved : goal.loop-position-preserved
loop-position-preserved c = elim c.if-is_live.branch [
  | then-is_live w ↦ w.count-is ∙ counted_yes (seat_lives c.args.game.now c.args.self.now) c.loop-position.position c.loop-position.count c.loop-position.invariant (sym c.is_live.ensures ∙ w.if-is_live.true)
  | else-is_live w ↦ w.count-is ∙ counted_no (seat_lives c.args.game.now c.args.self.now) c.loop-position.position c.loop-position.count c.loop-position.invariant (sym c.is_live.ensures ∙ w.if-is_live.false)
]

pub returns-clause-most : goal.returns-clause-most
returns-clause-most c = omega (arith, counted_fits (seat_lives c.args.game.now c.args.self.now) c.loop-position.position c.loop-position.count c.loop-position.invariant)
