use Rattle.std.proofs.Common.{sym, ◌∙◌, arith, refl}
use Rattle.betting.specs.TotalsInside.{seat_stays}
use Rattle.betting.proofs.Counts.{counted_yes, counted_no, counted_fits, count_below-zero}
use Rattle.betting.proofs.totals.Totals.unfolded_count.Goals as goal
use Rattle.betting.proofs.totals.Totals.unfolded_count.Goals.{then-not-self-position, else-not-self-position}

pub loop-position-init : goal.loop-position-init
loop-position-init c = sym (count_below-zero (seat_stays c.args.self.now))

pub overflow_add-count : goal.overflow_add-count
overflow_add-count c = omega (arith, counted_fits (seat_stays c.args.self.now) c.loop-position.position c.loop-position.count c.loop-position.invariant)

pub loop-position-preserved : goal.loop-position-preserved
loop-position-preserved c = elim c.if-not-self-position.branch [
  | then-not-self-position w ↦ w.count-is ∙ counted_yes (seat_stays c.args.self.now) c.loop-position.position c.loop-position.count c.loop-position.invariant (rw w.if-not-self-position.true refl)
  | else-not-self-position w ↦ w.count-is ∙ counted_no (seat_stays c.args.self.now) c.loop-position.position c.loop-position.count c.loop-position.invariant (rw w.if-not-self-position.false refl)
]
