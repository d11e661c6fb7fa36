use Rattle.seat_relay.proofs.Nearest.{amount_by_steps}
use Rattle.seat_relay.proofs.mending.amount_of.Goals as goal

pub loop-digit-preserved : goal.loop-digit-preserved
loop-digit-preserved c = amount_by_steps c.args.digits.now c.loop-digit.digit-index c.loop-digit.amount c.saturating_mul.result c.saturating_sub.result c.saturating_add-amount.result c.loop-digit-test.true c.requires c.loop-digit.invariant c.saturating_mul.ensures c.saturating_sub.ensures c.saturating_add-amount.ensures
