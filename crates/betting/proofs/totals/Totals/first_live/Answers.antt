use Rattle.std.proofs.Common.{sym, ◌∙◌}
use Rattle.betting.specs.TotalsInside.{seat_lives}
use Rattle.betting.proofs.Search.{found_here, found_later, found_nowhere}
use Rattle.betting.proofs.totals.Totals.first_live.Goals as goal

pub returns-then-is_live : goal.returns-then-is_live
returns-then-is_live c = found_here (seat_lives c.args.game.now c.args.self.now) c.args.from c.loop-position.position c.args.to c.loop-position-test.true c.loop-position.invariant (sym c.is_live.ensures ∙ c.if-is_live.true)

pub loop-position-preserved : goal.loop-position-preserved
loop-position-preserved c = found_later (seat_lives c.args.game.now c.args.self.now) c.args.from c.loop-position.position c.args.to c.loop-position-test.true c.loop-position.invariant (sym c.is_live.ensures ∙ c.if-is_live.false)

pub returns : goal.returns
returns c = found_nowhere (seat_lives c.args.game.now c.args.self.now) c.args.from c.loop-position.position c.args.to c.loop-position-test.false c.loop-position.invariant
