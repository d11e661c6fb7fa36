use Rattle.std.proofs.Common.{◌∙◌}
use Rattle.betting.specs.TotalsInside.{seat_lives}
use Rattle.betting.proofs.Search.{first_cyclic-above, first_cyclic-around}
use Rattle.betting.proofs.totals.Totals.next_live.Goals as goal

pub returns-in-Some : goal.returns-in-Some
returns-in-Some c = first_cyclic-above (seat_lives c.args.game.now c.args.self.now) c.args.game.now.players c.args.start c.in-Some.position (rw c.players.ensures.value at c.in-Some.ensures)

pub returns-in-None : goal.returns-in-None
returns-in-None c = c.first_live-in-None.ensures ∙ first_cyclic-around (seat_lives c.args.game.now c.args.self.now) c.args.game.now.players c.args.start (rw c.players.ensures.value at c.in-None.ensures)
