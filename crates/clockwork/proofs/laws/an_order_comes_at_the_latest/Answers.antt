use Rattle.clockwork.proofs.Fairness.{at_the_latest, in_turn}
use Rattle.clockwork.proofs.laws.an_order_comes_at_the_latest.Goals as goal

pub returns-clause-latest : goal.returns-clause-latest
returns-clause-latest c = at_the_latest c.args.expected.now

pub returns-clause-turn : goal.returns-clause-turn
returns-clause-turn c = in_turn c.args.expected.now
