use Rattle.clockwork.proofs.Fairness.{begins_once, begins_anew}
use Rattle.clockwork.proofs.laws.a_wait_begins_anew_once.Goals as goal

pub returns-clause-once : goal.returns-clause-once
returns-clause-once c = begins_once c.args._place c.args._at c.args._moved c.args._first c.args._now

pub returns-clause-anew : goal.returns-clause-anew
returns-clause-anew c = begins_anew c.args._place c.args._at c.args._moved c.args._now
