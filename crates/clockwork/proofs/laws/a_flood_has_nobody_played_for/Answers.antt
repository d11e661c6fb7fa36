use Rattle.clockwork.proofs.Fairness.{waits_behind_a_crowd, waited_for_as_ever}
use Rattle.clockwork.proofs.laws.a_flood_has_nobody_played_for.Goals as goal

pub returns-clause-crowded : goal.returns-clause-crowded
returns-clause-crowded c = waits_behind_a_crowd c.args.expected.now

pub returns-clause-others : goal.returns-clause-others
returns-clause-others c = waited_for_as_ever c.args.expected.now
