use Rattle.clockwork.proofs.Later.{comes_in_time}
use Rattle.clockwork.proofs.Catching.{comes_once_fronts_stand}
use Rattle.clockwork.proofs.laws.a_tick_that_is_needed_comes.Goals as goal

pub returns-clause-needed : goal.returns-clause-needed
returns-clause-needed c = comes_in_time c.args.known.now

pub returns-clause-stands : goal.returns-clause-stands
returns-clause-stands c = comes_once_fronts_stand c.args.known.now
