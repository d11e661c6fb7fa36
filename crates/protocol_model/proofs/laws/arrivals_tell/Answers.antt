-- By induction on the run.
use Rattle.protocol_model.proofs.Hearing.{world_hears, world_in_order}
use Rattle.protocol_model.proofs.laws.arrivals_tell.Goals as goal

pub returns-clause-heard : goal.returns-clause-heard
returns-clause-heard c dealer n i seat world reached = world_hears dealer n world i seat reached

pub returns-clause-in_order : goal.returns-clause-in_order
returns-clause-in_order c = world_in_order
