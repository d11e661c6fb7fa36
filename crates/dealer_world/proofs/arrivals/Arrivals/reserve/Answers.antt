use Rattle.std.proofs.Common.{rules}
use Rattle.dealer_world.proofs.arrivals.Arrivals.reserve.Goals as goal

pub returns-clause-arrival_room : goal.returns-clause-arrival_room
returns-clause-arrival_room c = search rules
