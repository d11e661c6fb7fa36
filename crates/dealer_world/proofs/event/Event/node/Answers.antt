use Rattle.std.proofs.Common.{rules}
use Rattle.dealer_world.proofs.event.Event.node.Goals as goal

pub returns-in-Frame : goal.returns-in-Frame
returns-in-Frame c = search rules
