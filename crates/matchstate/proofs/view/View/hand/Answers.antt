use Rattle.std.proofs.Common.{rules}
use Rattle.matchstate.proofs.view.View.hand.Goals as goal

pub returns : goal.returns
returns c = search rules
