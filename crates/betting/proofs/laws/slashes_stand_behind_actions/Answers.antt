use Rattle.betting.proofs.Slashes.{slashes_stand_behind_actions}
use Rattle.betting.proofs.laws.slashes_stand_behind_actions.Goals as goal

pub returns : goal.returns
returns c = slashes_stand_behind_actions
