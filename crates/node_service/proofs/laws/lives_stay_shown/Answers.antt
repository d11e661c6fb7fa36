use Rattle.node_service.proofs.Hearing.{shown_on, one_shown}
use Rattle.node_service.proofs.laws.lives_stay_shown.Goals as goal

pub returns : goal.returns
returns c = record { on = shown_on; and_one = one_shown }
