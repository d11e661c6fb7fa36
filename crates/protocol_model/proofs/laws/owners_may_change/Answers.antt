use Rattle.protocol_model.proofs.Widening.{run_widens}
use Rattle.protocol_model.proofs.laws.owners_may_change.Goals as goal

pub returns : goal.returns
returns c = λ dealer own n first last more run. run_widens dealer own n first last more run
