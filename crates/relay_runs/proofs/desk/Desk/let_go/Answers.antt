use Rattle.std.proofs.Common.{refl}
use Rattle.relay_runs.proofs.Keeping.{kept_closed}
use Rattle.relay_runs.proofs.desk.Desk.let_go.Goals as goal

pub returns-clause-keeps : goal.returns-clause-keeps
returns-clause-keeps g c = kept_closed _ _ _ _ refl refl refl refl refl refl refl refl refl refl c.close.ensures
