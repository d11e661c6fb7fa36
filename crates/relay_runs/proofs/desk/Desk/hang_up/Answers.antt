use Rattle.std.proofs.Common.{refl}
use Rattle.relay_runs.proofs.Hearing.{heard_ends}
use Rattle.relay_runs.proofs.Keeping.{kept_ends}
use Rattle.relay_runs.proofs.desk.Desk.hang_up.Goals as goal

pub returns-clause-keeps : goal.returns-clause-keeps
returns-clause-keeps g c = kept_ends _ _ _ _ _ c.ends.ensures c.follows_events.ensures refl refl refl refl refl c.close.ensures refl (heard_ends _ _ _ _ refl c.ends.ensures refl refl refl refl)
