use Rattle.std.proofs.Common.{refl}
use Rattle.relay_runs.proofs.Keeping.{kept_read_bot}
use Rattle.relay_runs.proofs.desk.Desk.read_bot.Goals as goal

pub returns : goal.returns
returns g c = kept_read_bot _ _ _ _ refl refl refl refl refl refl refl refl refl c.read_into.ensures
