use Rattle.std.proofs.Common.{refl}
use Rattle.relay_runs.proofs.Keeping.{kept_to_bot}
use Rattle.relay_runs.proofs.desk.Desk.write_some_to_bot.Goals as goal

pub returns : goal.returns
returns g c = kept_to_bot _ _ _ _ refl refl refl refl refl refl refl refl refl c.write_some.ensures
