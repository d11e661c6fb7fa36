use Rattle.relay_runs.proofs.Keeping.{kept_on}
use Rattle.relay_runs.proofs.server.RelayServer.take_bot_line.Goals as goal

pub returns-in_err-saying : goal.returns-in_err-saying
returns-in_err-saying g c = c.take_saying.ensures.stays.kept _

pub returns : goal.returns
returns g c = kept_on _ _ _ _ _ _ (c.take_saying.ensures.stays.kept _) c.take_what.ensures
