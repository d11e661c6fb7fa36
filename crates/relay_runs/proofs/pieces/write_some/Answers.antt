use Rattle.relay_runs.proofs.Writing.{some_written}
use Rattle.relay_runs.proofs.pieces.write_some.Goals as goal

pub returns-in-Ok : goal.returns-in-Ok
returns-in-Ok g c = some_written _ c.in-Ok.count _ _ _ _ _ c.waiting-bytes.ensures c.skip.ensures.waiting c.in-Ok.ensures.wrote
