use Rattle.match_log.proofs.Growing.{logs_grow}
use Rattle.match_log.proofs.laws.logs_grow.Goals as goal

pub returns : goal.returns
returns c = logs_grow
