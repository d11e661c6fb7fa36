use Rattle.match_log.proofs.Growing.{begins_with_header}
use Rattle.match_log.proofs.laws.logs_begin_with_their_header.Goals as goal

pub returns : goal.returns
returns c = begins_with_header
