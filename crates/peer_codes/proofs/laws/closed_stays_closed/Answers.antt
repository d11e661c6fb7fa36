use Rattle.peer_codes.proofs.HistoryLaws.{closed_stays}
use Rattle.peer_codes.proofs.laws.closed_stays_closed.Goals as goal

pub returns : goal.returns
returns c = closed_stays
