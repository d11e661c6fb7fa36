use Rattle.peer_codes.proofs.StreamLaws.{reading_again}
use Rattle.peer_codes.proofs.laws.records_read_back.Goals as goal

pub returns : goal.returns
returns c = reading_again
