use Rattle.peer_codes.proofs.StreamLaws.{not_partial}
use Rattle.peer_codes.proofs.laws.records_are_whole.Goals as goal

pub returns : goal.returns
returns c = not_partial
