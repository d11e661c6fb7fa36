use Rattle.peer_codes.proofs.StreamLaws.{told_apart}
use Rattle.peer_codes.proofs.laws.records_are_told_apart.Goals as goal

pub returns : goal.returns
returns c = told_apart
