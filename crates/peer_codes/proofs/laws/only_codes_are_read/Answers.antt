use Rattle.peer_codes.proofs.CodeLaws.{covered_is}
use Rattle.peer_codes.proofs.laws.only_codes_are_read.Goals as goal

pub returns : goal.returns
returns c = covered_is
