use Rattle.peer_codes.proofs.CodeLaws.{covered_again}
use Rattle.peer_codes.proofs.laws.codes_read_back.Goals as goal

pub returns : goal.returns
returns c = covered_again
