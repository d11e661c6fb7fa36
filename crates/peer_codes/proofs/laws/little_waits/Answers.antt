use Rattle.peer_codes.proofs.TellingLaws.{little_waits}
use Rattle.peer_codes.proofs.laws.little_waits.Goals as goal

pub returns : goal.returns
returns c = little_waits
