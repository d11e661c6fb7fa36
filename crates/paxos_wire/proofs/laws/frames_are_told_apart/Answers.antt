use Rattle.paxos_wire.proofs.StreamLaws.{told_apart}
use Rattle.paxos_wire.proofs.laws.frames_are_told_apart.Goals as goal

pub returns : goal.returns
returns c = told_apart
