use Rattle.paxos_wire.proofs.FrameLaws.{frame_again}
use Rattle.paxos_wire.proofs.laws.frames_read_back.Goals as goal

pub returns : goal.returns
returns c = frame_again
