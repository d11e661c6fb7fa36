use Rattle.paxos_wire.proofs.FrameLaws.{old_frame_again}
use Rattle.paxos_wire.proofs.laws.old_frames_read_back.Goals as goal

pub returns : goal.returns
returns c = old_frame_again
