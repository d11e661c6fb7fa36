use Rattle.paxos_wire.proofs.FrameLaws.{frame_most, single_frame_most, kind_frame_most, run_frame_most}
use Rattle.paxos_wire.proofs.laws.frames_are_short.Goals as goal

pub returns : goal.returns
returns c = record { each = frame_most; single = single_frame_most; kind = kind_frame_most; runs = run_frame_most }
