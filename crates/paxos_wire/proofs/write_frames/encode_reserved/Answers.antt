use Rattle.paxos_wire.specs.Spelling.{frame_of}
use Rattle.std.proofs.Common.{arith}
use Rattle.std.proofs.lemmas.Grind.{common_steps}
use Rattle.paxos_wire.proofs.write_frames.encode_reserved.Goals as goal

pub returns-clause-frame : goal.returns-clause-frame
unfolding frame_of
returns-clause-frame c = grind (arith, common_steps)
