use Rattle.std.proofs.Common.{rules}
use Rattle.paxos_wire.proofs.write_frames.encode.Goals as goal

pub returns-clause-frame : goal.returns-clause-frame
returns-clause-frame c = search rules

pub returns-clause-message : goal.returns-clause-message
returns-clause-message c = search rules
