use Rattle.paxos_wire.specs.Spelling.{frame_of}
use Rattle.std.proofs.Common.{rules}
use Rattle.paxos_wire.proofs.count_bytes.frame_len.Goals as goal

pub returns-clause-value : goal.returns-clause-value
unfolding frame_of
returns-clause-value c = search rules
