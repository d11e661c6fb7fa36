use Rattle.std.proofs.Common.{rules}
use Rattle.paxos_wire.proofs.fault.FrameFault.code.Goals as goal

pub returns-in-TooLong : goal.returns-in-TooLong
returns-in-TooLong c = search rules
