use Rattle.paxos_wire.specs.Reading.{deal_at}
use Rattle.std.proofs.Common.{rules}
use Rattle.paxos_wire.proofs.read_command_bytes.read_deal.Goals as goal

pub deal_of-requires : goal.deal_of-requires
unfolding deal_at
deal_of-requires c = search rules

pub returns-in-Some : goal.returns-in-Some
unfolding deal_at
returns-in-Some c = search rules
