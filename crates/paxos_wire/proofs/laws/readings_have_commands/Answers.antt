use Rattle.paxos_wire.proofs.Readings.{readings_have_commands}
use Rattle.paxos_wire.proofs.laws.readings_have_commands.Goals as goal

pub returns : goal.returns
returns c = readings_have_commands
