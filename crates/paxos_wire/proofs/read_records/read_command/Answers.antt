use Rattle.std.proofs.Common.{arith}
use Rattle.paxos_wire.specs.Fits.{IsCommand}
use Rattle.paxos_wire.specs.Spelling.{command_text}
use Rattle.paxos_wire.specs.Reading.{command_at}
use Rattle.paxos_wire.proofs.CommandLaws.{command_takes, command_again}
use Rattle.paxos_wire.proofs.Readers.{front_found, front_only}
use Rattle.paxos_wire.proofs.read_records.read_command.Goals as goal

pub returns-clause-found : goal.returns-clause-found
returns-clause-found c = front_found command_text IsCommand command_at c.args.bytes.now c.read_command.result (λ x read. command_takes c.args.bytes.now x (λ i. omega (arith, c.type_inv.bytes i)) read) c.read_command.ensures

pub returns-clause-only : goal.returns-clause-only
returns-clause-only c = λ b rest fits is. front_only command_text IsCommand command_at c.args.bytes.now c.read_command.result c.read_command.ensures b rest (command_again b rest fits) is
