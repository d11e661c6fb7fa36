use Rattle.std.proofs.Common.{rules}
use Rattle.operator_notes.proofs.seat_ports.SeatPorts.port.Goals as goal

pub returns : goal.returns
returns c = search rules
