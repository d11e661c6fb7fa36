use Rattle.std.proofs.Common.{arith}
use Rattle.paxos_wire.specs.declared.limits.TheConstants.{SLOTS}
use Rattle.paxos_wire.specs.Fits.{IsSlot}
use Rattle.paxos_wire.specs.Spelling.{slot_text}
use Rattle.paxos_wire.specs.Reading.{below_at}
use Rattle.paxos_wire.proofs.Numbers.{wide4, below_takes, below_again}
use Rattle.paxos_wire.proofs.Readers.{front_found, front_only}
use Rattle.paxos_wire.proofs.read_records.read_slot.Goals as goal

pub returns-clause-found : goal.returns-clause-found
returns-clause-found c = front_found slot_text IsSlot (below_at 4 SLOTS) c.args.bytes.now c.read_slot.result (λ x read. below_takes 4 SLOTS wide4 c.args.bytes.now x (λ i. omega (arith, c.type_inv.bytes i)) read) c.read_slot.ensures.exact

pub returns-clause-only : goal.returns-clause-only
returns-clause-only c = λ s rest fits is. front_only slot_text IsSlot (below_at 4 SLOTS) c.args.bytes.now c.read_slot.result c.read_slot.ensures.exact s rest (below_again 4 SLOTS s rest fits (omega arith)) is
