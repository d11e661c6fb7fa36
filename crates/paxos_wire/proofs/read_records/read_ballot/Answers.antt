use Rattle.std.proofs.Common.{arith}
use Rattle.paxos_wire.specs.Spelling.{ballot_text}
use Rattle.paxos_wire.specs.Reading.{ballot_at}
use Rattle.paxos_wire.proofs.CommandLaws.{IsBallotIn, ballot_takes, ballot_again}
use Rattle.paxos_wire.proofs.Readers.{front_found, front_only, ballot_found}
use Rattle.paxos_wire.proofs.read_records.read_ballot.Goals as goal

pub returns-clause-found : goal.returns-clause-found
returns-clause-found c = ballot_found c.args.version c.args.bytes.now c.read_ballot.result
    (front_found ballot_text (IsBallotIn c.args.version) (ballot_at c.args.version) c.args.bytes.now c.read_ballot.result (λ x read. ballot_takes c.args.version c.args.bytes.now x (λ i. omega (arith, c.type_inv.bytes i)) read) c.read_ballot.ensures)

pub returns-clause-only : goal.returns-clause-only
returns-clause-only c = λ b rest fits node is. front_only ballot_text (IsBallotIn c.args.version) (ballot_at c.args.version) c.args.bytes.now c.read_ballot.result c.read_ballot.ensures b rest (ballot_again c.args.version b rest fits node) is
