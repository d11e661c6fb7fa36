use Rattle.std.proofs.Common.{arith}
use Rattle.paxos_wire.proofs.CommandRuns.{run_found, run_only}
use Rattle.paxos_wire.proofs.read_records.read_commands.Goals as goal

pub returns : goal.returns
returns c =
    let room = c.read_commands.new.room in
    let read = run_found c.args.count c.args.bytes.now room c.read_commands.result (λ i. omega (arith, c.type_inv.bytes i)) c.read_commands.ensures in
    record {
      found = read.found;
      len = read.len;
      range = read.range;
      dealt = read.dealt;
      only = run_only c.args.count c.args.bytes.now room c.read_commands.result c.read_commands.ensures;
      exact = c.read_commands.ensures;
    }
