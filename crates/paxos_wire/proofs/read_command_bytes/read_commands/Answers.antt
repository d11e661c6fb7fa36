use Rattle.std.proofs.Common.{◌∷◌, [], arith, length-append}
use Rattle.paxos_wire.proofs.CommandLoop.{goes_on, ends, is_done}
use Rattle.paxos_wire.proofs.read_command_bytes.read_commands.Goals as goal

pub returns-in_default : goal.returns-in_default
returns-in_default c = ends c.loop.room c.args.count c.loop.counter c.loop.rest.now _ c.loop-test.true c.in_default.ensures c.loop.invariant.so_far

pub loop-preserved : goal.loop-preserved
loop-preserved c = record {
  count = rw c.push.ensures (omega (arith, c.loop.invariant.count, length-append c.loop.room (c.in-Some.command ∷ [])));
  so_far = rw c.push.ensures (goes_on c.loop.room c.args.count c.loop.counter c.loop.rest.now c.in-Some.command c.in-Some.after.now _ c.loop-test.true c.in-Some.ensures c.loop.invariant.so_far);
}

pub returns : goal.returns
returns c = is_done c.loop.room c.args.count c.loop.counter c.loop.rest.now _ c.loop-test.false c.loop.invariant.so_far
