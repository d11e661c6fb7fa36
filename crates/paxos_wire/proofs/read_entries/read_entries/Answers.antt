use Rattle.std.proofs.Common.{◌+◌, arith, length-append, [], ◌∷◌}
use Rattle.paxos_wire.specs.declared.limits.TheConstants.{WINDOW}
use Rattle.paxos_wire.proofs.EntryLoop.{goes_on, ends, is_done}
use Rattle.paxos_wire.proofs.read_entries.read_entries.Goals as goal

pub returns-in_default : goal.returns-in_default
returns-in_default c = ends c.args.version c.loop.entries c.args.count c.loop.counter c.loop.from (c.args.slot + WINDOW) c.loop.rest.now _ c.loop-test.true c.in_default.ensures.exact c.loop.invariant.so_far

pub loop-preserved : goal.loop-preserved
loop-preserved c = record {
  count = rw c.push.ensures (omega (arith, c.loop.invariant.count, length-append c.loop.entries (c.in-Some.entry ∷ [])));
  from = omega (arith, c.in-Some.ensures.below);
  so_far = rw c.push.ensures (goes_on c.args.version c.loop.entries c.args.count c.loop.counter c.loop.from (c.args.slot + WINDOW) c.loop.rest.now c.in-Some.entry c.in-Some.after.now _ c.loop-test.true c.in-Some.ensures.exact c.loop.invariant.so_far);
}

pub returns : goal.returns
returns c = is_done c.args.version c.loop.entries c.args.count c.loop.counter c.loop.from (c.args.slot + WINDOW) c.loop.rest.now _ c.loop-test.false c.loop.invariant.so_far
