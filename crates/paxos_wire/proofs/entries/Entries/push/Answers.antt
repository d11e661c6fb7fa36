use Rattle.std.proofs.Common.{◌∙◌, ◌<◌, length, arith, length-take, length-set, ap}
use Rattle.paxos_wire.specs.EntriesInside.{blank}
use Rattle.paxos_wire.specs.declared.limits.TheConstants.{WINDOW}
use Rattle.paxos_wire.proofs.Pushing.{rest_after}
use Rattle.paxos_wire.proofs.entries.Entries.push.Goals as goal

pub invariant_of-self : goal.invariant_of-self
invariant_of-self c =
    let room : c.self.inside.count < WINDOW = omega (arith, ap length c.self.view_is, length-take c.self.inside.count c.self.inside.entries, c.self.invariant.places) in
    record {
      places = length-set _ _ _ ∙ c.self.invariant.places;
      most = omega arith;
      rest = rest_after c.self.inside.entries c.self.inside.count c.args.entry blank room c.self.invariant.rest;
    }
