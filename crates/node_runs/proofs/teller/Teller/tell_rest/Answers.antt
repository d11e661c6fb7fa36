use Rattle.std.proofs.Common.{arith}
use Rattle.stations.specs.Looking.{look_of}
use Rattle.node_runs.proofs.Telling.{nothing_rest, next_rest, all_rest}
use Rattle.node_runs.proofs.teller.Teller.tell_rest.Goals as goal

pub loop-group-init : goal.loop-group-init
loop-group-init g c = nothing_rest (look_of c.args.station.now) c.args.self.now.port c.args.self.now.waiting _

pub loop-group-preserved : goal.loop-group-preserved
loop-group-preserved g c =
    next_rest (look_of c.args.station.now) c.args.self.now.port c.args.self.now.waiting c.loop-group.group _ _ _ c.loop-group.invariant c.tell_waiting.ensures.none c.tell_waiting.ensures.some

pub returns : goal.returns
returns g c =
    all_rest (look_of c.args.station.now) c.args.self.now.port c.args.self.now.waiting c.loop-group.group _ _ c.loop-group.invariant
    (λ group least. let past = c.loop-group-test.false in c.groups-group-end.ensures group (omega (arith, past, least)))
