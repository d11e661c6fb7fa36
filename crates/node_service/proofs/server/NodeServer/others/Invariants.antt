use Rattle.std.specs.Prelude.{◌≡◌}
use Rattle.node_service.specs.Knowing.{others_below}
use Rattle.node_service.specs.Others.{listed}
use Rattle.node_service.proofs.server.NodeServer.others.Given as goal

abbrev pub invariant-loop-number : goal.invariant-loop-number
invariant-loop-number g l = listed l.others ≡ others_below l.self l.number
