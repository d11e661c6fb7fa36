use Rattle.std.specs.Prelude.{◌≡◌, ◌≤◌}
use Rattle.node_service.specs.Knowing.{sits_below}
use Rattle.node_service.proofs.server.NodeServer.sits_below.Given as goal

abbrev pub invariant-loop-number : goal.invariant-loop-number
invariant-loop-number g l = record { counted : l.count ≡ sits_below l.self l.seat l.now l.number; few : l.count ≤ l.number }
