use Rattle.std.specs.Prelude.{ℕ, ◌<◌}
use Rattle.node_service.specs.Meaning.{IsKnownAt}
use Rattle.node_service.proofs.server.NodeServer.is_known_everywhere.Given as goal

abbrev pub invariant-loop-number : goal.invariant-loop-number
invariant-loop-number g l = (k : ℕ) → k < l.number → IsKnownAt l.self l.now k
