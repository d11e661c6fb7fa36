use Rattle.std.specs.Prelude.{◌≡◌}
use Rattle.node_runs.proofs.Runs.{SoFar}
use Rattle.node_runs.proofs.running.take_turns.Given as goal

abbrev pub invariant-loop-steps : goal.invariant-loop-steps
invariant-loop-steps g l =
    SoFar g.L.LifeKeeper.kept l.fn.teller.port l.fn.server l.fn.first (g.N.Write.contents l.fn.notes) l.fn.lives l.server l.outcome l.steps (g.N.Write.contents l.notes) l.lives l.teller.waiting
    × (l.teller.port ≡ l.fn.teller.port)
