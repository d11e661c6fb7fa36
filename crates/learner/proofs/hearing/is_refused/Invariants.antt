use Rattle.std.proofs.Common.{◌≡◌, ◌+◌, drop}
use Rattle.learner.specs.Cells.{learned_by}
use Rattle.learner.specs.CommandRuns.{is_refused}
use Rattle.learner.proofs.hearing.is_refused.Given as goal

abbrev pub invariant-loop-place : goal.invariant-loop-place
invariant-loop-place l =
    is_refused (learned_by l.nodes l.cells l.log.log) l.from l.ballot (l.slot + l.place) (drop l.place l.commands)
    ≡ is_refused (learned_by l.nodes l.cells l.log.log) l.from l.ballot l.slot l.commands
