use Rattle.std.proofs.Common.{◌≡◌, ◌+◌, drop}
use Rattle.learner.specs.Tallies.{skipped}
use Rattle.learner.proofs.tally.skipped.Given as goal

abbrev pub invariant-loop-place : goal.invariant-loop-place
invariant-loop-place l = l.place + skipped l.ballot l.command (drop l.place l.tallies) ≡ skipped l.ballot l.command l.tallies
