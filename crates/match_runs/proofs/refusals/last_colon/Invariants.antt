use Rattle.std.proofs.Common.{drop}
use Rattle.matchstate.specs.Line.{IsField}
use Rattle.match_runs.proofs.refusals.last_colon.Given as goal

abbrev pub invariant-loop-place : goal.invariant-loop-place
invariant-loop-place l = IsField (drop l.place l.text)
