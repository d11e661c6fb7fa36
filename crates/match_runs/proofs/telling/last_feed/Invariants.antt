use Rattle.std.proofs.Common.{drop}
use Rattle.streamed.specs.Script.{HasNoFeed}
use Rattle.match_runs.proofs.telling.last_feed.Given as goal

abbrev pub invariant-loop-place : goal.invariant-loop-place
invariant-loop-place l = HasNoFeed (drop l.place l.bytes)
