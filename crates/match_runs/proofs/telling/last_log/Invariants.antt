use Rattle.dealer_world.specs.Viewing.{view_of}
use Rattle.match_runs.specs.Score.{HasNoLogFrom}
use Rattle.match_runs.proofs.telling.last_log.Given as goal

abbrev pub invariant-loop-number : goal.invariant-loop-number
invariant-loop-number g l = HasNoLogFrom (view_of l.cluster).all.shown l.number
