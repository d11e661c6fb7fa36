use Rattle.dealer_world.specs.Viewing.{view_of}
use Rattle.match_runs.specs.SeatLines.{WasNotShownFrom}
use Rattle.match_runs.proofs.seat_lines.was_shown.Given as goal

abbrev pub invariant-loop-number : goal.invariant-loop-number
invariant-loop-number g l = WasNotShownFrom (view_of l.cluster).all l.seat l.line l.number
