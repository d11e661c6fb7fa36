use Rattle.dealer_world.specs.Viewing.{view_of}
use Rattle.match_runs.specs.SeatLines.{HasNoLineFrom}
use Rattle.match_runs.proofs.seat_lines.newest_line.Given as goal

abbrev pub invariant-loop-number : goal.invariant-loop-number
invariant-loop-number g l = HasNoLineFrom (view_of l.cluster).all l.seat l.node l.number
