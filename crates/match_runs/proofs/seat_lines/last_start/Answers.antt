use Rattle.std.proofs.Common.{◌-◌, ap, sym, ◌∙◌}
use Rattle.match_runs.proofs.SeatLines.{counted_starts}
use Rattle.match_runs.proofs.seat_lines.last_start.Goals as goal

pub returns : goal.returns
returns c = c.saturating_sub.ensures ∙ ap (λ n. n - 1) (c.start_count.ensures ∙ sym (counted_starts c.args.starts.now c.args.node))
