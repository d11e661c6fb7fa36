use Rattle.std.proofs.Common.{◌≤◌, length}
use Rattle.seat_session.specs.Skipped.{Skips}
use Rattle.seat_session.proofs.line_buffer.LineBuffer.skip_lines.Given as goal

abbrev pub invariant-loop-self : goal.invariant-loop-self
invariant-loop-self l = record { skips : Skips l.initial.self.waiting l.self.waiting; room : l.initial.self.room ≤ l.self.room }

abbrev pub decreases-loop-self : goal.decreases-loop-self
decreases-loop-self l = length l.self.waiting
