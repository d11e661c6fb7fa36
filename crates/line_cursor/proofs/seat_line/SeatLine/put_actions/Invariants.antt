use Rattle.std.proofs.Common.{◌≡◌, ◌+◌, ◌*◌, ◌≤◌, ◌++◌, length, take, reverse}
use Rattle.betting.specs.Text.{text}
use Rattle.line_cursor.proofs.seat_line.SeatLine.put_actions.Given as goal

abbrev pub invariant-loop-place : goal.invariant-loop-place
invariant-loop-place l = record {
  text : l.self ≡ l.fn.self ++ text l.game (reverse (take l.place l.actions));
  len : length l.self ≤ length l.fn.self + 14 * l.place;
}
