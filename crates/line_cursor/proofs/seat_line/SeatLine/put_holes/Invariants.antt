use Rattle.std.proofs.Common.{◌≡◌, ◌+◌, ◌*◌, ◌≤◌, ◌++◌, cond, [], length, map}
use Rattle.std.specs.List.{range_with_len}
use Rattle.card_core.specs.Deal.{hole_of}
use Rattle.matchstate.specs.Cards.{holes_text}
use Rattle.matchstate.specs.View.{sees}
use Rattle.line_cursor.proofs.seat_line.SeatLine.put_holes.Given as goal

abbrev pub invariant-loop-position : goal.invariant-loop-position
invariant-loop-position l = record {
  text : l.self ≡ l.fn.self ++ holes_text (map (λ p. cond (sees l.play.game l.play.past l.viewer p) (hole_of l.deal p) []) (range_with_len 0 l.position));
  len : length l.self ≤ length l.fn.self + 5 * l.position;
  few : l.position ≤ 10;
}
