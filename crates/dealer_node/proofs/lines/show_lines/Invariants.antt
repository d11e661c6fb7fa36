use Rattle.std.proofs.Common.{◌≡◌, ◌+◌, ◌*◌, ◌≤◌, ◌++◌, map, drop, length}
use Rattle.dealer_kind.specs.Kind.{Setting}
use Rattle.node_rules.specs.Showing.{seat_lines}
use Rattle.dealer_node.specs.Texts.{byte_total}
use Rattle.dealer_node.specs.Turned.{printed, talks}
use Rattle.dealer_node.proofs.lines.show_lines.Given as goal

abbrev pub invariant-loop-seat : goal.invariant-loop-seat
invariant-loop-seat l = record {
  texts : (setting : Setting) → l.table.game ≡ setting.game
      → l.shown.texts ++ map printed (seat_lines setting l.table.hands l.seat (talks (drop l.seat l.sessions))) ≡ l.fn.shown.texts ++ map printed (seat_lines setting l.table.hands 0 (talks l.sessions));
  text_room : l.fn.shown.text_room ≤ l.shown.text_room + l.seat;
  byte_room : l.fn.shown.byte_room ≤ l.shown.byte_room + 4096 * l.seat;
  len : length l.shown.texts ≤ length l.fn.shown.texts + l.seat;
  size : byte_total l.shown.texts ≤ byte_total l.fn.shown.texts + 4096 * l.seat;
}
