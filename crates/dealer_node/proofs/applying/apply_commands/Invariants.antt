use Rattle.std.specs.Prelude.{IfSome}
use Rattle.paxos_wire.specs.Fits.{IsInRange}
use Rattle.std.proofs.Common.{◌≡◌, ◌+◌, ◌*◌, ◌≤◌, List, drop, length}
use Rattle.node_rules.specs.Applying.{Scene, taking_all}
use Rattle.dealer_node.specs.declared.reader.Reader.{Reader}
use Rattle.dealer_node.specs.Texts.{Marked, byte_total}
use Rattle.dealer_node.specs.Turned.{talks}
use Rattle.dealer_node.specs.Scenes.{IsScene}
use Rattle.dealer_node.proofs.Applied.{GoesOn}
use Rattle.dealer_node.proofs.applying.apply_commands.Given as goal

abbrev pub invariant-loop-command : goal.invariant-loop-command
invariant-loop-command l = record {
  scene : (scene : Scene) (before : List (Marked Reader)) → IsScene l.member.setting scene l.fn.table l.fn.pending before l.fn.shown.texts
      → GoesOn l.member.setting (talks l.sessions) (drop l.command-index l.commands) (taking_all l.member.setting (talks l.sessions) l.commands scene) l.table l.pending before l.shown.texts;
  game : l.table.game ≡ l.fn.table.game;
  count : l.table.count ≡ l.fn.table.count;
  room : l.fn.table.room ≤ l.table.room + l.command-index;
  text_room : l.fn.shown.text_room ≤ l.shown.text_room + 11 * l.command-index;
  byte_room : l.fn.shown.byte_room ≤ l.shown.byte_room + 45716 * l.command-index;
  len : length l.shown.texts ≤ length l.fn.shown.texts + 11 * l.command-index;
  act : IfSome l.fn.pending (λ command. IsInRange command) → IfSome l.pending (λ command. IsInRange command);
  size : byte_total l.shown.texts ≤ byte_total l.fn.shown.texts + 45716 * l.command-index;
}
