use Rattle.std.proofs.Common.{◌≡◌, ◌+◌, ◌*◌, ◌≤◌, ◌++◌, map, length}
use Rattle.node_rules.specs.Sending.{to_first}
use Rattle.paxos_wire.specs.Fits.{most_bytes}
use Rattle.dealer_node.specs.Texts.{byte_total}
use Rattle.dealer_node.specs.Turned.{framed}
use Rattle.dealer_node.specs.Fitting.{AreMessages}
use Rattle.dealer_node.proofs.sending.send_to_others.Given as goal

abbrev pub invariant-loop-to : goal.invariant-loop-to
invariant-loop-to l = record {
  texts : l.frames.texts ≡ l.fn.frames.texts ++ map framed (to_first l.to l.number l.message);
  fits : AreMessages (to_first l.to l.number l.message);
  text_room : l.fn.frames.text_room ≤ l.frames.text_room + l.to;
  byte_room : l.fn.frames.byte_room ≤ l.frames.byte_room + most_bytes l.message * l.to;
  len : length l.frames.texts ≤ length l.fn.frames.texts + l.to;
  size : byte_total l.frames.texts ≤ byte_total l.fn.frames.texts + most_bytes l.message * l.to;
}
