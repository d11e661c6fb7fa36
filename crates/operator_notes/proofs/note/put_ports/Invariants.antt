use Rattle.std.proofs.Common.{◌≡◌, ◌++◌}
use Rattle.operator_notes.specs.Notes.{ports_text}
use Rattle.operator_notes.proofs.note.put_ports.Given as goal

abbrev pub invariant-loop-node : goal.invariant-loop-node
invariant-loop-node l = l.out.items ≡ l.fn.out.items ++ ports_text l.ports l.seat l.node
