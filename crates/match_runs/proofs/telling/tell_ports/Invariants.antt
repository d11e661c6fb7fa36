use Rattle.std.proofs.Common.{List, ℕ, length, map, drop}
use Rattle.std.specs.Prelude.{Option}
use Rattle.operator_notes.specs.Notes.{AreNoted, note_line}
use Rattle.match_runs.specs.Notes.{ports_notes}
use Rattle.match_runs.proofs.telling.tell_ports.Given as goal

abbrev pub invariant-loop-seat : goal.invariant-loop-seat
invariant-loop-seat g l = (after : Option (List ℕ))
    → AreNoted (map note_line (ports_notes l.ports (length l.config.sources) l.seat (drop l.seat l.config.setting.names))) (g.W.Write.contents l.notes) after
    → AreNoted (map note_line (ports_notes l.ports (length l.config.sources) 0 l.config.setting.names)) (g.W.Write.contents l.fn.notes) after
