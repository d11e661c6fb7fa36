-- What is told of one turn, by what was told step by step.
use Rattle.std.proofs.Common.{◌≡◌, ℕ, Bool, true, false, List, [], ◌∷◌, map, refl, sym, subst}
use Rattle.std.specs.Prelude.{Option, Some, None, slice_get}
use Rattle.std.proofs.KnownBytes.{Keeps-refl}
use Rattle.dealer_node.specs.declared.fault.NodeFault.{NodeFault}
use Rattle.dealer_world.specs.Stepping.{View}
use Rattle.serving.specs.Served.{Served}
use Rattle.serving.specs.declared.turn.Turn.{Turn}
use Rattle.serving.specs.declared.turn.Turn.TheVariants as turn
use Rattle.operator_notes.specs.declared.note.Note.{Note}
use Rattle.operator_notes.specs.declared.note.Note.TheVariants as note
use Rattle.operator_notes.specs.Notes.{IsNoted, AreNoted, note_line, port_at}
use Rattle.match_runs.specs.Notes.{names_in, awaited_notes, waiting_lines, failure_notes}
use Rattle.match_runs.specs.SeatLines.{HasLine}
use Rattle.match_runs.specs.Turning.{TellsWaiting, TellsDone, TellsCall, TellsAfter}
use Rattle.operator_notes.specs.declared.seat_ports.SeatPorts.{SeatPorts}

-- a seat that is awaited was told
pub awaited_noted : (names : List (List ℕ)) (ports : SeatPorts) (awaited : Option (ℕ × ℕ)) (seat node port : ℕ) (name : List ℕ) (held held_after : Option (List ℕ)) → awaited ≡ Some (seat, node) → slice_get names seat ≡ Some name
    → port ≡ port_at ports node seat → IsNoted (note_line (note.Awaiting seat name node port)) held held_after → AreNoted (map note_line (awaited_notes names ports awaited)) held held_after
awaited_noted names ports awaited seat node port name held held_after is at port_is noted =
    subst (λ (a : Option (ℕ × ℕ)). AreNoted (map note_line (awaited_notes names ports a)) held held_after) (sym is)
    (subst (λ (n : Option (List ℕ)). AreNoted (map note_line (elim n as (λ _. List Note) [ Some name ↦ note.Awaiting seat name node (port_at ports node seat) ∷ [] | None ↦ [] ])) held held_after) (sym at)
    (held_after, subst (λ (p : ℕ). IsNoted (note_line (note.Awaiting seat name node p)) held held_after) port_is noted, Keeps-refl held_after))

-- it was told of a seat that is awaited
pub awaited_told : {N : Type 0} (view : View N) (ports : SeatPorts) (is_awaited : Bool) (seat node : ℕ) (held held_after : Option (List ℕ)) → is_awaited ≡ true
    → AreNoted (waiting_lines (names_in view) ports seat node None) held held_after → TellsWaiting view ports is_awaited seat node held held_after
awaited_told view ports is_awaited seat node held held_after is noted =
    subst (λ (b : Bool). TellsWaiting view ports b seat node held held_after) (sym is) (record { line = None; is_line = refl; noted = noted })

-- and of one that is read from
pub read_told : {N : Type 0} (view : View N) (ports : SeatPorts) (is_awaited : Bool) (seat node : ℕ) (held held_after : Option (List ℕ)) (line : Option (List ℕ)) → is_awaited ≡ false
    → HasLine view.all seat node line → AreNoted (waiting_lines (names_in view) ports seat node line) held held_after → TellsWaiting view ports is_awaited seat node held held_after
read_told view ports is_awaited seat node held held_after line is has noted =
    subst (λ (b : Bool). TellsWaiting view ports b seat node held held_after) (sym is) (record { line = line; is_line = has; noted = noted })

-- a call was told
pub call_told : {N : Type 0} (dealt : List ℕ) (t : Turn) (server : Served N) (view : View N) (node : ℕ) (piece : List ℕ) (refused : Option NodeFault) (held between held_after : Option (List ℕ))
    → view ≡ server.view → node ≡ server.called → piece ≡ server.piece → refused ≡ server.refused → TellsDone view dealt node piece t held between
    → AreNoted (map note_line (failure_notes node refused)) between held_after → TellsCall dealt t server held held_after
call_told {N} dealt t server view node piece refused held between held_after view_is node_is piece_is refused_is done failed = record {
  between = between;
  done = subst (λ (v : View N). TellsDone v dealt server.called server.piece t held between) view_is
      (subst (λ (i : ℕ). TellsDone view dealt i server.piece t held between) node_is (subst (λ (p : List ℕ). TellsDone view dealt node p t held between) piece_is done));
  failed = subst (λ (i : ℕ). AreNoted (map note_line (failure_notes i server.refused)) between held_after) node_is
      (subst (λ (r : Option NodeFault). AreNoted (map note_line (failure_notes node r)) between held_after) refused_is failed);
}

-- a turn that didn't wait called a node, or nothing at all
pub called_after : {N : Type 0} (ports : SeatPorts) (is_awaited : Bool) (dealt : List ℕ) (waits : ℕ) (t : Turn) (new : Served N) (held held_after : Option (List ℕ))
    → ((seat node : ℕ) → t ≡ turn.Waits seat node → ⊥) → TellsCall dealt t new held held_after → TellsAfter ports is_awaited dealt waits t new held held_after
called_after ports is_awaited dealt waits (turn.Seated seat node) new held held_after other told = told
called_after ports is_awaited dealt waits (turn.Delivered frame) new held held_after other told = told
called_after ports is_awaited dealt waits (turn.Stopped node) new held held_after other told = told
called_after ports is_awaited dealt waits (turn.Started node) new held held_after other told = told
called_after ports is_awaited dealt waits (turn.Ticked node) new held held_after other told = told
called_after ports is_awaited dealt waits (turn.Away seat node) new held held_after other told = told
called_after ports is_awaited dealt waits (turn.Read seat) new held held_after other told = told
called_after ports is_awaited dealt waits (turn.Gone seat) new held held_after other told = told
called_after ports is_awaited dealt waits (turn.Waits seat node) new held held_after other told = absurd (other seat node refl)
called_after ports is_awaited dealt waits turn.Over new held held_after other told = told
