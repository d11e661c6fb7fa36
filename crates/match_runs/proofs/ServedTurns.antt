-- How serving ends, by the turns that were made and told.
use Rattle.std.proofs.Common.{ℕ, ◌+◌, ◌≤◌, List, map, Ok, Err, inl, arith}
use Rattle.std.specs.Prelude.{Option, is_some}
use Rattle.std.proofs.KnownBytes.{Keeps-refl}
use Rattle.promise_store.specs.declared.disk.Disk.{Ghosts}
use Rattle.dealer_node.specs.Nodes.{Node}
use Rattle.serving.specs.Dues.{IsAwaited}
use Rattle.serving.specs.Served.{Served}
use Rattle.serving.specs.Turned.{Turned}
use Rattle.serving.specs.declared.turn.Turn.{Turn}
use Rattle.serving.specs.declared.turn.Turn.TheVariants as turn
use Rattle.serving.specs.declared.turn.Turn.TheVariants.{Over}
use Rattle.serving.specs.declared.serve_fault.ServeFault.{ServeFault}
use Rattle.operator_notes.specs.Notes.{AreNoted, note_line}
use Rattle.match_runs.specs.Notes.{names_in, first_notes}
use Rattle.match_runs.specs.Score.{TellsScore}
use Rattle.match_runs.specs.Serving.{Turns, IsServed, more}
use Rattle.match_runs.specs.Turning.{waits_after, AreDealt, TellsAfter}
use Rattle.operator_notes.specs.declared.seat_ports.SeatPorts.{SeatPorts}

pub ends_well : {D : Type 0} (g : Ghosts D) (ports : SeatPorts) (first before after : Served (Node D)) (start held between told : Option (List ℕ)) (awaited : Option (ℕ × ℕ)) (count waits : ℕ)
    → IsAwaited g before awaited → Turns g ports first start count waits before held → Turned g before (Ok Over) after
    → AreNoted (map note_line (first_notes waits (names_in before.view) ports awaited)) held between → TellsScore after.view.all.shown between told
    → IsServed g ports first (Ok tt) after start told
ends_well g ports first before after start held between told awaited count waits is turns last noted scored = inl (record {
  count = count;
  waits = waits;
  before = before;
  held = held;
  turns = turns;
  ended = last;
  told = record { awaited = awaited; is_awaited = is; between = between; first = noted; last = scored };
})

pub ends_in_fault : {D : Type 0} (g : Ghosts D) (ports : SeatPorts) (first before after : Served (Node D)) (start held told : Option (List ℕ)) (awaited : Option (ℕ × ℕ)) (count waits : ℕ)
    (why : ServeFault) → IsAwaited g before awaited → Turns g ports first start count waits before held → Turned g before (Err why) after
    → AreNoted (map note_line (first_notes waits (names_in before.view) ports awaited)) held told → IsServed g ports first (Err why) after start told
ends_in_fault g ports first before after start held told awaited count waits why is turns last noted = inl (record {
  count = count;
  waits = waits;
  before = before;
  held = held;
  turns = turns;
  ended = last;
  told = record { awaited = awaited; is_awaited = is; between = told; first = noted; last = Keeps-refl told };
})

-- one turn more, which is told
pub one_more : {D : Type 0} (g : Ghosts D) (ports : SeatPorts) (first before last : Served (Node D)) (start held between told : Option (List ℕ)) (awaited : Option (ℕ × ℕ)) (dealt : List ℕ) (count waits : ℕ)
    (turn : Turn) → IsAwaited g before awaited → AreDealt g before.view dealt → Turns g ports first start count waits before held → Turned g before (Ok turn) last
    → AreNoted (map note_line (first_notes waits (names_in before.view) ports awaited)) held between
    → TellsAfter ports (is_some awaited) dealt (waits_after turn waits) turn last between told → Turns g ports first start (count + 1) (waits_after turn waits) last told
one_more g ports first before last start held between told awaited dealt count waits turn is are turns turned noted after =
    more count waits turn before last held told turns turned (record { awaited = awaited; is_awaited = is; between = between; first = noted; dealt = dealt; are_dealt = are; after = after })

-- no more turns in a row have waited than were made
pub few_waits : (turn : Turn) (waits count : ℕ) → waits ≤ count → waits_after turn waits ≤ count + 1
few_waits (turn.Seated seat node) waits count few = omega arith
few_waits (turn.Delivered frame) waits count few = omega arith
few_waits (turn.Stopped node) waits count few = omega arith
few_waits (turn.Started node) waits count few = omega arith
few_waits (turn.Ticked node) waits count few = omega arith
few_waits (turn.Away seat node) waits count few = omega arith
few_waits (turn.Read seat) waits count few = omega arith
few_waits (turn.Gone seat) waits count few = omega arith
few_waits (turn.Waits seat node) waits count few = omega arith
few_waits turn.Over waits count few = omega arith
