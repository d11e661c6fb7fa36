-- How what a server knows goes on.
use Rattle.std.specs.Prelude.{◌≡◌, ◌⊎◌, ℕ, ◌+◌, ◌-◌, ◌^◌, ◌==◌, min, not, ◌&&◌, ◌||◌, if◌then◌else◌, Bool, true, false, List, length, map, set, slice_get, slice_index, Option, Some}
use Rattle.std.proofs.Common.{get_or}
use Rattle.std.specs.List.{list_any}
use Rattle.promise_store.specs.declared.disk.Disk.{Ghosts}
use Rattle.seat_session.specs.Fault.{closes as closes_session}
use Rattle.dealer_node.specs.declared.seat_fault.SeatFault.{SeatFault}
use Rattle.dealer_node.specs.Nodes.{Node}
use Rattle.dealer_world.specs.declared.event.Event.{Event}
use Rattle.dealer_world.specs.declared.event.Event.TheVariants as event
use Rattle.dealer_world.specs.Stepping.{View}
use Rattle.match_links.specs.declared.limits.TheConstants.{NODES}
use Rattle.serving.specs.declared.known.NodeSight.{NodeSight}
use Rattle.serving.specs.declared.known.Repair.TheVariants as repair
use Rattle.serving.specs.declared.progress.Progress.{Progress}
use Rattle.serving.specs.declared.place.Place.{Place}
use Rattle.serving.specs.declared.place.Place.TheVariants.{Seated, Leaving}
use Rattle.serving.specs.declared.turn.Turn.{Turn}
use Rattle.serving.specs.declared.turn.Turn.TheVariants as turn
use Rattle.match_file.specs.declared.outage.Outage.{Outage}
use Rattle.match_links.specs.Passages.{Passage}
use Rattle.serving.specs.Giving.{MissesALine}
use Rattle.serving.specs.Lowest.{IsCounted}
use Rattle.serving.specs.Next.{running_from}
use Rattle.serving.specs.Outing.{outages_in}
use Rattle.serving.specs.Placed.{places_in}
use Rattle.serving.specs.Placing.{moved, dropped_at}
use Rattle.serving.specs.Repairs.{repair_after, greeted_after}
use Rattle.serving.specs.Sights.{AreSights}

-- how many frames were delivered after this turn: each once, in the order of sending, since a turn delivers the next one alone
abbrev pub delivered_after : Turn → ℕ → ℕ
delivered_after (turn.Delivered number) before = min (number + 1) (2 ^ 64 - 1)
delivered_after other before = before

abbrev pub greeted_by : Turn → ℕ → ℕ
greeted_by (turn.Read seat) before = greeted_after seat before
greeted_by (turn.Gone seat) before = greeted_after seat before
greeted_by other before = before

-- the piece that was read last, after an event was given: that of a line
abbrev pub piece_after : Event → List ℕ → List ℕ
piece_after (event.Line node seat bytes) before = bytes.items
piece_after other before = before

-- what changes at a stop alone is left out: the outages, what is done about absent seats, the count of commands, who was greeted, whose store failed
pub record IsSame (old new : Progress) : Type 0 where
  pub outages : new.outages ≡ old.outages
  pub absent : new.absent ≡ old.absent
  pub greeted : new.greeted ≡ old.greeted
  pub count : new.count ≡ old.count
  pub failed : new.failed ≡ old.failed

-- nothing but seats' places changes
pub record IsKept (old new : Progress) : Type 0 where
  pub same : IsSame old new
  pub delivered : new.delivered ≡ old.delivered
  pub repair : new.repair ≡ old.repair

-- a seat that had a connection to a node leaves there, since it wasn't told each of these lines
abbrev pub LeavesThere : List Passage → List Passage → ℕ → Option Place → Option Place → Type 0
LeavesThere lines given seat old new = (node : ℕ) × (old ≡ Some (Seated node)) × (new ≡ Some (Leaving node)) × MissesALine node seat lines given

-- of these lines so much was given: each seat is where it was, or had a connection, wasn't told each of its lines there, and leaves
abbrev pub OnlyLeave : List Passage → List Passage → List Place → List Place → Type 0
OnlyLeave lines given old new = (seat : ℕ) → (slice_get new seat ≡ slice_get old seat) ⊎ LeavesThere lines given seat (slice_get old seat) (slice_get new seat)

-- the first time that a node's store fails, the node is to be stopped and started; the second time nothing changes
pub data AsksRepair (old : Progress) (node : ℕ) : Bool → Progress → Type 0 where
  first : (asks : Bool) (new : Progress) → asks ≡ true → get_or old.failed (min node (NODES - 1)) false ≡ false
      → new ≡ record old { failed = set old.failed (min node (NODES - 1)) true; repair = Some (repair.Stop node) } → AsksRepair old node asks new
  again : (asks : Bool) (new : Progress) → asks ≡ false → get_or old.failed (min node (NODES - 1)) false ≡ true → new ≡ old → AsksRepair old node asks new

-- bytes that end in a line feed
abbrev pub ends_in_line_feed : List ℕ → Bool
ends_in_line_feed bytes = slice_index bytes (length bytes - 1) == 10

-- a fault in what this seat sent closes its session
abbrev pub closes : ℕ → SeatFault → Bool
closes seat found = found.seat == seat && closes_session found.fault

-- a seat leaves after a piece of its bytes: its connection ended behind it, or its session was closed
abbrev pub leaves : ℕ → List ℕ → List SeatFault → Bool
leaves seat bytes faults = not (ends_in_line_feed bytes) || list_any (closes seat) faults

module _ {D : Type 0} (g : Ghosts D) where
  -- the first node that runs behind this one, in cyclic order
  pub record IsNextNode (view : View (Node D)) (outages : List Outage) (count node next : ℕ) : Type 0 where
    pub sights : List NodeSight
    pub seen : AreSights g view.nodes outages count sights
    pub first : next ≡ running_from sights (min (node + 1) 255)

  -- where the seats are after an event: one that came has a connection; one that was dropped is awaited at the next node, or played for from there on, and
  -- so are those of a node that was stopped; one whose connection ended or whose session was closed leaves
  abbrev pub PlacesAfter : View (Node D) → Progress → Event → List Place → List Place → Type 0
  PlacesAfter view progress (event.Connect node seat) old new = new ≡ set old seat (Seated node)
  PlacesAfter view progress (event.Line node seat bytes) old new = new ≡ (if leaves seat bytes.items view.last.faults then set old seat (Leaving node) else old)
  PlacesAfter view progress (event.Drop node seat) old new =
      (next : ℕ) × IsNextNode view (outages_in progress.outages) progress.count node next × (new ≡ dropped_at progress.absent next old seat)
  PlacesAfter view progress (event.Stop node pick) old new =
      (next : ℕ) × IsNextNode view (outages_in progress.outages) progress.count node next × (new ≡ map (moved node next) old)
  PlacesAfter view progress (event.Frame from to bytes) old new = new ≡ old
  PlacesAfter view progress (event.Tick node) old new = new ≡ old
  PlacesAfter view progress (event.Away node) old new = new ≡ old
  PlacesAfter view progress (event.Start node) old new = new ≡ old

  -- what is known after an event was given to the cluster, which is as it is seen now
  pub record Settled (view : View (Node D)) (e : Event) (t : Turn) (old new : Progress) : Type 0 where
    pub outages : new.outages ≡ old.outages
    pub absent : new.absent ≡ old.absent
    pub failed : new.failed ≡ old.failed
    pub counted : IsCounted g view.nodes old.count new.count
    pub delivered : new.delivered ≡ delivered_after t old.delivered
    pub greeted : new.greeted ≡ greeted_by t old.greeted
    pub repair : new.repair ≡ repair_after t old.repair
    pub places : PlacesAfter view new e (places_in old.places) (places_in new.places)
