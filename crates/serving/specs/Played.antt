-- A seat that is played for: how it came to be, and that it stays so and is left alone.
use Rattle.std.specs.Prelude.{◌≡◌, ◌⊎◌, ℕ, List, Option, Some, Result, Ok, Err, slice_get}
use Rattle.std.specs.Option.{ForSome}
use Rattle.promise_store.specs.declared.disk.Disk.{Ghosts}
use Rattle.dealer_node.specs.Nodes.{Node}
use Rattle.dealer_node.specs.declared.fault.NodeFault.TheVariants as fault
use Rattle.dealer_world.specs.declared.event.Event.{Event}
use Rattle.dealer_world.specs.declared.event.Event.TheVariants as event
use Rattle.match_file.specs.declared.absent.Absent.TheVariants.{Play}
use Rattle.serving.specs.declared.place.Place.{Place}
use Rattle.serving.specs.declared.place.Place.TheVariants.{Played}
use Rattle.serving.specs.declared.known.NodeSight.{NodeSight}
use Rattle.serving.specs.declared.known.Repair.{Repair}
use Rattle.serving.specs.declared.due.Due.TheVariants.{Await, Read, Drop}
use Rattle.serving.specs.declared.serve_fault.ServeFault.{ServeFault}
use Rattle.serving.specs.declared.serve_fault.ServeFault.TheVariants as serve
use Rattle.serving.specs.declared.turn.Turn.{Turn}
use Rattle.serving.specs.declared.turn.Turn.TheVariants as turn
use Rattle.serving.specs.Next.{due_by}
use Rattle.serving.specs.Placed.{places_in}
use Rattle.serving.specs.Served.{Served}
use Rattle.serving.specs.Turned.{Turned}

-- it is never awaited, read from or dropped
abbrev pub PlayedAreLeftAlone : Type 0
PlayedAreLeftAlone =
    (nodes : List NodeSight) (places : List Place) (greeted : ℕ) (frame : Option ℕ) (repair : Option Repair) (seat at node : ℕ) → slice_get places seat ≡ Some (Played at)
    → (due_by nodes places greeted frame repair ≡ Await seat node → ⊥) × (due_by nodes places greeted frame repair ≡ Read seat node → ⊥)
    × (due_by nodes places greeted frame repair ≡ Drop seat node → ⊥)

-- an event of this seat: its connection, a piece of what it sent, or that it is dropped
abbrev pub IsOfSeat : ℕ → Event → Type 0
IsOfSeat seat (event.Connect node other) = other ≡ seat
IsOfSeat seat (event.Line node other bytes) = other ≡ seat
IsOfSeat seat (event.Drop node other) = other ≡ seat
IsOfSeat seat (event.Frame from to bytes) = ⊥
IsOfSeat seat (event.Tick node) = ⊥
IsOfSeat seat (event.Away node) = ⊥
IsOfSeat seat (event.Stop node pick) = ⊥
IsOfSeat seat (event.Start node) = ⊥

-- a server plays for this seat
abbrev pub PlaysFor : {N : Type 0} → Served N → ℕ → Type 0
PlaysFor server seat = (node : ℕ) × (slice_get (places_in server.progress.places) seat ≡ Some (Played node))

-- and no event of the seat waits to be given again
abbrev pub LeavesAlone : {N : Type 0} → Served N → ℕ → Type 0
LeavesAlone server seat = ForSome server.waiting (λ waiting. IsOfSeat seat waiting.event → ⊥)

-- another turn may follow: it was answered Ok, or 92
abbrev pub MayFollow : Result Turn ServeFault → Type 0
MayFollow (Ok t) = Unit {0}
MayFollow (Err (serve.Node why)) = why ≡ fault.OutOfMemory
MayFollow (Err serve.LinkFailed) = ⊥
MayFollow (Err serve.LogFailed) = ⊥

module _ {D : Type 0} (g : Ghosts D) where
  -- who is played for behind a turn was so before, or was dropped by it, where absent seats are played for
  abbrev pub PlayedWereDropped : Type 0
  PlayedWereDropped = (old new : Served (Node D)) (t : Turn) (seat : ℕ) → Turned g old (Ok t) new → PlaysFor new seat
      → PlaysFor old seat ⊎ ((t ≡ turn.Gone seat) × (old.progress.absent ≡ Play) × LeavesAlone new seat)

  -- who is played for stays so
  abbrev pub PlayedStaySo : Type 0
  PlayedStaySo = (old new : Served (Node D)) (answer : Result Turn ServeFault) (seat : ℕ) → MayFollow answer → Turned g old answer new
      → PlaysFor old seat → LeavesAlone old seat → PlaysFor new seat × LeavesAlone new seat
