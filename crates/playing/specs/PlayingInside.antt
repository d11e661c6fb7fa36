-- How a cluster that a script drives is seen, and what an order may name.
use Rattle.std.specs.Prelude.{◌≡◌, ℕ, ◌-◌, ◌<◌, Bool, false, List, ◌++◌, length, replicate}
use Rattle.std.specs.List.{AllByRecursion}
use Rattle.dealer_world.specs.declared.event.Event.{Event}
use Rattle.dealer_world.specs.Events.{brought_by}
use Rattle.dealer_world.specs.Records.{Frame}
use Rattle.dealer_world.specs.Unforged.{IsAmong}
use Rattle.dealer_world.specs.Viewing.{view_of}
use Rattle.play_script.specs.declared.bounds.Bounds.{Bounds}
use Rattle.play_script.specs.declared.order.Order.{Order}
use Rattle.play_script.specs.declared.order.Order.TheVariants.{Tick, Away, Deliver, Flush, Connect, Drop, Line, Stop, Start}
use Rattle.playing.specs.declared.playing.Playing.{Playing}
use Rattle.playing.specs.Playing.{Scene}

-- the marks of so many frames: those that have none yet weren't delivered
abbrev pub marks_of : ℕ → List Bool → List Bool
marks_of count marks = marks ++ replicate (count - length marks) false

abbrev pub scene_of : Playing → Scene
scene_of p = record { cluster = view_of p.cluster; delivered = marks_of (length (view_of p.cluster).all.sent) p.marks }

-- the nodes, seats and frames that an order names are there
abbrev pub IsWithin : Bounds → Order → Type 0
IsWithin bounds (Tick node) = node < bounds.nodes
IsWithin bounds (Away node) = node < bounds.nodes
IsWithin bounds (Deliver number) = number < bounds.frames
IsWithin bounds (Flush most) = Unit {0}
IsWithin bounds (Connect node seat) = (node < bounds.nodes) × (seat < bounds.seats)
IsWithin bounds (Drop node seat) = (node < bounds.nodes) × (seat < bounds.seats)
IsWithin bounds (Line node seat line) = (node < bounds.nodes) × (seat < bounds.seats)
IsWithin bounds (Stop node pick) = node < bounds.nodes
IsWithin bounds (Start node) = node < bounds.nodes

-- the frame that the event brings, where it brings one, is among these; its node's front is nothing to that
abbrev pub BringsSent : List Frame → Event → Type 0
BringsSent sent e = AllByRecursion (IsAmong sent) (brought_by 0 e)
