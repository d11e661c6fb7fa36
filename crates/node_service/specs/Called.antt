-- What a process's node did by one call.
use Rattle.std.specs.Prelude.{◌≡◌, ◌⊎◌, ◌∷◌, Option, Some, None, Result, Err, IsErr, IsSome}
use Rattle.promise_store.specs.declared.disk.Disk.{Ghosts}
use Rattle.dealer_node.specs.Nodes.{Node}
use Rattle.dealer_node.specs.Outs.{Told, nothing_told}
use Rattle.dealer_node.specs.Seeing.{runs, front_in}
use Rattle.dealer_node.specs.declared.fault.NodeFault.{NodeFault}
use Rattle.dealer_node.specs.declared.fault.NodeFault.TheVariants.{OutOfMemory}
use Rattle.dealer_world.specs.declared.event.Event.{Event}
use Rattle.stations.specs.Stations.{Look, deed_by}
use Rattle.stations.specs.Looking.{look_of}
use Rattle.node_service.specs.Calling.{started_after}
use Rattle.node_service.specs.Ending.{EndsBy, IsFaultAfter, IsNeededAfter}
use Rattle.node_service.specs.declared.local_node.LocalNode.{LocalNode}

-- the node did one thing more, which is what this event comes to; nothing where no call was made, or there was no memory for it
abbrev pub Did : {D : Type 0} → Event → Option (Result (Unit {0}) NodeFault) → Look (Node D) → Look (Node D) → Type 0
Did e None old new = new ≡ old
Did e (Some answer) old new =
    ((answer ≡ Err OutOfMemory) × (new.deeds ≡ old.deeds)) ⊎ ((told : Told) × ((new.deeds ≡ deed_by (runs old.node) (front_in old.node) e told answer ∷ old.deeds) × (IsErr answer → told ≡ nothing_told)))

-- the event was given to the node, and nothing else; the node counts as started or not by it, the fault that ends its process is noted, and its terms stay
pub record Calls {D : Type 0} {disk : Ghosts D} (e : Event) (answer : Option (Result (Unit {0}) NodeFault)) (old new : LocalNode D disk) : Type 0 where
  pub did : Did e answer (look_of old.station) (look_of new.station)
  pub started : new.is_started ≡ started_after e answer old.is_started
  pub fault : IsFaultAfter e old.fault answer new.fault
  pub needed : IsNeededAfter e old.was_needed answer new.was_needed
  pub ends : EndsBy e answer → IsSome new.fault
  pub terms : new.terms ≡ old.terms
