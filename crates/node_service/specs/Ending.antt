-- How a process ends.
use Rattle.std.specs.Prelude.{◌≡◌, ◌⊎◌, ◌||◌, Bool, true, false, Option, Some, None, IfSome, Result, Ok, Err}
use Rattle.slot_log.specs.Dealer.{is_match_over}
use Rattle.dealer_node.specs.Nodes.{Node}
use Rattle.dealer_node.specs.Seeing.{table_in}
use Rattle.dealer_node.specs.Taking.{TakesDown}
use Rattle.dealer_node.specs.declared.fault.NodeFault.{NodeFault}
use Rattle.dealer_node.specs.declared.fault.NodeFault.TheVariants as faults
use Rattle.dealer_world.specs.declared.event.Event.{Event}
use Rattle.dealer_world.specs.declared.event.Event.TheVariants as event
use Rattle.node_service.specs.declared.outcome.Outcome.{Outcome}
use Rattle.node_service.specs.declared.outcome.Outcome.TheVariants as outcome

-- the process goes on, or the match is over: it doesn't end by a fault
abbrev pub is_well : Outcome → Bool
is_well outcome.GoesOn = true
is_well outcome.Over = true
is_well outcome.StoreReplaced = false
is_well outcome.StoreOlder = false
is_well (outcome.Failed fault) = false
is_well outcome.LogFailed = false

-- what is left to do, by what ends a process: its peers are those of another node, a peer keeps another life of its store, it is an older copy, a life couldn't
-- be told, a call was answered by a fault that ends it, its log couldn't be written, or the match is over
abbrev pub outcome_of : (is_foreign is_replaced is_older is_life_lost : Bool) → Option NodeFault → (log_failed is_over : Bool) → Outcome
outcome_of true is_replaced is_older is_life_lost fault log_failed is_over = outcome.Failed faults.Down
outcome_of false true is_older is_life_lost fault log_failed is_over = outcome.StoreReplaced
outcome_of false false true is_life_lost fault log_failed is_over = outcome.StoreOlder
outcome_of false false false true fault log_failed is_over = outcome.Failed faults.OutOfMemory
outcome_of false false false false (Some fault) log_failed is_over = outcome.Failed fault
outcome_of false false false false None true is_over = outcome.LogFailed
outcome_of false false false false None false true = outcome.Over
outcome_of false false false false None false false = outcome.GoesOn

-- it ends by a fault: by one of its node, its log, or a store that was replaced or is an older copy
abbrev pub IsFault : Outcome → Type 0
IsFault outcome.GoesOn = ⊥
IsFault outcome.Over = ⊥
IsFault outcome.StoreReplaced = Unit {0}
IsFault outcome.StoreOlder = Unit {0}
IsFault (outcome.Failed fault) = Unit {0}
IsFault outcome.LogFailed = Unit {0}

-- a call was answered by a fault
abbrev pub IsRefusal : Option (Result (Unit {0}) NodeFault) → Type 0
IsRefusal (Some (Err fault)) = Unit {0}
IsRefusal (Some (Ok done)) = ⊥
IsRefusal None = ⊥

-- a start, or the end of a seat: where it is refused the process ends
abbrev pub is_needed : Event → Bool
is_needed (event.Start node) = true
is_needed (event.Drop node seat) = true
is_needed (event.Stop node pick) = false
is_needed (event.Frame from to bytes) = false
is_needed (event.Line node seat bytes) = false
is_needed (event.Tick node) = false
is_needed (event.Away node) = false
is_needed (event.Connect node seat) = false

-- a call that is answered by this fault takes the node down
abbrev pub takes_down : NodeFault → Bool
takes_down faults.Down = false
takes_down (faults.Store why) = true
takes_down faults.OutOfMemory = false
takes_down faults.Spent = false
takes_down (faults.BadFrame why) = false
takes_down faults.Conflict = true
takes_down faults.NothingToAct = false

-- the fault that ends a process, if there is one, answered a call that was needed, or it took the node down
abbrev pub is_meant : (was_needed : Bool) → Option NodeFault → Bool
is_meant was_needed None = true
is_meant was_needed (Some fault) = was_needed || takes_down fault

-- by this answer to this event the process ends: one that is needed was refused, or the call took the node down
abbrev pub EndsBy : Event → Option (Result (Unit {0}) NodeFault) → Type 0
EndsBy e answer = IsRefusal answer × ((is_needed e ≡ true) ⊎ IfSome answer TakesDown)

-- the fault that ends the process is as before, or the one by which this event was answered now, where it ends by that
abbrev pub IsFaultAfter : Event → Option NodeFault → Option (Result (Unit {0}) NodeFault) → Option NodeFault → Type 0
IsFaultAfter e old answer new = (new ≡ old) ⊎ ((fault : NodeFault) × ((new ≡ Some fault) × ((answer ≡ Some (Err fault)) × EndsBy e answer)))

-- that a call was needed which ends the process was so before, or this event was needed, and was refused
abbrev pub IsNeededAfter : Event → (old : Bool) → Option (Result (Unit {0}) NodeFault) → (new : Bool) → Type 0
IsNeededAfter e old answer new = new ≡ true → (old ≡ true) ⊎ ((is_needed e ≡ true) × IsRefusal answer)

-- by the node's table its match is over
abbrev pub IsOverAt : {D : Type 0} → Node D → Type 0
IsOverAt node = is_match_over (table_in node).game (table_in node).count (table_in node).hands ≡ true
