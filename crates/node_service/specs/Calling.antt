-- What a process gives to its node.
use Rattle.std.specs.Prelude.{◌≡◌, Bool, true, false, List, [], ◌∷◌, Option, Some, None, Result}
use Rattle.node_wires.specs.Passages.{Passage, Called}
use Rattle.dealer_node.specs.declared.fault.NodeFault.{NodeFault}
use Rattle.dealer_world.specs.declared.event.Event.{Event}
use Rattle.dealer_world.specs.declared.event.Event.TheVariants as event

-- a node that was started or not: it is started once, and never stopped
abbrev pub MayBeGiven : Bool → Event → Type 0
MayBeGiven started (event.Start node) = started ≡ false
MayBeGiven started (event.Stop node pick) = ⊥
MayBeGiven started (event.Frame from to bytes) = Unit {0}
MayBeGiven started (event.Line node seat bytes) = Unit {0}
MayBeGiven started (event.Tick node) = Unit {0}
MayBeGiven started (event.Away node) = Unit {0}
MayBeGiven started (event.Connect node seat) = Unit {0}
MayBeGiven started (event.Drop node seat) = Unit {0}

-- whether a node was started, behind this event
abbrev pub started_by : Event → Bool → Bool
started_by (event.Start node) started = true
started_by (event.Stop node pick) started = started
started_by (event.Frame from to bytes) started = started
started_by (event.Line node seat bytes) started = started
started_by (event.Tick node) started = started
started_by (event.Away node) started = started
started_by (event.Connect node seat) started = started
started_by (event.Drop node seat) started = started

-- behind a call that was answered so; none was made where there is no answer
abbrev pub started_after : Event → Option (Result (Unit {0}) NodeFault) → Bool → Bool
started_after e None started = started
started_after e (Some answer) started = started_by e started

-- what a call leaves at the wires, by whether it was given what it brought
abbrev pub called_if : Bool → List Passage
called_if true = Called ∷ []
called_if false = []
