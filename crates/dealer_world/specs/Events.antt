-- Events of a cluster.
use Rattle.std.specs.Prelude.{ℕ, List, [], ◌∷◌}
use Rattle.protocol_model.specs.Stores.{Store}
use Rattle.node_rules.specs.Calls as call
use Rattle.dealer_world.specs.declared.event.Event.{Event}
use Rattle.dealer_world.specs.declared.event.Event.TheVariants as event
use Rattle.dealer_world.specs.Records.{Arrived, Delivered, Came, Connected, Dropped, Ordered}

-- the node to which an event comes
abbrev pub node_of : Event → ℕ
node_of (event.Frame from to bytes) = to
node_of (event.Line node seat bytes) = node
node_of (event.Tick node) = node
node_of (event.Away node) = node
node_of (event.Connect node seat) = node
node_of (event.Drop node seat) = node
node_of (event.Stop node pick) = node
node_of (event.Start node) = node

-- the bytes that it brings
abbrev pub bytes_in : Event → List ℕ
bytes_in (event.Frame from to bytes) = bytes.items
bytes_in (event.Line node seat bytes) = bytes.items
bytes_in (event.Tick node) = []
bytes_in (event.Away node) = []
bytes_in (event.Connect node seat) = []
bytes_in (event.Drop node seat) = []
bytes_in (event.Stop node pick) = []
bytes_in (event.Start node) = []

-- as a call of its node; a start finds this store
abbrev pub call_of : Store → Event → call.Call
call_of found (event.Frame from to bytes) = call.Frame from bytes.items
call_of found (event.Line node seat bytes) = call.Line seat bytes.items
call_of found (event.Tick node) = call.Tick
call_of found (event.Away node) = call.Away
call_of found (event.Connect node seat) = call.Connect seat
call_of found (event.Drop node seat) = call.Drop seat
call_of found (event.Stop node pick) = call.Stop
call_of found (event.Start node) = call.Start found

-- what arrives by it at a node that runs and has this front
abbrev pub brought_by : ℕ → Event → List Arrived
brought_by front (event.Frame from to bytes) = Delivered (record { from = from; to = to; bytes = bytes.items }) ∷ []
brought_by front (event.Line node seat bytes) = Came node seat bytes.items ∷ []
brought_by front (event.Tick node) = []
brought_by front (event.Away node) = Ordered node front ∷ []
brought_by front (event.Connect node seat) = Connected node seat ∷ []
brought_by front (event.Drop node seat) = Dropped node seat ∷ []
brought_by front (event.Stop node pick) = []
brought_by front (event.Start node) = []
