-- A cluster as it is seen, and how events change it.
use Rattle.std.specs.Prelude.{◌≡◌, ◌⊎◌, ℕ, ◌<◌, Bool, true, false, if◌then◌else◌, is_ok, List, [], ◌∷◌, ◌++◌, length, Result, Err, OnOk, IfErr, IsTrue}
use Rattle.std.specs.Coded.{×_prop, le_prop}
use Rattle.std.proofs.Common.{get_or, set}
use Rattle.promise_store.specs.declared.disk.Disk.{Ghosts}
use Rattle.promise_store.specs.declared.fault.StoreFault.{StoreFault}
use Rattle.promise_store.specs.Refusals.{Refuses}
use Rattle.protocol_model.specs.Stores.{Store}
use Rattle.dealer_kind.specs.Plans.{Plan}
use Rattle.node_rules.specs.Standings.{Standing}
use Rattle.dealer_node.specs.Nodes.{Node}
use Rattle.dealer_node.specs.declared.fault.NodeFault.{NodeFault}
use Rattle.dealer_node.specs.declared.fault.NodeFault.TheVariants as fault
use Rattle.dealer_node.specs.Outs.{Told, nothing_told}
use Rattle.dealer_node.specs.Seeing.{head_of, member_in, runs, front_in, IsSeen, bytes_of}
use Rattle.dealer_node.specs.Taking.{Takes, StaysItself, IsOfStart, FindsStore, OpensDisk, StopsBy}
use Rattle.dealer_world.specs.declared.event.Event.{Event}
use Rattle.dealer_world.specs.declared.event.Event.TheVariants as event
use Rattle.dealer_world.specs.Records.{Record, Arrived}
use Rattle.dealer_world.specs.Views.{grown}
use Rattle.dealer_world.specs.Events.{node_of, call_of, brought_by}
use Rattle.dealer_world.specs.Recordings.{made_by}

-- its match, whether it was opened, its nodes, its record, and what the last call made
pub record View (N : Type 0) : Type 0 where
  pub config : Plan
  pub opened : Bool
  pub nodes : List N
  pub all : Record
  pub last : Told

-- the numbers of nodes and seats are below their counts
abbrev pub IsFor : ℕ → ℕ → Event → Type 0
IsFor nodes players (event.Frame from to bytes) = (from < nodes) × (to < nodes)
IsFor nodes players (event.Line node seat bytes) = (node < nodes) × (seat < players)
IsFor nodes players (event.Tick node) = node < nodes
IsFor nodes players (event.Away node) = node < nodes
IsFor nodes players (event.Connect node seat) = (node < nodes) × (seat < players)
IsFor nodes players (event.Drop node seat) = (node < nodes) × (seat < players)
IsFor nodes players (event.Stop node pick) = node < nodes
IsFor nodes players (event.Start node) = node < nodes

-- of which there is one proof at most
pub for_prop : (nodes players : ℕ) (e : Event) → IsProp (IsFor nodes players e)
for_prop nodes players (event.Frame from to bytes) = ×_prop le_prop le_prop
for_prop nodes players (event.Line node seat bytes) = ×_prop le_prop le_prop
for_prop nodes players (event.Tick node) = le_prop
for_prop nodes players (event.Away node) = le_prop
for_prop nodes players (event.Connect node seat) = ×_prop le_prop le_prop
for_prop nodes players (event.Drop node seat) = ×_prop le_prop le_prop
for_prop nodes players (event.Stop node pick) = le_prop
for_prop nodes players (event.Start node) = le_prop

-- what the event brings arrives at a node that runs, which had this front
abbrev pub arrived_by_event : Bool → ℕ → Event → List Arrived
arrived_by_event is_up front e = if is_up then brought_by front e else []

-- a start begins where a node that is down is started
abbrev pub may_begin : Bool → Event → Bool
may_begin is_up (event.Frame from to bytes) = false
may_begin is_up (event.Line node seat bytes) = false
may_begin is_up (event.Tick node) = false
may_begin is_up (event.Away node) = false
may_begin is_up (event.Connect node seat) = false
may_begin is_up (event.Drop node seat) = false
may_begin is_up (event.Stop node pick) = false
may_begin true (event.Start node) = false
may_begin false (event.Start node) = true

-- where the call goes well
abbrev pub begins_by_event : Bool → Event → Result (Unit {0}) NodeFault → Bool
begins_by_event is_up e answer = if is_ok answer then may_begin is_up e else false

module _ {D : Type 0} (g : Ghosts D) where
  -- a start opens its node's disk, or there was no memory to give it; where it is taken, a node that was down runs with the store that the disk has; and
  -- it is refused for want of memory, or for what opening the disk found
  pub record IsStartOf (old new : Node D) (answer : Result (Unit {0}) NodeFault) : Type 0 where
    pub faults : IfErr answer IsOfStart
    pub opens : ((new ≡ old) × (answer ≡ Err fault.OutOfMemory)) ⊎ OpensDisk g old new answer
    pub found : IsTrue g.is_honest → runs old ≡ false → OnOk answer (FindsStore g old new)
    pub refused : IsTrue g.is_honest → (why : StoreFault) → answer ≡ Err (fault.Store why) → Refuses (head_of (member_in old)) (bytes_of g old) why

  -- what starts and stops make of a disk
  abbrev pub MakesOfDisk : Event → Node D → Node D → Result (Unit {0}) NodeFault → Type 0
  MakesOfDisk (event.Frame from to bytes) old new answer = Unit {0}
  MakesOfDisk (event.Line node seat bytes) old new answer = Unit {0}
  MakesOfDisk (event.Tick node) old new answer = Unit {0}
  MakesOfDisk (event.Away node) old new answer = Unit {0}
  MakesOfDisk (event.Connect node seat) old new answer = Unit {0}
  MakesOfDisk (event.Drop node seat) old new answer = Unit {0}
  MakesOfDisk (event.Stop node pick) old new answer = IsTrue g.is_honest → OnOk answer (StopsBy g pick old new)
  MakesOfDisk (event.Start node) old new answer = IsStartOf old new answer

  -- the event was given to a node as the call that it is, and the node made this of it
  pub record IsGiven (e : Event) (old new : Node D) (told : Told) (answer : Result (Unit {0}) NodeFault) : Type 0 where
    pub taken : (s : Standing) → IsTrue g.is_honest → IsSeen g old s → (found : Store) × Takes g (call_of found e) s old new nothing_told told answer
    pub stays : StaysItself g old new nothing_told told answer
    pub disk : MakesOfDisk e old new answer

-- what the record gains: all of a call but one that found no memory, by which nothing changes
pub data Gains {N : Type 0} (e : Event) (is_up : Bool) (front : ℕ) (told : Told) (old new : View N) : Result (Unit {0}) NodeFault → Type 0 where
  nothing : (answer : Result (Unit {0}) NodeFault) → answer ≡ Err fault.OutOfMemory → new.all ≡ old.all → new.last ≡ old.last → Gains e is_up front told old new answer
  call : (answer : Result (Unit {0}) NodeFault) → (answer ≡ Err fault.OutOfMemory → ⊥)
      → new.all ≡ grown old.all (node_of e) (arrived_by_event is_up front e) (made_by (node_of e) told (begins_by_event is_up e answer)) → new.last ≡ told
      → Gains e is_up front told old new answer

module _ {D : Type 0} (g : Ghosts D) where
  -- one event: it is given to its node alone, and the record gains that call, an order with the front that the node had before it
  pub record Stepped (old : View (Node D)) (e : Event) (answer : Result (Unit {0}) NodeFault) (new : View (Node D)) : Type 0 where
    pub same_config : new.config ≡ old.config
    pub same_opened : new.opened ≡ old.opened
    pub before : Node D
    pub after : Node D
    pub within : node_of e < length old.nodes
    pub at : get_or old.nodes (node_of e) before ≡ before
    pub others : new.nodes ≡ set old.nodes (node_of e) after
    pub told : Told
    pub given : IsGiven g e before after told answer
    pub gains : Gains e (runs before) (front_in before) told old new answer

  -- events, one after another, none of which found no memory
  pub data Ran (first : View (Node D)) : List Event → View (Node D) → Type 0 where
    none : (events : List Event) (last : View (Node D)) → events ≡ [] → last ≡ first → Ran first events last
    more : (before : List Event) (between : View (Node D)) (e : Event) (answer : Result (Unit {0}) NodeFault) (events : List Event) (last : View (Node D))
        → Ran first before between → Stepped between e answer last → (answer ≡ Err fault.OutOfMemory → ⊥) → events ≡ before ++ e ∷ [] → Ran first events last
