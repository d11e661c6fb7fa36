-- An event that was given to a node, as a call of it by the rules, whatever else there is of its match.
use Rattle.std.specs.Prelude.{◌≡◌, true, IsTrue, Result, Err}
use Rattle.promise_store.specs.declared.disk.Disk.{Ghosts}
use Rattle.protocol_model.specs.Stores.{Store}
use Rattle.node_rules.specs.Standings.{Place, Standing, front_of, stopped}
use Rattle.node_rules.specs.Calls.{Call}
use Rattle.node_rules.specs.Turns.{Turn, Refusal, Conflict}
use Rattle.node_rules.specs.Rules.{IsTurn, standing_after}
use Rattle.dealer_node.specs.Nodes.{Node}
use Rattle.dealer_node.specs.declared.fault.NodeFault.{NodeFault}
use Rattle.dealer_node.specs.declared.fault.NodeFault.TheVariants as fault
use Rattle.dealer_node.specs.Outs.{Told}
use Rattle.dealer_node.specs.Members.{place_at}
use Rattle.dealer_node.specs.Seeing.{member_in, runs, front_in, IsSeen}
use Rattle.dealer_world.specs.declared.event.Event.{Event}
use Rattle.dealer_world.specs.Calls.{nothing_made}
use Rattle.dealer_world.specs.Events.{node_of, call_of, brought_by}
use Rattle.dealer_world.specs.Recordings.{made_by}
use Rattle.dealer_world.specs.Runs.{IsSeated, arrived_at, Ruled}
use Rattle.dealer_world.specs.Stepping.{IsFor, IsGiven, arrived_by_event, begins_by_event}

module _ {D : Type 0} (g : Ghosts D) where
  -- what an event made of a node that was seen as this standing: what arrived and what was made is what a record gains by it
  pub record IsCalled (place : Place) (e : Event) (s : Standing) (old new : Node D) (told : Told) (answer : Result (Unit {0}) NodeFault) : Type 0 where
    pub called : Call
    pub after : Standing
    pub now : IsSeen g new after
    pub ruled : Ruled place s called (arrived_by_event (runs old) (front_in old) e) (made_by (node_of e) told (begins_by_event (runs old) e answer)) after

  -- each event that was given to its node, and found memory, is a call
  abbrev pub EventsAreCalls : Type 0
  EventsAreCalls = (place : Place) (e : Event) (s : Standing) (old new : Node D) (told : Told) (answer : Result (Unit {0}) NodeFault)
      → place_at (member_in old) ≡ place → node_of e ≡ place.node → IsFor place.nodes place.setting.game.players e → IsTrue g.is_honest → IsSeen g old s
      → IsGiven g e old new told answer → (answer ≡ Err fault.OutOfMemory → ⊥) → IsCalled place e s old new told answer

  -- one that found none is no call
  abbrev pub VainEventsAreNone : Type 0
  VainEventsAreNone = (e : Event) (s : Standing) (old new : Node D) (told : Told) (answer : Result (Unit {0}) NodeFault) → IsTrue g.is_honest → IsSeen g old s
      → IsGiven g e old new told answer → answer ≡ Err fault.OutOfMemory → IsSeen g new s

  -- a node's front is that of what it is seen as
  abbrev pub FrontsAreSeen : Type 0
  FrontsAreSeen = (node : Node D) (s : Standing) → IsSeen g node s → front_in node ≡ front_of s

module _ {D : Type 0} (g : Ghosts D) where
  -- an event that met another command where one is known, as the rules have it
  pub record IsConflict (place : Place) (e : Event) (s : Standing) (old : Node D) : Type 0 where
    pub found : Store
    pub store : Store
    pub turn : IsTurn place s (call_of found e) (Err (Conflict store))
    pub seated : IsSeated place.setting.game.players (call_of found e)
    pub arrived : arrived_by_event (runs old) (front_in old) e ≡ arrived_at s.up place.node (front_of s) (call_of found e)

  -- one that was answered by 95 did
  abbrev pub ConflictsAreRefusals : Type 0
  ConflictsAreRefusals = (place : Place) (e : Event) (s : Standing) (old new : Node D) (told : Told) → place_at (member_in old) ≡ place → node_of e ≡ place.node
      → IsFor place.nodes place.setting.game.players e → IsTrue g.is_honest → IsSeen g old s → IsGiven g e old new told (Err fault.Conflict) → IsConflict place e s old

-- an event of whose call the node didn't see the end, in the middle of its append: it is a call that failed, of which only what it brought is told
abbrev pub BrokenEventsAreCalls : Type 0
BrokenEventsAreCalls = (place : Place) (e : Event) (s : Standing) (found : Store) (outcome : Result Turn Refusal) → node_of e ≡ place.node
    → IsFor place.nodes place.setting.game.players e → s.up ≡ true → IsTurn place s (call_of found e) outcome
    → Ruled place s (call_of found e) (brought_by (front_of s) e) nothing_made (stopped place s.store (standing_after place s outcome).begun)
