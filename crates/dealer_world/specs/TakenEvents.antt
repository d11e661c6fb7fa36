-- An event of a way that was given to a node, as a call of it by the rules.
use Rattle.std.specs.Prelude.{◌≡◌, IsTrue, Result, Err}
use Rattle.promise_store.specs.declared.disk.Disk.{Ghosts}
use Rattle.promise_store.specs.declared.fault.StoreFault.TheVariants.{Disk}
use Rattle.node_rules.specs.Standings.{Place, Standing}
use Rattle.node_rules.specs.Calm as calm
use Rattle.node_rules.specs.CalmRound as of_round
use Rattle.dealer_node.specs.Nodes.{Node}
use Rattle.dealer_node.specs.declared.fault.NodeFault.{NodeFault}
use Rattle.dealer_node.specs.declared.fault.NodeFault.TheVariants as fault
use Rattle.dealer_node.specs.Outs.{Told}
use Rattle.dealer_node.specs.Members.{place_at}
use Rattle.dealer_node.specs.Seeing.{member_in, runs, front_in, IsSeen}
use Rattle.dealer_world.specs.declared.event.Event.{Event}
use Rattle.dealer_world.specs.Events.{node_of}
use Rattle.dealer_world.specs.Recordings.{made_by}
use Rattle.dealer_world.specs.Runs.{Ruled}
use Rattle.dealer_world.specs.Stepping.{IsGiven, arrived_by_event, begins_by_event}
use Rattle.dealer_world.specs.CalmRun.{IsUntroubled}
use Rattle.dealer_world.specs.CalmCluster.{IsEvent}

module _ {D : Type 0} (g : Ghosts D) where
  -- what such an event made of a node that was seen as this standing: a call of that kind by the rules, whose memory and disk sufficed
  pub record IsTakenAs (place : Place) (e : Event) (y : calm.Event) (s : Standing) (old new : Node D) (told : Told) (answer : Result (Unit {0}) NodeFault) : Type 0 where
    pub after : Standing
    pub now : IsSeen g new after
    pub ruled : Ruled place s (of_round.call_of y) (arrived_by_event (runs old) (front_in old) e) (made_by (node_of e) told (begins_by_event (runs old) e answer)) after
    pub untroubled : IsUntroubled place s (of_round.call_of y) after ruled.frames ruled.shown ruled.ends

  -- each that wasn't answered by 92, nor by 91 because its disk failed
  abbrev pub SoundEventsAreTaken : Type 0
  SoundEventsAreTaken = (place : Place) (e : Event) (y : calm.Event) (s : Standing) (old new : Node D) (told : Told) (answer : Result (Unit {0}) NodeFault)
      → place_at (member_in old) ≡ place → node_of e ≡ place.node → IsEvent e y → IsTrue g.is_honest → IsSeen g old s → IsGiven g e old new told answer
      → (answer ≡ Err fault.OutOfMemory → ⊥) → (answer ≡ Err (fault.Store Disk) → ⊥) → IsTakenAs place e y s old new told answer
