-- No state of the processes of a match is a dead end.
use Rattle.std.specs.Prelude.{◌≡◌, ℕ, ◌+◌, ◌<◌, ◌≤◌, List, [], ◌∷◌, ◌++◌, length, Result, Ok, Err, IsTrue}
use Rattle.promise_store.specs.declared.disk.Disk.{Ghosts}
use Rattle.promise_store.specs.declared.fault.StoreFault.TheVariants.{Disk}
use Rattle.slot_log.specs.declared.command.Command.{Command}
use Rattle.protocol_model.specs.Sets.{In, put}
use Rattle.dealer_kind.specs.Kind.{Setting}
use Rattle.dealer_kind.specs.Plans.{Plan}
use Rattle.dealer_kind.specs.declared.source.Source.{Source}
use Rattle.node_rules.specs.Standings.{Standing, place_of, front_of}
use Rattle.node_rules.specs.Turns.{Turn, Refusal}
use Rattle.node_rules.specs.Rules.{IsTurn}
use Rattle.node_rules.specs.Calm.{Event}
use Rattle.node_rules.specs.CalmRound.{node_of, call_of, AreKnown, HasMovedOn}
use Rattle.node_rules.specs.Ways.{Movable, IsWay, HasShortWay}
use Rattle.dealer_node.specs.Nodes.{Node}
use Rattle.dealer_node.specs.declared.fault.NodeFault.{NodeFault}
use Rattle.dealer_node.specs.declared.fault.NodeFault.TheVariants as fault
use Rattle.dealer_node.specs.Outs.{Told}
use Rattle.dealer_node.specs.Members.{place_at}
use Rattle.dealer_node.specs.Seeing.{member_in, runs, front_in, IsSeen}
use Rattle.dealer_world.specs.declared.event.Event.{Event as Given}
use Rattle.dealer_world.specs.Events.{node_of as given_to}
use Rattle.dealer_world.specs.Runs.{Ruled}
use Rattle.dealer_world.specs.RuleRuns.{plan_of}
use Rattle.dealer_world.specs.CalmRun.{IsUntroubled}
use Rattle.dealer_world.specs.CalmCluster.{AreEvents}
use Rattle.stations.specs.Deeds.{Deed, Doing, deeds_of}
use Rattle.stations.specs.Stations.{deed_by, Look, Acts}
use Rattle.stations.specs.Joining.{DidAt, IsTrueOrder, AreProcesses}

-- what a node did by one event of a way, and what it holds and knows then: a call by the rules, whose memory and disk sufficed
pub record DoesEvent (plan : Plan) (event : Event) (s : Standing) (deed : Deed) (t : Standing) : Type 0 where
  pub ruled : Ruled (place_of plan (node_of event)) s (call_of event) deed.arrived deed.made t
  pub untroubled : IsUntroubled (place_of plan (node_of event)) s (call_of event) t ruled.frames ruled.shown ruled.ends

-- events of a way, each given to its own node, one after another, behind all that was done
abbrev pub DoEvents : Plan → (ℕ → Standing) → List Doing → List Event → (ℕ → Standing) → List Doing → Type 0
DoEvents plan s all [] t later = (t ≡ s) × (later ≡ all)
DoEvents plan s all (event ∷ events) t later =
    (deed : Deed) × (after : Standing) × DoesEvent plan event (s (node_of event)) deed after
    × DoEvents plan (put s (node_of event) after) (record { node = node_of event; deed = deed } ∷ all) events t later

-- whatever comes of the first of these events by the rules is a turn: it isn't refused
abbrev pub IsNextDone : Plan → (ℕ → Standing) → List Event → Type 0
IsNextDone plan t [] = Unit {0}
IsNextDone plan t (event ∷ events) = (outcome : Result Turn Refusal) → IsTurn (place_of plan (node_of event)) (t (node_of event)) (call_of event) outcome → (turn : Turn) × (outcome ≡ Ok turn)

-- where these are what the nodes hold by all that they did, and node i is movable with the members of a least quorum, it has a short way; and what they do by a
-- beginning of a way of it, behind all that was done, is in a true order again, and the event that comes next isn't refused; and after all of the way the node's
-- front has passed the slots of the commands, each of which it knows
abbrev pub ProcessesHaveNoDeadEnd : Type 0
ProcessesHaveNoDeadEnd = (setting : Setting) (sources : List Source) (histories : ℕ → List Deed) (all : List Doing) (s : ℕ → Standing) (i : ℕ) (members : List ℕ) (commands : List Command)
    → AreProcesses setting sources histories all → ((k : ℕ) → k < length sources → DidAt (plan_of setting sources) k (histories k) (s k))
    → Movable (place_of (plan_of setting sources) i) s i members commands
    → HasShortWay s i members commands
    × ((first rest : List Event) (t : ℕ → Standing) (later : List Doing) → IsWay s i members commands (first ++ rest) → DoEvents (plan_of setting sources) s all first t later
    → IsTrueOrder (length sources) (deeds_of later) later
    × IsNextDone (plan_of setting sources) t rest
    × (rest ≡ [] → HasMovedOn i (front_of (s i)) commands t))

module _ {D : Type 0} (g : Ghosts D) where
  -- events that were given to stations, as they are seen, each to its own, one after another, none answered 91 because the disk failed or 92; what they did stands
  -- behind all that was done
  abbrev pub LooksDo : (ℕ → Look (Node D)) → List Doing → List Given → (ℕ → Look (Node D)) → List Doing → Type 0
  LooksDo old all [] new later = (new ≡ old) × (later ≡ all)
  LooksDo old all (e ∷ events) new later =
      (told : Told) × (answer : Result (Unit {0}) NodeFault) × (next : Look (Node D)) × Acts g e told answer (old (given_to e)) next
      × (answer ≡ Err fault.OutOfMemory → ⊥) × (answer ≡ Err (fault.Store Disk) → ⊥)
      × LooksDo (put old (given_to e) next) (record { node = given_to e; deed = deed_by (runs (old (given_to e)).node) (front_in (old (given_to e)).node) e told answer } ∷ all) events new later

  -- the members' stations are at their places, and seen as these standings
  abbrev pub AreSeenAs : Plan → (ℕ → Look (Node D)) → (ℕ → Standing) → List ℕ → Type 0
  AreSeenAs plan looks s members = (k : ℕ) → In k members → IsSeen g (looks k).node (s k) × (place_at (member_in (looks k).node) ≡ place_of plan k)

  -- over honest disks: where the members' stations are seen as what their nodes hold by all that they did, and the events are a beginning of a way of node i, which is
  -- movable with them, what the stations do is in a true order again; and after all of the way the front of i has passed the commands, each of which it knows
  abbrev pub StationsHaveNoDeadEnd : Type 0
  StationsHaveNoDeadEnd = (setting : Setting) (sources : List Source) (histories : ℕ → List Deed) (all : List Doing) (s : ℕ → Standing) (looks new : ℕ → Look (Node D)) (i : ℕ) (members : List ℕ)
      (commands : List Command) (first rest : List Event) (events : List Given) (later : List Doing)
      → IsTrue g.is_honest → AreProcesses setting sources histories all → ((k : ℕ) → k < length sources → DidAt (plan_of setting sources) k (histories k) (s k))
      → AreSeenAs (plan_of setting sources) looks s members → Movable (place_of (plan_of setting sources) i) s i members commands
      → IsWay s i members commands (first ++ rest) → AreEvents events first → LooksDo looks all events new later
      → IsTrueOrder (length sources) (deeds_of later) later
      × (rest ≡ [] → (t : Standing) × IsSeen g (new i).node t × (front_of (s i) + length commands ≤ front_of t) × AreKnown t.learned.log (front_of (s i)) commands)
