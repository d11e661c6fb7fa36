-- A station as it is seen: one node in a process of its own, and what it did; and what a call, or a death, makes of it.
use Rattle.std.specs.Prelude.{◌≡◌, ℕ, ◌⊎◌, ◌<◌, Bool, List, [], ◌∷◌, ◌++◌, length, Result, Err, IsTrue}
use Rattle.promise_store.specs.declared.disk.Disk.{Ghosts}
use Rattle.promise_store.specs.Journals.{header}
use Rattle.promise_store.specs.Holding.{StandsFor}
use Rattle.dealer_kind.specs.Plans.{Plan}
use Rattle.protocol_model.specs.Sets.{In}
use Rattle.node_rules.specs.Standings.{Place, Standing, place_of, stopped}
use Rattle.dealer_node.specs.Nodes.{Node}
use Rattle.dealer_node.specs.declared.fault.NodeFault.{NodeFault}
use Rattle.dealer_node.specs.declared.fault.NodeFault.TheVariants as fault
use Rattle.dealer_node.specs.Outs.{Told}
use Rattle.dealer_node.specs.Members.{place_at}
use Rattle.dealer_node.specs.Seeing.{member_in, runs, front_in, IsSeen, begun_of, images_of, since_of, moment_of}
use Rattle.dealer_world.specs.declared.event.Event.{Event}
use Rattle.dealer_world.specs.Calls.{nothing_made}
use Rattle.dealer_world.specs.Events.{node_of, brought_by}
use Rattle.dealer_world.specs.Recordings.{made_by}
use Rattle.dealer_world.specs.Stepping.{IsFor, IsGiven, arrived_by_event, begins_by_event}
use Rattle.stations.specs.Deeds.{Deed, Did, new_at}
use Rattle.stations.specs.Moments.{Moment, moment_now, EndNow, MakesTable}

-- ---- what a call was

-- as it is seen from outside, of a node that ran or not and had this front
abbrev pub deed_by : Bool → ℕ → Event → Told → Result (Unit {0}) NodeFault → Deed
deed_by up front e told answer = record { arrived = arrived_by_event up front e; made = made_by (node_of e) told (begins_by_event up e answer) }

-- one deed more, but where there was no memory, by which nothing changes
pub data GainsDeed (up : Bool) (front : ℕ) (e : Event) (told : Told) (answer : Result (Unit {0}) NodeFault) (old new : List Deed) : Type 0 where
  nothing : answer ≡ Err fault.OutOfMemory → new ≡ old → GainsDeed up front e told answer old new
  call : (answer ≡ Err fault.OutOfMemory → ⊥) → new ≡ deed_by up front e told answer ∷ old → GainsDeed up front e told answer old new

-- ---- what a process leaves

-- after these deeds of the node's earlier processes its file may be this: it stands for the node's store, or for what was begun
pub record LeavesFile (place : Place) (file : List ℕ) (deeds : List Deed) : Type 0 where
  pub s : Standing
  pub did : Did place (new_at place) deeds s
  pub down : s ≡ stopped place s.store s.begun
  pub held : StandsFor (header place.node place.nodes) file s.store ⊎ StandsFor (header place.node place.nodes) file s.begun

-- how a process dies between two calls, and inside one of a node that had this front, of which only what it brought is told
abbrev pub died : Deed
died = record { arrived = []; made = nothing_made }

abbrev pub broke_off : ℕ → Event → Deed
broke_off front e = record { arrived = brought_by front e; made = nothing_made }

-- ---- stations

-- the match and its nodes, as this process knows them, the number of its node, the node, what that did here, and its tables at each moment of this process, as it was
-- opened and behind each call; both newest first
pub record Look (N : Type 0) : Type 0 where
  pub config : Plan
  pub number : ℕ
  pub node : N
  pub deeds : List Deed
  pub moments : List Moment

abbrev pub known_place : {N : Type 0} → Look N → Place
known_place look = place_of look.config look.number

module _ {D : Type 0} (g : Ghosts D) where
  -- the node holds and knows what the node at this place does after these deeds
  pub record HoldsAfter (place : Place) (node : Node D) (deeds : List Deed) : Type 0 where
    pub s : Standing
    pub seen : IsSeen g node s
    pub did : Did place (new_at place) deeds s

  -- over an honest disk, whatever its node did in earlier processes that left what the disk was begun on, these deeds led on from there to what it is
  abbrev pub IsTrueTo : Place → Node D → List Deed → Type 0
  IsTrueTo place node deeds = (before : List Deed) → ∥ LeavesFile place (begun_of g node) before ∥₁ → IsTrue g.is_honest → ∥ HoldsAfter place node (deeds ++ before) ∥₁

  -- there too the deeds of each moment of the process, behind those, led to its table
  abbrev pub AreTrueTo : Place → Node D → List Moment → Type 0
  AreTrueTo place node moments = (before : List Deed) → ∥ LeavesFile place (begun_of g node) before ∥₁ → IsTrue g.is_honest
      → (moment : Moment) → In moment moments → ∥ MakesTable place (moment.deeds ++ before) moment.table ∥₁

  -- an event was given to the node, its deeds are one more, or as many where there was no memory, and there is one more moment, whatever was answered
  pub record Acts (e : Event) (told : Told) (answer : Result (Unit {0}) NodeFault) (old new : Look (Node D)) : Type 0 where
    pub config : new.config ≡ old.config
    pub number : new.number ≡ old.number
    pub given : IsGiven g e old.node new.node told answer
    pub gains : GainsDeed (runs old.node) (front_in old.node) e told answer old.deeds new.deeds
    pub moments : new.moments ≡ moment_now new.node new.deeds ∷ old.moments

  -- a process of the node at this place that was opened on this file, and what the events that were given to it made of it: its deeds are those calls, and no
  -- others, and its moments are the one at which it was opened and one behind each call
  pub data Works (place : Place) (file : List ℕ) : Look (Node D) → Type 0 where
    opened : (look : Look (Node D)) → known_place look ≡ place → begun_of g look.node ≡ file → look.deeds ≡ [] → look.moments ≡ moment_now look.node [] ∷ [] → Works place file look
    acted : (old new : Look (Node D)) (e : Event) (told : Told) (answer : Result (Unit {0}) NodeFault) → Works place file old → node_of e ≡ place.node
        → IsFor place.nodes place.setting.game.players e → Acts e told answer old new → Works place file new

  -- what holds of every station
  pub record Has (look : Look (Node D)) : Type 0 where
    pub here : look.number < length look.config.sources
    pub at_place : ∥ place_at (member_in look.node) ≡ known_place look ∥₁
    pub newest : EndNow look.node look.deeds look.moments
    pub true_to : IsTrueTo (known_place look) look.node look.deeds
    pub tables : AreTrueTo (known_place look) look.node look.moments
    pub works : ∥ Works (known_place look) (begun_of g look.node) look ∥₁

  -- ---- deaths

  -- a process that dies between two calls leaves what the next one of its node goes on from
  abbrev pub DeathsAtRestAreDeeds : Type 0
  DeathsAtRestAreDeeds = (place : Place) (node : Node D) (deeds : List Deed) (file : List ℕ) → place_at (member_in node) ≡ place → images_of g node file
      → HoldsAfter place node deeds → LeavesFile place file (died ∷ deeds)

  -- and so does one that dies inside a call: as before it, or as one that broke off in its append
  abbrev pub DeathsInsideAreDeeds : Type 0
  DeathsInsideAreDeeds = (place : Place) (e : Event) (old new : Node D) (told : Told) (answer : Result (Unit {0}) NodeFault) (deeds : List Deed) (file : List ℕ)
      → place_at (member_in old) ≡ place → node_of e ≡ place.node → IsFor place.nodes place.setting.game.players e → IsGiven g e old new told answer → IsTrue g.is_honest
      → since_of g new (moment_of g old) file → HoldsAfter place old deeds
      → LeavesFile place file (died ∷ deeds) ⊎ LeavesFile place file (broke_off (front_in old) e ∷ deeds)
