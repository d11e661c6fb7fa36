-- All nodes of a match, each with a process now or with none. The premises are those that `docs/CLUSTER.md` lists of nodes in processes of their own.
use Rattle.std.specs.Prelude.{◌≡◌, ℕ, ◌<◌, List, ◌++◌, length, map, Option, Some, None, option_map, Err, IsTrue}
use Rattle.std.proofs.Common.{get_or}
use Rattle.promise_store.specs.declared.disk.Disk.{Ghosts}
use Rattle.promise_store.specs.Journals.{header}
use Rattle.promise_store.specs.Laws.{IsBacked}
use Rattle.protocol_model.specs.Sets.{In}
use Rattle.protocol_model.specs.Messages.{Message}
use Rattle.protocol_model.specs.Quorums.{AreChosen}
use Rattle.dealer_kind.specs.Kind.{Setting}
use Rattle.dealer_kind.specs.Plans.{Plan, IsPlan}
use Rattle.dealer_kind.specs.declared.source.Source.{Source}
use Rattle.node_rules.specs.Standings.{Place, Standing, place_of, applied}
use Rattle.dealer_node.specs.Nodes.{Node}
use Rattle.dealer_node.specs.declared.fault.NodeFault.TheVariants as fault
use Rattle.dealer_node.specs.Outs.{Told}
use Rattle.dealer_node.specs.Seeing.{IsSeen, runs, front_in, begun_of, images_of}
use Rattle.dealer_world.specs.declared.event.Event.{Event}
use Rattle.dealer_world.specs.Events.{node_of}
use Rattle.dealer_world.specs.Records.{Frame, said, said_by}
use Rattle.dealer_world.specs.RuleRuns.{plan_of}
use Rattle.dealer_world.specs.Stepping.{IsFor, IsGiven, arrived_by_event}
use Rattle.dealer_world.specs.Unforged.{IsUnforged}
use Rattle.dealer_world.specs.Views.{placed_at}
use Rattle.stations.specs.declared.station.Station.{Station}
use Rattle.stations.specs.Deeds.{Deed, Doing, record_of}
use Rattle.stations.specs.Joining.{IsTrueOrder, AreProcesses, ShowOneList}
use Rattle.stations.specs.Stations.{Look, known_place}
use Rattle.stations.specs.Looking.{look_of}
use Rattle.stations.specs.Incarnations.{Incarnations, IsHistoryOf}

module _ {D : Type 0} (g : Ghosts D) where
  -- the processes that the node at this place had before its present one: with each the same match, the same source of deals and its own number, the first
  -- begun on a new store and each next one, the present one too, on what the one before left
  pub record EarlierIncarnations (place : Place) (look : Look (Node D)) : Type 0 where
    pub at : known_place look ≡ place
    pub incarnations : Incarnations g place (begun_of g look.node)

  -- the same of a node that has no process now, up to the file that its last one left
  pub record PastIncarnations (place : Place) : Type 0 where
    pub file : List ℕ
    pub incarnations : Incarnations g place file

  -- the premises that a node has one process at a time, that its source of deals stays the same, and that its first process began on a new store and each next
  -- one on what the one before left
  abbrev pub HasIncarnations : Place → Option (Look (Node D)) → Type 0
  HasIncarnations place None = PastIncarnations place
  HasIncarnations place (Some look) = EarlierIncarnations place look

  -- the deeds of the present process are the newest, and those before are a history of the earlier ones
  pub record IsContinued (place : Place) (look : Look (Node D)) (had : EarlierIncarnations place look) (deeds : List Deed) : Type 0 where
    pub before : List Deed
    pub history : IsHistoryOf g place (begun_of g look.node) had.incarnations before
    pub newest : deeds ≡ look.deeds ++ before

  -- what its processes did
  abbrev pub HasHistory : (place : Place) (now : Option (Look (Node D))) → HasIncarnations place now → List Deed → Type 0
  HasHistory place None had deeds = IsHistoryOf g place had.file had.incarnations deeds
  HasHistory place (Some look) had deeds = IsContinued place look had deeds

  -- what its next process may find: the file that its last one left, or any that its present one leaves if it dies now
  abbrev pub MayFind : (place : Place) (now : Option (Look (Node D))) → HasIncarnations place now → List ℕ → Type 0
  MayFind place None had file = file ≡ had.file
  MayFind place (Some look) had file = images_of g look.node file

  -- those premises of each node, which may have a process now
  abbrev pub HaveIncarnations : Plan → List (Option (Look (Node D))) → Type 0
  HaveIncarnations plan stations = (i : ℕ) → i < length stations → HasIncarnations (place_of plan i) (get_or stations i None)

  -- and each has its history
  abbrev pub HaveHistories : (plan : Plan) (stations : List (Option (Look (Node D)))) → HaveIncarnations plan stations → (ℕ → List Deed) → Type 0
  HaveHistories plan stations had histories =
      (i : ℕ) (less : i < length stations) → HasHistory (place_of plan i) (get_or stations i None) (had i less) (histories i)

  -- ---- what follows

  -- whatever the next process of a node may find stands for a store that backs what the node said by its frames, in all the processes that it had
  abbrev pub AllAreBacked : (plan : Plan) (stations : List (Option (Look (Node D)))) → HaveIncarnations plan stations → List Doing → Type 0
  AllAreBacked plan stations had all = (i : ℕ) (less : i < length stations) (file : List ℕ) (frame : Frame) (message : Message)
      → MayFind (place_of plan i) (get_or stations i None) (had i less) file → In frame (record_of all).sent → frame.from ≡ i → In message (said_by frame)
      → ∥ IsBacked (header i (length plan.sources)) file message ∥₁

  -- 95 is the answer of no next call of a station, by which no frame is forged either
  abbrev pub NoNextConflicts : List (Option (Look (Node D))) → Setting → List Source → List Doing → Type 0
  NoNextConflicts stations setting sources all = (i : ℕ) (look : Look (Node D)) (e : Event) (new : Node D) (told : Told) → get_or stations i None ≡ Some look
      → node_of e ≡ i → IsFor (length sources) setting.game.players e → IsGiven g e look.node new told (Err fault.Conflict)
      → IsUnforged (record_of all).sent ((record_of all).delivered ++ map (placed_at (length (record_of all).sent)) (arrived_by_event (runs look.node) (front_in look.node) e)) → ⊥

  -- what the table of each station shows is chosen: its node is seen as a standing whose applied commands are, by what all nodes said; of a node that is down
  -- there are none
  abbrev pub AllApplyTheChosen : List (Option (Look (Node D))) → ℕ → List Doing → Type 0
  AllApplyTheChosen stations n all = (i : ℕ) (look : Look (Node D)) → get_or stations i None ≡ Some look
      → ∥ ((s : Standing) × IsSeen g look.node s × AreChosen n (said (record_of all).sent) (applied s)) ∥₁

  -- what is promised of these histories in this order: they are processes of which the laws speak; one list is behind all that they showed; what their tables
  -- show is chosen; what they said is backed, also of a node that has no process now; and 95 never comes
  pub record ArePromised (stations : List (Option (Look (Node D)))) (setting : Setting) (sources : List Source) (had : HaveIncarnations (plan_of setting sources) stations)
      (histories : ℕ → List Deed) (all : List Doing) : Type 0 where
    pub processes : AreProcesses setting sources histories all
    pub list : ShowOneList setting sources all
    pub applied : AllApplyTheChosen stations (length sources) all
    pub backed : AllAreBacked (plan_of setting sources) stations had all
    pub conflict : NoNextConflicts stations setting sources all

  -- histories of the nodes, of which all of it holds in each order in which each frame had been sent, as it is, before it came (the premise that is `IsTrueOrder`)
  pub record ArePromisedInEachOrder (stations : List (Option (Look (Node D)))) (setting : Setting) (sources : List Source) (had : HaveIncarnations (plan_of setting sources) stations) : Type 0 where
    pub histories : ℕ → List Deed
    pub have : HaveHistories (plan_of setting sources) stations had histories
    pub promised : (all : List Doing) → IsTrueOrder (length sources) histories all → ArePromised stations setting sources had histories all

  -- there are such histories, where all know the same match (`setting`, the one of each node's place), disks keep their word (`is_honest`), and each node had
  -- its processes as the premises say (`HaveIncarnations`)
  abbrev pub StationsArePromised : List (Option (Look (Node D))) → Type 0
  StationsArePromised stations = (setting : Setting) (sources : List Source) → IsPlan (plan_of setting sources) → length stations ≡ length sources → IsTrue g.is_honest
      → (had : HaveIncarnations (plan_of setting sources) stations)
      → ∥ ArePromisedInEachOrder stations setting sources had ∥₁

  -- of whatever stations there are
  abbrev pub ListsOfStationsArePromised : Type 0
  ListsOfStationsArePromised = (stations : List (Option (Station D g))) → StationsArePromised (map (option_map look_of) stations)
