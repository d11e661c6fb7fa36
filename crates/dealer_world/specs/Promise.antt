-- What is promised of a cluster, by its record.
use Rattle.std.specs.Prelude.{◌≡◌, ℕ, ◌<◌, List, [], ◌∷◌, length, map, take, Result, Err, false, IsTrue}
use Rattle.std.specs.List.{All}
use Rattle.std.proofs.Common.{get_or}
use Rattle.promise_store.specs.declared.disk.Disk.{Ghosts}
use Rattle.dealer_kind.specs.Plans.{Plan}
use Rattle.dealer_node.specs.Nodes.{Node}
use Rattle.dealer_node.specs.declared.fault.NodeFault.{NodeFault}
use Rattle.dealer_node.specs.declared.fault.NodeFault.TheVariants as fault
use Rattle.dealer_node.specs.Seeing.{begun_of, images_of}
use Rattle.promise_store.specs.Journals.{header}
use Rattle.promise_store.specs.Laws.{IsBacked}
use Rattle.protocol_model.specs.Sets.{In}
use Rattle.protocol_model.specs.Messages.{Message}
use Rattle.dealer_world.specs.Records.{Frame, said_by}
use Rattle.dealer_world.specs.declared.event.Event.{Event}
use Rattle.dealer_world.specs.Events.{node_of, brought_by}
use Rattle.dealer_world.specs.Calls.{nothing_made}
use Rattle.dealer_world.specs.Views.{grown}
use Rattle.dealer_world.specs.Unforged.{IsUnforged}
use Rattle.dealer_world.specs.Headline.{Era, dealer_in, OneList}
use Rattle.dealer_world.specs.RuleRuns.{IsAddressed}
use Rattle.dealer_world.specs.Stepping.{View, IsFor, Stepped, Ran, none, more}
use Rattle.dealer_world.specs.Ruling.{GoesOn}

-- the event's numbers of nodes and seats are below those of the match
abbrev pub IsForMatch : Plan → Event → Type 0
IsForMatch plan e = IsFor (length plan.sources) plan.setting.game.players e

-- both are of the same game, names and number of hands, with as many nodes
pub record IsSameMatch {N : Type 0} (a b : View N) : Type 0 where
  pub setting : a.config.setting ≡ b.config.setting
  pub count : length a.config.sources ≡ length b.config.sources

-- the present era of a cluster
abbrev pub era_of : {N : Type 0} → View N → Era
era_of view = record { sources = view.config.sources; record_of = view.all }

-- the same cluster, with what an event brings to its node, which had this front, in its record beside, as where a call was broken off in its middle
abbrev pub with_brought : {N : Type 0} → View N → ℕ → Event → View N
with_brought view front e = record view { all = grown view.all (node_of e) (brought_by front e) nothing_made }

-- in the present era no frame was forged
abbrev pub HasNoForged : {N : Type 0} → View N → Type 0
HasNoForged view = IsUnforged view.all.sent view.all.delivered

-- one list is behind the records of the present era and of these before
abbrev pub ShowsOneList : {N : Type 0} → View N → List Era → Type 0
ShowsOneList view before = OneList (dealer_in view.config.setting (era_of view ∷ before)) (length view.config.sources) (era_of view ∷ before)

module _ {D : Type 0} (g : Ghosts D) where
  -- the cluster goes on from these eras, of which a new one has none
  abbrev pub GoesOnFrom : View (Node D) → List Era → Type 0
  GoesOnFrom view before = GoesOn view.opened view.config.setting (length view.config.sources) before (map (begun_of g) view.nodes)

  -- events of the match have led from the one to the other; they may be none
  pub record WasReached (first last : View (Node D)) : Type 0 where
    pub events : List Event
    pub are_for : All (IsForMatch first.config) events
    pub ran : Ran g first events last

  -- over honest disks, where no frame was forged, there is one list behind all records
  abbrev pub IsPromised : View (Node D) → Type 0
  IsPromised view = (before : List Era) → GoesOnFrom view before → IsTrue g.is_honest → HasNoForged view → ∥ ShowsOneList view before ∥₁

  -- the same of a cluster that was never opened: its record is that of the present era alone
  abbrev pub IsPromisedNew : View (Node D) → Type 0
  IsPromisedNew view = view.opened ≡ false → IsTrue g.is_honest → HasNoForged view → ∥ ShowsOneList view [] ∥₁

  -- the event of this number found no memory, and those before it were taken
  pub record StopsAt (first : View (Node D)) (events : List Event) (at : ℕ) (last : View (Node D)) : Type 0 where
    pub within : at < length events
    pub event : Event
    pub here : get_or events at event ≡ event
    pub between : View (Node D)
    pub ran : Ran g first (take at events) between
    pub stopped : Stepped g between event (Err fault.OutOfMemory) last

  -- each image of each node's disk stands for a store that backs what the node said by its frames
  abbrev pub AreBacked : View (Node D) → Type 0
  AreBacked view = (i : ℕ) (d : Node D) (image : List ℕ) (frame : Frame) (message : Message) → i < length view.nodes → images_of g (get_or view.nodes i d) image
      → In frame view.all.sent → frame.from ≡ i → In message (said_by frame) → ∥ IsBacked (header i (length view.config.sources)) image message ∥₁

  -- over honest disks, where no frame was forged, what was said is backed
  abbrev pub IsBackedBy : View (Node D) → Type 0
  IsBackedBy view = (before : List Era) → GoesOnFrom view before → IsTrue g.is_honest → HasNoForged view → AreBacked view

  -- over honest disks, where no frame was forged, each frame goes from a node of the match to another
  abbrev pub AreAddressed : View (Node D) → Type 0
  AreAddressed view = (before : List Era) → GoesOnFrom view before → IsTrue g.is_honest → HasNoForged view
      → (frame : Frame) → In frame view.all.sent → IsAddressed (length view.config.sources) frame

  -- over honest disks, where no frame was forged, by this event neither, it isn't answered that another command is known where one was chosen
  abbrev pub NeverConflicts : View (Node D) → Result (Unit {0}) NodeFault → View (Node D) → Type 0
  NeverConflicts old answer new = (before : List Era) → GoesOnFrom old before → IsTrue g.is_honest → HasNoForged new → answer ≡ Err fault.Conflict → ⊥

  -- no event of the run was answered by this fault
  abbrev pub NoneIsAnswered : NodeFault → (first last : View (Node D)) (events : List Event) → Ran g first events last → Type 0
  NoneIsAnswered why first _ _ (none events last empty same) = Unit {0}
  NoneIsAnswered why first _ _ (more before between e answer events last ran stepped ample all) = NoneIsAnswered why first between before ran × (answer ≡ Err why → ⊥)

  -- over honest disks, where no frame was forged, no event of the match that has led from here on was answered that another command is known where one was
  -- chosen
  abbrev pub NoneConflicts : View (Node D) → Type 0
  NoneConflicts first = (events : List Event) (last : View (Node D)) (before : List Era) (ran : Ran g first events last) → All (IsForMatch first.config) events
      → GoesOnFrom first before → IsTrue g.is_honest → HasNoForged last → NoneIsAnswered fault.Conflict first last events ran
