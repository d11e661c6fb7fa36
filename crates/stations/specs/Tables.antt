-- The tables that the nodes of a match had, at whatever moments, are tables of one match.
use Rattle.std.specs.Prelude.{◌≡◌, ℕ, ◌<◌, List, ◌++◌, length, IsTrue}
use Rattle.std.specs.List.{AllByRecursion}
use Rattle.promise_store.specs.declared.disk.Disk.{Ghosts}
use Rattle.slot_log.specs.Beginnings.{IsBeginning}
use Rattle.slot_log.specs.Hand.{Match}
use Rattle.slot_log.specs.declared.command.Command.{Command}
use Rattle.protocol_model.specs.Quorums.{AreChosen}
use Rattle.protocol_model.specs.Sets.{In}
use Rattle.dealer_kind.specs.Kind.{Setting}
use Rattle.dealer_kind.specs.Plans.{Plan}
use Rattle.dealer_kind.specs.declared.source.Source.{Source}
use Rattle.node_rules.specs.Standings.{Place, place_of}
use Rattle.dealer_node.specs.Nodes.{Node}
use Rattle.dealer_node.specs.Scenes.{IsTableOf}
use Rattle.dealer_node.specs.Seeing.{begun_of}
use Rattle.dealer_world.specs.Records.{said}
use Rattle.dealer_world.specs.RuleRuns.{plan_of}
use Rattle.stations.specs.Deeds.{Deed, Doing, record_of}
use Rattle.stations.specs.Moments.{Moment}
use Rattle.stations.specs.Joining.{AreProcesses}
use Rattle.stations.specs.Stations.{Look, known_place, Has, LeavesFile}

-- the table shows a beginning of these commands
pub record ShowsBeginning (setting : Setting) (commands : List Command) (table : Match) : Type 0 where
  pub earlier : List Command
  pub is_beginning : IsBeginning earlier commands
  pub table_is : IsTableOf setting earlier table

-- at some moment of this process its node had this table
pub record HadTable {N : Type 0} (look : Look N) (table : Match) : Type 0 where
  pub moment : Moment
  pub was : In moment look.moments
  pub table_is : moment.table ≡ table

module _ {D : Type 0} (g : Ghosts D) where
  -- a process of the node at this place, as it was once the node had done so much of all that it did: what its earlier processes did led to what it began on
  pub record WasLook (place : Place) (deeds : List Deed) (look : Look (Node D)) : Type 0 where
    pub at : known_place look ≡ place
    pub has : Has g look
    pub before : List Deed
    pub left : ∥ LeavesFile place (begun_of g look.node) before ∥₁
    pub since : List Deed
    pub deeds_are : deeds ≡ since ++ (look.deeds ++ before)

  -- a table that some node of the match had by then
  pub record WasTable (plan : Plan) (histories : ℕ → List Deed) (table : Match) : Type 0 where
    pub node : ℕ
    pub is_node : node < length plan.sources
    pub look : Look (Node D)
    pub was : WasLook (place_of plan node) (histories node) look
    pub had : HadTable look table

  -- of all of them there is one list of chosen commands of which each shows a beginning
  abbrev pub TablesAreOfOneMatch : Type 0
  TablesAreOfOneMatch = (setting : Setting) (sources : List Source) (histories : ℕ → List Deed) (all : List Doing) → AreProcesses setting sources histories all → IsTrue g.is_honest
      → (tables : List Match) → AllByRecursion (WasTable (plan_of setting sources) histories) tables
      → ∥ ((commands : List Command) × (AreChosen (length sources) (said (record_of all).sent) commands × AllByRecursion (ShowsBeginning setting commands) tables)) ∥₁
