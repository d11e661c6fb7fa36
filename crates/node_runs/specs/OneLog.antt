-- What the log of a node's process gets.
use Rattle.std.specs.Prelude.{◌≡◌, ◌⊎◌, ℕ, List, [], ◌++◌}
use Rattle.promise_store.specs.declared.disk.Disk.{Ghosts}
use Rattle.match_log.specs.Check.{IsMatchLog}
use Rattle.node_rules.specs.Standings.{Standing}
use Rattle.dealer_node.specs.Nodes.{Node}
use Rattle.dealer_node.specs.Seeing.{IsSeen, begun_of}
use Rattle.node_wires.specs.Passages.{logged_in}
use Rattle.stations.specs.Deeds.{Deed}
use Rattle.stations.specs.Stations.{LeavesFile, known_place}
use Rattle.node_service.specs.Logging.{IsLogAt}
use Rattle.node_service.specs.Served.{Served}
use Rattle.node_service.specs.Showing.{shown_log, LogGains}

module _ {D : Type 0} (g : Ghosts D) where
  -- the process was begun on what its node's earlier processes left, which did these
  abbrev pub IsLeftBy : Served (Node D) → List Deed → Type 0
  IsLeftBy old before = LeavesFile (known_place old.look) (begun_of g old.look.node) before

  -- the log got the dealer's log after some commands, which the node has applied as long as it runs; a beginning of that where it couldn't be written
  pub record WritesOneLog (old new : Served (Node D)) : Type 0 where
    pub s : Standing
    pub seen : IsSeen g new.look.node s
    pub whole : List ℕ
    pub log : IsLogAt new.look.config.setting s whole
    pub written : LogGains old.log_failed new.log_failed whole (logged_in old.passed) (logged_in new.passed)

  -- so it is; or the node showed nothing to its log, since it couldn't be started, and the log got nothing
  abbrev pub WritesItsLog : Served (Node D) → Served (Node D) → Type 0
  WritesItsLog old new = ∥ WritesOneLog old new ∥₁ ⊎ ((shown_log new.look.deeds ≡ []) × (logged_in new.passed ≡ logged_in old.passed))

-- the log got a text that `check` accepts
pub record WritesAcceptedLog {D : Type 0} (old new : Served (Node D)) : Type 0 where
  pub text : List ℕ
  pub written : logged_in new.passed ≡ logged_in old.passed ++ text
  pub accepted : ∥ IsMatchLog new.look.config.setting.game text ∥₁
