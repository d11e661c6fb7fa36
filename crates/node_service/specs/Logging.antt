-- The log of a node's one start.
use Rattle.std.specs.Prelude.{◌≡◌, ◌⊎◌, ℕ, true, false, List, [], ◌∷◌, ◌++◌, IsTrue}
use Rattle.promise_store.specs.declared.disk.Disk.{Ghosts}
use Rattle.slot_log.specs.declared.command.Command.{Command}
use Rattle.match_log.specs.Check.{IsMatchLog}
use Rattle.dealer_kind.specs.Kind.{Setting, log_of}
use Rattle.node_rules.specs.Standings.{Standing, applied}
use Rattle.dealer_node.specs.Nodes.{Node}
use Rattle.dealer_node.specs.Seeing.{IsSeen, begun_of, runs}
use Rattle.stations.specs.Deeds.{Deed}
use Rattle.stations.specs.Stations.{Look, LeavesFile, known_place}
use Rattle.node_service.specs.Showing.{shown_log}
use Rattle.node_service.specs.Served.{Served}
use Rattle.node_service.specs.Ending.{is_well, IsOverAt}
use Rattle.node_service.specs.declared.outcome.Outcome.{Outcome}

-- by none of these deeds a start began
abbrev pub HasNoStart : List Deed → Type 0
HasNoStart [] = Unit {0}
HasNoStart (deed ∷ before) = (deed.made.began ≡ false) × HasNoStart before

-- all that the process did, the newest first: a start of its node began, which was the first, and no other
pub record StartedOnce (deeds : List Deed) : Type 0 where
  pub later : List Deed
  pub first : Deed
  pub deeds_are : deeds ≡ later ++ first ∷ []
  pub begins : first.made.began ≡ true
  pub no_other : HasNoStart later

-- so it is of a process, which starts its node no more
abbrev pub IsOnce : {N : Type 0} → Served N → Type 0
IsOnce served = (served.started ≡ true) × StartedOnce served.look.deeds

-- a process whose node is down and has done nothing
pub record IsFresh {D : Type 0} (look : Look (Node D)) : Type 0 where
  pub deeds : look.deeds ≡ []
  pub down : runs look.node ≡ false

-- it was started once, or its start failed, which the process ends by, and it showed nothing to its log
abbrev pub IsBegun : {D : Type 0} → Outcome → Served (Node D) → Type 0
IsBegun outcome served = IsOnce served ⊎ ((is_well outcome ≡ false) × (shown_log served.look.deeds ≡ []))

-- this text is the dealer's log after these commands, which the node that stands so has applied as long as it runs
pub record IsLogAt (setting : Setting) (s : Standing) (text : List ℕ) : Type 0 where
  pub commands : List Command
  pub log : text ≡ log_of setting commands
  pub applied : s.up ≡ true → commands ≡ applied s

module _ {D : Type 0} (g : Ghosts D) where
  -- what the node showed to its log is the one log of its start: the dealer's log after the commands that it has applied
  pub record ShowsOneLog (look : Look (Node D)) : Type 0 where
    pub s : Standing
    pub seen : IsSeen g look.node s
    pub log : IsLogAt look.config.setting s (shown_log look.deeds)

  -- so it is over an honest disk that was begun on what earlier processes of the node left, in a process that started it once
  abbrev pub HasOneLog : Look (Node D) → Type 0
  HasOneLog look = StartedOnce look.deeds → IsTrue g.is_honest → (before : List Deed) → LeavesFile (known_place look) (begun_of g look.node) before → ∥ ShowsOneLog look ∥₁

  -- and where the match is over at the node, that log is one that `check` accepts
  abbrev pub IsAcceptedOver : Look (Node D) → Type 0
  IsAcceptedOver look = StartedOnce look.deeds → IsTrue g.is_honest → (before : List Deed) → LeavesFile (known_place look) (begun_of g look.node) before → IsOverAt look.node
      → ∥ IsMatchLog look.config.setting.game (shown_log look.deeds) ∥₁
