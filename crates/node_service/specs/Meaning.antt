-- Why a process ends.
use Rattle.std.specs.Prelude.{◌≡◌, ◌⊎◌, ℕ, ◌<◌, max, true, false, Bool, Option, Some, None, slice_get}
use Rattle.promise_store.specs.declared.disk.Disk.{Ghosts}
use Rattle.dealer_node.specs.Seeing.{runs}
use Rattle.dealer_node.specs.declared.fault.NodeFault.{NodeFault}
use Rattle.dealer_node.specs.declared.fault.NodeFault.TheVariants as faults
use Rattle.clockwork.specs.Silence.{is_heard}
use Rattle.clockwork.specs.declared.silence.TheConstants.{UNHEARD}
use Rattle.node_peers.specs.Viewing.{view_of}
use Rattle.node_peers.specs.declared.view.View.{View}
use Rattle.node_wires.specs.declared.wire.Wire.{Ghosts as OfWire}
use Rattle.node_service.specs.Ending.{is_meant, IsOverAt}
use Rattle.node_service.specs.Serving.{look_in, fault_in, nodes_of}
use Rattle.node_service.specs.declared.outcome.Outcome.{Outcome}
use Rattle.node_service.specs.declared.outcome.Outcome.TheVariants as outcome
use Rattle.node_service.specs.declared.peer_reports.LastReport.{LastReport}
use Rattle.node_service.specs.declared.server.NodeServer.{NodeServer}

-- a peer has told that the match is over there
abbrev pub tells_over : Option LastReport → Bool
tells_over None = false
tells_over (Some report) = report.is_over

module _ {D W : Type 0} {disk : Ghosts D} {wire : OfWire W} where
  -- it ends by a fault: a call of its node was answered so that took it down, or was its start or the end of a seat; there was no memory to tell a life that was
  -- to be kept, or its node is down, or its peers are those of another node
  pub data FailsBy (server : NodeServer D W disk wire) (fault : NodeFault) : Type 0 where
    answered : fault_in server ≡ Some fault → is_meant server.desk.member.was_needed (Some fault) ≡ true → FailsBy server fault
    life_lost : fault ≡ faults.OutOfMemory → server.desk.company.is_life_lost ≡ true → FailsBy server fault
    down : fault ≡ faults.Down → runs (look_in server).node ≡ false → FailsBy server fault
    foreign : fault ≡ faults.Down → server.is_foreign ≡ true → FailsBy server fault

  -- what is left to do is that for its reason
  abbrev pub IsMeant : NodeServer D W disk wire → Outcome → Type 0
  IsMeant server outcome.GoesOn = runs (look_in server).node ≡ true
  IsMeant server outcome.Over = IsOverAt (look_in server).node
  IsMeant server outcome.StoreReplaced = server.desk.company.is_replaced ≡ true
  IsMeant server outcome.StoreOlder = server.desk.company.is_older ≡ true
  IsMeant server (outcome.Failed fault) = FailsBy server fault
  IsMeant server outcome.LogFailed = server.desk.log_failed ≡ true

  -- a peer that is seen so has told that the match is over there, or wasn't heard for ten seconds at this moment
  abbrev pub NeedsNoWait : NodeServer D W disk wire → ℕ → ℕ → Option View → Type 0
  NeedsNoWait server now number None = Unit {0}
  NeedsNoWait server now number (Some view) = (tells_over (slice_get server.reports.all number) ≡ true) ⊎ (is_heard (max view.heard server.began) now UNHEARD ≡ false)

  -- so it is where that is another node than this one
  abbrev pub IsKnownAt : NodeServer D W disk wire → ℕ → ℕ → Type 0
  IsKnownAt server now number = (number ≡ (look_in server).number → ⊥) → NeedsNoWait server now number (view_of server.desk.company.peers number)

  -- of each node
  abbrev pub IsKnownEverywhere : NodeServer D W disk wire → ℕ → Type 0
  IsKnownEverywhere server now = (number : ℕ) → number < nodes_of server → IsKnownAt server now number
