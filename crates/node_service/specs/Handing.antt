-- What is left once what a call made is handed on.
use Rattle.std.specs.Prelude.{◌≡◌, ◌+◌, ℕ, ◌++◌, map}
use Rattle.promise_store.specs.declared.disk.Disk.{Ghosts}
use Rattle.dealer_node.specs.Nodes.{Node}
use Rattle.node_wires.specs.Passages.{logged_in, seats_in, calls_in}
use Rattle.dealer_node.specs.Outs.{Told}
use Rattle.dealer_world.specs.Recordings.{text_by}
use Rattle.node_service.specs.Apartness.{PutsOffApart}
use Rattle.node_service.specs.Asking.{GivesOnly, IsNoLine}
use Rattle.node_service.specs.Bots.{KeepBots}
use Rattle.node_service.specs.Company.{Hears}
use Rattle.node_service.specs.Crossing.{Carries}
use Rattle.node_service.specs.Handed.{mark_handed}
use Rattle.node_service.specs.Seated.{SatBefore}
use Rattle.node_service.specs.Served.{Served}
use Rattle.node_service.specs.Showing.{added, LogGains}

-- the log gained its texts, and its frames were handed to the peers, in order; the bots of seats are told lines off tables of the node alone, up to its present
-- one, by which those begin that begin, and nobody was taken in; the node was called so often, and nothing else came of it
pub record HandsOn {D : Type 0} (g : Ghosts D) (count : ℕ) (made : Told) (old new : Served (Node D)) : Type 0 where
  pub calls : calls_in new.passed ≡ calls_in old.passed + count
  pub log : LogGains old.log_failed new.log_failed (added (map text_by made.shown)) (logged_in old.passed) (logged_in new.passed)
  pub sent : new.sent ≡ old.sent ++ map mark_handed made.frames
  pub bots : KeepBots new.look new.look old.bots new.bots
  pub sat : SatBefore old.bots new.bots
  pub seats : seats_in new.passed ≡ seats_in old.passed
  pub heard : new.heard ≡ old.heard
  pub guests : new.guests ≡ old.guests
  pub hears : Hears old.own new.own old.lines new.lines
  pub asked : GivesOnly IsNoLine old.askers new.askers
  pub waits : PutsOffApart old.apart new.apart old.bots new.bots
  pub carried : Carries old → Carries new
