-- What one thing after another that is taken leaves, and how many are.
use Rattle.std.specs.Prelude.{ℕ, ◌-◌, nat_le, ◌&&◌, Bool, true, false, List}
use Rattle.promise_store.specs.declared.disk.Disk.{Ghosts}
use Rattle.dealer_node.specs.Nodes.{Node}
use Rattle.node_service.specs.Arriving.{Incoming, peers_of}
use Rattle.node_service.specs.Crossing.{HasNoLife, EndsAtLife}
use Rattle.node_service.specs.Going.{GoesOnWith}
use Rattle.node_service.specs.Served.{Served}
use Rattle.node_service.specs.Turns.{AreFrames, ComeOfPeers}
use Rattle.node_service.specs.declared.limits.TheConstants.{CALLS, LEAST_TAKEN}
use Rattle.node_service.specs.declared.taking.Taken.{Taken}
use Rattle.node_service.specs.declared.taking.Taken.TheVariants as taken

-- so many things are taken of peers in any case: one, and up to four while the next one costs no sync
abbrev pub least_of : Bool → ℕ
least_of true = LEAST_TAKEN
least_of false = 1

-- so many are enough for a turn: 20 ms have passed since the first was begun
abbrev pub is_enough : (taken : ℕ) (costs_no_sync : Bool) (begun now : ℕ) → Bool
is_enough taken costs_no_sync begun now = nat_le (least_of costs_no_sync) taken && nat_le CALLS (now - begun)

-- behind a node whose life is to be kept the rest waits for the next turn
abbrev pub StopsAtLife : Taken → List Incoming → Type 0
StopsAtLife taken.Nothing things = HasNoLife (peers_of things)
StopsAtLife taken.One things = HasNoLife (peers_of things)
StopsAtLife taken.Last things = EndsAtLife (peers_of things)

module _ {D : Type 0} (g : Ghosts D) where
  abbrev pub TakesNext : Taken → Served (Node D) → Served (Node D) → Type 0
  TakesNext taken.Nothing old new = GoesOnWith g AreFrames old new
  TakesNext taken.One old new = GoesOnWith g AreFrames old new
  TakesNext taken.Last old new = GoesOnWith g ComeOfPeers old new
