-- All nodes, and the runs that they make together.
use Rattle.std.specs.Prelude.{◌≡◌, ◌≢◌, ℕ, ◌<◌, List, [], ◌++◌}
use Rattle.protocol_model.specs.Messages.{Message}
use Rattle.protocol_model.specs.Dealers.{Dealer}
use Rattle.protocol_model.specs.Nodes.{Node, new_node}
use Rattle.protocol_model.specs.Arrivals.{Arrival}
use Rattle.protocol_model.specs.Moves.{Shown, Output, Move}

-- all nodes, all that was ever sent and shown, and all that ever came
pub record World : Type 0 where
  pub nodes : ℕ → Node
  -- all that was ever sent, and all that was ever shown, newest first
  pub ever : List Message
  pub shown : List Shown
  -- and all that ever came from outside
  pub came : List Arrival

-- node i went on to `new` with this output, and nothing else changed
pub record IsAfter (old : World) (i : ℕ) (out : Output) (node : Node) (new : World) : Type 0 where
  pub moved : new.nodes i ≡ node
  pub others : (j : ℕ) → j ≢ i → new.nodes j ≡ old.nodes j
  pub ever : new.ever ≡ out.sent ++ old.ever
  pub shown : new.shown ≡ out.shown ++ old.shown
  pub came : new.came ≡ out.came ++ old.came

-- the n nodes may go from the first world to the last, one move of one node after another, in any order
pub data Run (dealer : Dealer) (n : ℕ) (first : World) : World → Type 0 where
  start : Run dealer n first first
  more : (between : World) (i : ℕ) (out : Output) (node : Node) (last : World)
      → Run dealer n first between → i < n → Move dealer n i between.ever (between.nodes i) out node
      → IsAfter between i out node last → Run dealer n first last

-- no node was ever started
abbrev pub new_world : World
new_world = record { nodes = λ i. new_node; ever = []; shown = []; came = [] }

-- what a run from nodes that were never started reaches
abbrev pub Reached : Dealer → ℕ → World → Type 0
Reached dealer n world = Run dealer n new_world world
