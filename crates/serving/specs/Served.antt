-- A server as it is seen: its cluster, what it knows beside it, and an event that waits to be given again; what passed over its links,
-- and how many pieces of the record were given; which node was called last, and by what that call was refused; and what a seat sent that was
-- read last.
use Rattle.std.specs.Prelude.{ℕ, List, Option}
use Rattle.match_links.specs.Passages.{Passage}
use Rattle.dealer_node.specs.declared.fault.NodeFault.{NodeFault}
use Rattle.dealer_world.specs.Stepping.{View}
use Rattle.serving.specs.declared.progress.Progress.{Progress}
use Rattle.serving.specs.declared.waiting.Waiting.{Waiting}

pub record Served (N : Type 0) : Type 0 where
  pub view : View N
  pub progress : Progress
  pub waiting : Option Waiting
  pub passed : List Passage
  pub shown : ℕ
  pub called : ℕ
  pub refused : Option NodeFault
  pub piece : List ℕ
