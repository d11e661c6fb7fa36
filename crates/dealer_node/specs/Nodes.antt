-- A node, as contracts see it.
use Rattle.std.specs.Prelude.{Option}
use Rattle.slot_log.specs.Hand.{Match}
use Rattle.dealer_node.specs.declared.up.Up.{Up}
use Rattle.dealer_node.specs.Members.{Membership}

-- what a node has while it is down, and while it runs
pub record Node (D : Type 0) : Type 0 where
  pub member : Membership
  -- the table that it shows while it is down
  pub blank : Match
  -- its disk, while it is down
  pub disk : Option D
  -- its acceptor and what it holds in memory, while it runs
  pub up : Option (Up D)
