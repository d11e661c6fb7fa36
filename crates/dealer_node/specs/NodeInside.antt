-- What the fields of a node keep, and the node that they make.
use Rattle.std.specs.Prelude.{[], IfSome, IsSome}
use Rattle.dealer_node.specs.declared.node.Node.TheInside.{Inside}
use Rattle.dealer_node.specs.Nodes.{Node}
use Rattle.dealer_node.specs.Seeing.{disk_by}
use Rattle.dealer_node.specs.Running.{IsAt}
use Rattle.dealer_node.specs.Scenes.{IsTableOf}

module _ {D : Type 0} where
  abbrev pub node_of : Inside D → Node D
  node_of n = record { member = n.member; blank = n.blank; disk = n.disk; up = n.up }

  -- what runs, runs at the node's member; a node that is down has its disk; and no hand was dealt at the blank table
  pub record IsKept (n : Inside D) : Type 0 where
    pub at : IfSome n.up (λ up. IsAt n.member up.running)
    pub has_disk : IsSome (disk_by n.up n.disk)
    pub blank : IsTableOf n.member.setting [] n.blank
