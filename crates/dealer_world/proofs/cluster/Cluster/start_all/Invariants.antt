use Rattle.std.proofs.Common.{◌≡◌, List, IsTrue}
use Rattle.node_rules.specs.Standings.{Standing}
use Rattle.dealer_world.specs.Ruling.{AreSeen}
use Rattle.std.specs.List.{AllZip}
use Rattle.dealer_world.specs.Beginning.{Starts, IsOpenedSince, MarkFirst}
use Rattle.dealer_world.specs.Viewing.{view_of}
use Rattle.dealer_world.proofs.Opened.{Wait, AreDown, HaveFirst}
use Rattle.dealer_world.proofs.cluster.Cluster.start_all.Given as goal

abbrev pub invariant-loop-node : goal.invariant-loop-node
invariant-loop-node g l = record {
  same_config : l.self.config ≡ l.initial.self.config;
  same_opened : l.self.opened ≡ l.initial.self.opened;
  started : Starts g.D.Disk (view_of l.initial.self) l.node (view_of l.self);
  seen : (standings : List Standing) → IsTrue g.D.Disk.is_honest → AreSeen g.D.Disk l.initial.self.nodes.items standings → (after : List Standing) × AreSeen g.D.Disk l.self.nodes.items after;
  opens : AllZip (IsOpenedSince g.D.Disk) l.initial.self.nodes.items l.self.nodes.items;
  marks : IsTrue g.D.Disk.is_honest → AreDown g.D.Disk l.initial.self.nodes.items → MarkFirst g.D.Disk l.initial.self.nodes.items l.node l.self.nodes.items;
  waits : Wait g.D.Disk l.initial.self.nodes.items l.node l.self.nodes.items;
  stores : IsTrue g.D.Disk.is_honest → AreDown g.D.Disk l.initial.self.nodes.items → HaveFirst g.D.Disk l.initial.self.nodes.items l.node;
}
