use Rattle.std.proofs.Common.{◌≡◌, take}
use Rattle.std.specs.Prelude.{map}
use Rattle.dealer_node.specs.Seeing.{begun_of}
use Rattle.dealer_world.specs.Stepping.{Ran}
use Rattle.dealer_world.specs.Viewing.{view_of}
use Rattle.dealer_world.proofs.cluster.Cluster.run.Given as goal

abbrev pub invariant-loop-at : goal.invariant-loop-at
invariant-loop-at g l = record {
  same_config : l.self.config ≡ l.initial.self.config;
  begun : map (begun_of g.D.Disk) l.self.nodes.items ≡ map (begun_of g.D.Disk) l.initial.self.nodes.items;
  ran : Ran g.D.Disk (view_of l.initial.self) (take l.at l.initial.events) (view_of l.self);
}
