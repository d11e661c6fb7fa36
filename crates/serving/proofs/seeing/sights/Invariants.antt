use Rattle.std.proofs.Common.{◌≡◌, ◌<◌, ℕ, get_or}
use Rattle.arrayvec.specs.ArrayVec.{array_vec_len}
use Rattle.match_file.specs.Outages.{is_node_out}
use Rattle.dealer_node.specs.Nodes.{Node}
use Rattle.dealer_world.specs.Viewing.{view_of}
use Rattle.serving.specs.declared.known.NodeSight.{NodeSight}
use Rattle.serving.specs.Outing.{outages_in}
use Rattle.serving.specs.Sights.{IsSight}
use Rattle.serving.proofs.seeing.sights.Given as goal

abbrev pub invariant-loop-number : goal.invariant-loop-number
invariant-loop-number g l = record {
  count : array_vec_len l.sights ≡ l.number;
  each : (i : ℕ) (node : Node g.row.D.Denot) (sight : NodeSight) → i < l.number
      → IsSight g.D.Disk (get_or (view_of l.cluster).nodes i node) (is_node_out (outages_in l.outages) l.count i) (get_or l.sights.items i sight);
}
