use Rattle.std.proofs.Common.{◌≡◌, ◌<◌, ℕ, false, get_or}
use Rattle.dealer_node.specs.Nodes.{Node}
use Rattle.dealer_node.specs.Seeing.{runs}
use Rattle.dealer_world.specs.Viewing.{view_of}
use Rattle.serving.proofs.seeing.lowest_front.Given as goal

-- no node before this one runs
abbrev pub invariant-loop-number : goal.invariant-loop-number
invariant-loop-number g l = (node : Node g.row.D.Denot) (j : ℕ) → j < l.number → runs (get_or (view_of l.cluster).nodes j node) ≡ false
