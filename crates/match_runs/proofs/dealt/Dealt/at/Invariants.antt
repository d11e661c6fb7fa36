use Rattle.std.proofs.Common.{◌≡◌, ◌<◌, ℕ, length, get_or}
use Rattle.dealer_world.specs.Viewing.{view_of}
use Rattle.match_links.specs.declared.limits.TheConstants.{NODES}
use Rattle.match_runs.specs.Turning.{HasDealt}
use Rattle.match_runs.proofs.dealt.Dealt.at.Given as goal

-- the counts of the nodes before this one
abbrev pub invariant-loop-node : goal.invariant-loop-node
invariant-loop-node g l = record {
  places : length l.hands ≡ NODES;
  before : (i : ℕ) → i < l.node → HasDealt g.D.Disk (view_of l.cluster) i (get_or l.hands i 0);
}
