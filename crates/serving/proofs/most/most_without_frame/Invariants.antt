use Rattle.dealer_world.specs.Viewing.{view_of}
use Rattle.serving.specs.Most.{CoversFirst}
use Rattle.serving.proofs.most.most_without_frame.Given as goal

-- no node so far shows more
abbrev pub invariant-loop-number : goal.invariant-loop-number
invariant-loop-number g l = CoversFirst l.number (view_of l.cluster) l.most
