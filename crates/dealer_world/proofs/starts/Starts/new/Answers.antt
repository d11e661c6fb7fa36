use Rattle.std.proofs.Common.{List, replicate, sym, subst}
use Rattle.dealer_world.specs.declared.begun.Begun.{Begun}
use Rattle.dealer_world.specs.KeptStarts.{AreCounted}
use Rattle.dealer_world.proofs.Counting.{none_counted}
use Rattle.dealer_world.proofs.starts.Starts.new.Goals as goal

pub invariant_of-result : goal.invariant_of-result
invariant_of-result c = subst (λ (begun : List Begun). AreCounted begun (replicate 256 0)) (sym c.new.ensures.items) none_counted
