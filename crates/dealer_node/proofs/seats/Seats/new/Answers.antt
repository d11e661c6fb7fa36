use Rattle.std.proofs.Common.{◌∙◌, ap, sym, subst, arith}
use Rattle.std.specs.Prelude.{None, replicate}
use Rattle.dealer_node.specs.Turned.{talks}
use Rattle.dealer_node.specs.SeatsInside.{AreOwn}
use Rattle.dealer_node.proofs.Seating.{none_own, none_talk}
use Rattle.dealer_node.proofs.seats.Seats.new.Goals as goal

pub invariant_of-result : goal.invariant_of-result
invariant_of-result c = record { kept = subst AreOwn (sym c.loop-step.invariant) (none_own c.loop-step.step) }

pub returns : goal.returns
returns c = ap talks c.loop-step.invariant ∙ (none_talk c.loop-step.step ∙ ap (λ n. replicate n None) (omega arith))
