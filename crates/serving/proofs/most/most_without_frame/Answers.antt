use Rattle.std.proofs.Common.{arith}
use Rattle.dealer_world.specs.Viewing.{view_of}
use Rattle.serving.proofs.Covering.{covers_more}
use Rattle.serving.proofs.most.most_without_frame.Goals as goal

pub loop-number-init : goal.loop-number-init
loop-number-init g c = record { pieces = λ node less. absurd (omega (arith, less)); bytes = λ node less. absurd (omega (arith, less)) }

pub loop-number-preserved : goal.loop-number-preserved
loop-number-preserved g c =
    covers_more (view_of c.args.cluster.now) c.loop-number.number c.loop-number.most c.most_shown.result c.greater-most.result c.most_shown.ensures c.greater-most.ensures.pieces c.greater-most.ensures.bytes c.loop-number.invariant
