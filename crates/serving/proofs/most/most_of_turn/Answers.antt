use Rattle.std.proofs.Common.{Option, subst}
use Rattle.dealer_world.specs.Records.{Frame}
use Rattle.dealer_world.specs.Viewing.{view_of}
use Rattle.serving.specs.Most.{CoversSome}
use Rattle.serving.proofs.most.most_of_turn.Goals as goal

-- the room is for the frame that comes next
pub returns : goal.returns
returns g c = (
  c.most_shown.ensures.each,
  subst (λ (frame : Option Frame). CoversSome (view_of c.args.cluster.now) frame c.most_shown.result) c.frame_of_turn.ensures c.most_shown.ensures.frame,
)
