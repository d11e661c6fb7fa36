use Rattle.betting.proofs.Start.{kept_start}
use Rattle.betting.proofs.play.Play.new.Goals as goal

pub invariant_of-result : goal.invariant_of-result
invariant_of-result c = kept_start c.args.game.now c.limits.ensures c.room_for_actions.result c.room_for_actions.ensures c.room_for_slashes.result c.room_for_slashes.ensures c.new.result c.new.ensures
