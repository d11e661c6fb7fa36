use Rattle.betting.proofs.Kept.{seen_finished}
use Rattle.betting.proofs.play.Play.finished.Goals as goal

pub returns : goal.returns
returns c = seen_finished c.self.inside c.args.self.now c.self.view_is c.self.invariant c.is_none.result c.is_none.ensures
