use Rattle.std.proofs.Common.{◌∙◌}
use Rattle.betting.proofs.Kept.{seen_unfolded}
use Rattle.betting.proofs.play.Play.unfolded.Goals as goal

pub returns : goal.returns
returns c = c.unfolded_count.ensures ∙ seen_unfolded c.self.inside c.args.self.now c.self.view_is c.self.invariant
