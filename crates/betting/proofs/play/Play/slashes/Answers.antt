use Rattle.betting.proofs.Kept.{kept_few}
use Rattle.betting.proofs.play.Play.slashes.Goals as goal

pub returns-clause-few : goal.returns-clause-few
returns-clause-few c = kept_few c.self.inside c.self.invariant
