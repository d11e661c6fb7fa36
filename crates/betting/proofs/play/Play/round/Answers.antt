use Rattle.betting.proofs.Kept.{seen_round}
use Rattle.betting.proofs.play.Play.round.Goals as goal

pub returns-clause-last : goal.returns-clause-last
returns-clause-last c = seen_round c.self.inside c.args.self.now c.self.view_is c.self.invariant
