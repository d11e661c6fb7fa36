use Rattle.betting.proofs.Kept.{seen_next}
use Rattle.betting.proofs.play.Play.to_act.Goals as goal

pub returns-clause-seat : goal.returns-clause-seat
returns-clause-seat c = seen_next c.self.inside c.args.self.now c.self.view_is c.self.invariant
