use Rattle.betting.proofs.Kept.{seen_within_stack, seen_within_most}
use Rattle.betting.proofs.play.Play.spent.Goals as goal

pub returns-clause-most : goal.returns-clause-most
returns-clause-most c = seen_within_stack c.self.inside c.args.self.now c.self.view_is c.self.invariant c.args.position c.requires

pub returns-clause-greatest : goal.returns-clause-greatest
returns-clause-greatest c = seen_within_most c.self.inside c.args.self.now c.self.view_is c.self.invariant c.args.position c.requires
