use Rattle.std.proofs.Common.{◌∙◌}
use Rattle.betting.proofs.Kept.{seen_round, seen_least_raise, seen_greatest_raise}
use Rattle.betting.proofs.play.Play.raise_ends.Goals as goal

pub raise_ends-requires-clause-round : goal.raise_ends-requires-clause-round
raise_ends-requires-clause-round c = seen_round c.self.inside c.args.self.now c.self.view_is c.self.invariant

pub returns-clause-least : goal.returns-clause-least
returns-clause-least c = c.raise_ends.ensures.least ∙ seen_least_raise c.self.inside c.args.self.now c.self.view_is c.self.invariant c.args.position

pub returns-clause-greatest : goal.returns-clause-greatest
returns-clause-greatest c = c.raise_ends.ensures.greatest ∙ seen_greatest_raise c.self.inside c.args.self.now c.self.view_is c.self.invariant c.args.position
