use Rattle.std.proofs.Common.{◌∙◌}
use Rattle.betting.proofs.Kept.{seen_round, seen_actions, seen_no_raise}
use Rattle.betting.proofs.play.Play.no_raise.Goals as goal

pub no_raise-requires-clause-round : goal.no_raise-requires-clause-round
no_raise-requires-clause-round c = seen_round c.self.inside c.args.self.now c.self.view_is c.self.invariant

pub no_raise-requires-clause-actions : goal.no_raise-requires-clause-actions
no_raise-requires-clause-actions c = seen_actions c.self.inside c.args.self.now c.self.view_is c.self.invariant

pub returns : goal.returns
returns c = c.no_raise.ensures ∙ seen_no_raise c.self.inside c.args.self.now c.self.view_is c.self.invariant c.args.position
