use Rattle.std.proofs.Common.{◌∙◌, sym}
use Rattle.betting.specs.Betting.{history}
use Rattle.betting.proofs.Ranges.{no_range_over, no_range_closed, range_open, range_fixed}
use Rattle.betting.proofs.Kept.{seen_to_act, seen_seat}
use Rattle.betting.proofs.play.Play.raise_range.Goals as goal

pub returns-in_err-position-clause-ends : goal.returns-in_err-position-clause-ends
returns-in_err-position-clause-ends c = rw c.from_residual.ensures (no_range_over c.args.self.now.game (history c.args.self.now) (sym (seen_to_act c.self.inside c.args.self.now c.self.view_is c.self.invariant) ∙ c.in_err-position.was))

pub no_raise-requires : goal.no_raise-requires
no_raise-requires c = seen_seat c.self.inside c.args.self.now c.self.view_is c.self.invariant c.in_ok-position.position c.in_ok-position.was

pub raise_ends-requires : goal.raise_ends-requires
raise_ends-requires c = seen_seat c.self.inside c.args.self.now c.self.view_is c.self.invariant c.in_ok-position.position c.in_ok-position.was

pub returns-in-Some-clause-ends : goal.returns-in-Some-clause-ends
returns-in-Some-clause-ends c = no_range_closed c.args.self.now.game (history c.args.self.now) c.in_ok-position.position c.in-Some.field-0 (sym (seen_to_act c.self.inside c.args.self.now c.self.view_is c.self.invariant) ∙ c.in_ok-position.was) c.in-Some.ensures

pub returns-in-None-clause-ends : goal.returns-in-None-clause-ends
returns-in-None-clause-ends c = range_open c.args.self.now.game (history c.args.self.now) c.in_ok-position.position c.raise_ends.result.0 c.raise_ends.result.1 (sym (seen_to_act c.self.inside c.args.self.now c.self.view_is c.self.invariant) ∙ c.in_ok-position.was) c.in-None.ensures c.raise_ends.ensures.least c.raise_ends.ensures.greatest

pub returns-in-None-clause-fixed : goal.returns-in-None-clause-fixed
returns-in-None-clause-fixed c limit = range_fixed c.args.self.now.game (history c.args.self.now) c.in_ok-position.position c.raise_ends.result.0 c.raise_ends.result.1 limit c.raise_ends.ensures.least c.raise_ends.ensures.greatest
