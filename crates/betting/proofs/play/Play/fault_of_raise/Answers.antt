use Rattle.std.proofs.Common.{◌∙◌, sym}
use Rattle.betting.specs.Betting.{history}
use Rattle.betting.proofs.Legal.{fault_of_raise-closed, amount_small, amount_large, amount_right}
use Rattle.betting.proofs.play.Play.fault_of_raise.Goals as goal

pub returns-in-Some : goal.returns-in-Some
returns-in-Some c = sym (fault_of_raise-closed c.args.self.now.game (history c.args.self.now) c.args.position c.args.amount c.in-Some.fault (sym c.in-Some.ensures))

pub returns-then-amount-least : goal.returns-then-amount-least
returns-then-amount-least c = amount_small c.args.self.now.game (history c.args.self.now) c.args.position c.args.amount (sym c.in_default.is ∙ c.no_raise.ensures) c.raise_ends-least.result.0 c.raise_ends-least.ensures.least c.if-amount-least.true

pub returns-then-amount-greatest : goal.returns-then-amount-greatest
returns-then-amount-greatest c = amount_large c.args.self.now.game (history c.args.self.now) c.args.position c.args.amount (sym c.in_default.is ∙ c.no_raise.ensures) c.raise_ends-least.result.0 c.raise_ends-least.result.1 c.raise_ends-least.ensures.least c.raise_ends-least.ensures.greatest c.if-amount-least.false c.if-amount-greatest.true

pub returns-else-amount-greatest : goal.returns-else-amount-greatest
returns-else-amount-greatest c = amount_right c.args.self.now.game (history c.args.self.now) c.args.position c.args.amount (sym c.in_default.is ∙ c.no_raise.ensures) c.raise_ends-least.result.0 c.raise_ends-least.result.1 c.raise_ends-least.ensures.least c.raise_ends-least.ensures.greatest c.if-amount-least.false c.if-amount-greatest.false
