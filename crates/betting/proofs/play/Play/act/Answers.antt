use Rattle.std.proofs.Common.{◌≡◌, ◌∙◌, Some, None, Option, refl, sym, rules}
use Rattle.betting.specs.Betting.{history}
use Rattle.betting.specs.declared.fault.ActFault.{ActFault}
use Rattle.betting.proofs.Legal.{can_act-none, none-can_act}
use Rattle.betting.proofs.play.Play.act.Goals as goal

pub returns-in-Some-clause-allowed : goal.returns-in-Some-clause-allowed
returns-in-Some-clause-allowed c = (
  λ wrong. absurd (cc),
  λ can. let wrong : ◌≡◌ {A = Option ActFault} (Some c.in-Some.fault) None = c.in-Some.ensures ∙ can_act-none c.args.self.now.game (history c.args.self.now) c.args.action can in absurd (cc),
)

pub returns-clause-allowed : goal.returns-clause-allowed
returns-clause-allowed c = (λ _. none-can_act c.args.self.now.game (history c.args.self.now) c.args.action (sym c.fault.ensures ∙ c.in_default.is), λ _. refl)

pub take_action-requires : goal.take_action-requires
take_action-requires c = none-can_act c.args.self.now.game (history c.args.self.now) c.args.action (sym c.fault.ensures ∙ c.in_default.is)

pub returns-in-Some-clause-after : goal.returns-in-Some-clause-after
returns-in-Some-clause-after c = search rules
