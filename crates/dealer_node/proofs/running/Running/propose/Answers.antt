use Rattle.std.proofs.Common.{◌<◌, ◌∙◌, ap, sym, subst, refl}
use Rattle.paxos_wire.specs.declared.limits.TheConstants.{SLOTS}
use Rattle.proposer.specs.Campaigns.{Proposing}
use Rattle.dealer_node.proofs.Proposed.{made_fits, within_bound, close_proposed, close_outside}
use Rattle.dealer_node.proofs.running.Running.propose.Goals as goal

pub returns-in-Ok-clause-closes : goal.returns-in-Ok-clause-closes
returns-in-Ok-clause-closes c = λ s is.
    close_proposed c.args.member.now c.args.self.now s c.requires.at is _ c.own_value-own.result c.front-front.result c.in-Ok.proposal
    (sym c.in-Ok.is ∙ c.propose_run.ensures.proposal) c.front-front.ensures.value (c.own_value-own.ensures.value s is.hands is.waits) (λ leading. c.requires.left)
    (ap (λ (p : Proposing). p.campaign) c.in-Ok.ensures.marked) refl

pub returns-in-Ok-clause-fits : goal.returns-in-Ok-clause-fits
returns-in-Ok-clause-fits c =
    made_fits c.args.self.now.proposer.nodes c.front-front.result c.args.self.now.proposer.campaign c.own_value-own.result c.in-Ok.proposal
    (sym c.in-Ok.is ∙ c.propose_run.ensures.proposal) c.requires.at.ballots (subst (λ k. k < SLOTS) (sym c.front-front.ensures.value) c.requires.left)
    (c.own_value-own.ensures.range c.requires.at.act)

pub returns-in-Ok-clause-bounded : goal.returns-in-Ok-clause-bounded
returns-in-Ok-clause-bounded c = λ most bounded.
    within_bound c.args.self.now.proposer most c.front-front.result c.own_value-own.result c.in-Ok.proposal (sym c.in-Ok.is ∙ c.propose_run.ensures.proposal) bounded

pub returns-in-Err-clause-closes : goal.returns-in-Err-clause-closes
returns-in-Err-clause-closes c = λ s is.
    close_outside c.args.member.now c.args.self.now s c.requires.at is _ c.own_value-own.result c.front-front.result c.in-Err.field-0
    (sym c.in-Err.is ∙ c.propose_run.ensures.proposal) c.front-front.ensures.value (c.own_value-own.ensures.value s is.hands is.waits) (λ leading. c.requires.left)
    (ap (λ (p : Proposing). p.campaign) c.turn_idle.ensures) refl
