use Rattle.std.proofs.Common.{◌≤◌, ap, sym, ◌∙◌, subst, refl}
use Rattle.paxos_wire.specs.declared.limits.TheConstants.{SLOTS}
use Rattle.proposer.specs.Campaigns.{Proposing, leads}
use Rattle.dealer_node.proofs.Proposed.{close_spent}
use Rattle.dealer_node.proofs.running.Running.proposal.Goals as goal

pub returns-then-front-ge-SLOTS-clause-closes : goal.returns-then-front-ge-SLOTS-clause-closes
returns-then-front-ge-SLOTS-clause-closes c = λ s is.
    close_spent c.args.member.now c.args.self.now s c.requires.at is _ (ap (λ n. leads n c.args.self.now.proposer.campaign) (sym c.requires.at.nodes) ∙ c.requires.leading) (subst (λ k. SLOTS ≤ k) c.front.ensures.value c.if-front-ge-SLOTS.true)
    (ap (λ (p : Proposing). p.campaign) c.turn_idle.ensures) refl
