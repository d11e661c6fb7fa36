-- A quorum's promises make a proposal.
use Rattle.std.proofs.Common.{◌≡◌, ℕ, ◌<◌, ◌≤◌, ◌+◌, ◌-◌, ◌*◌, ◌⊎◌, inl, inr, Bool, true, false, not, if◌then◌else◌, List, Option, Some, None, Result, Ok, Err, refl, sym, ap, subst, ◌∙◌, arith}
use Rattle.std.specs.Prelude.{is_some}
use Rattle.std.proofs.lemmas.Bool.{lt-ltb, le-ltb, ltb-true}
use Rattle.paxos_wire.specs.declared.limits.TheConstants.{WINDOW}
use Rattle.paxos_wire.specs.declared.ballot.Ballot.{Ballot}
use Rattle.paxos_wire.specs.declared.entry.Entry.{Entry}
use Rattle.slot_log.specs.declared.command.Command.{Command}
use Rattle.protocol_model.specs.Sets.{In}
use Rattle.protocol_model.specs.Messages.{Accept}
use Rattle.protocol_model.specs.Quorums.{count, IsFree}
use Rattle.protocol_model.specs.Nodes.{Node}
use Rattle.proposer.specs.declared.accept_run.AcceptRun.{AcceptRun}
use Rattle.proposer.specs.declared.campaign.Campaign.{Campaign}
use Rattle.proposer.specs.declared.fault.ProposeFault.{ProposeFault}
use Rattle.proposer.specs.declared.fault.ProposeFault.TheVariants.{OutOfWindow}
use Rattle.proposer.specs.Campaigns.{promise_by, has_promised, has_quorum, leads, is_covered, is_proposed, greatest_told}
use Rattle.proposer.specs.CommandRuns.{told_commands, commands_of, commands_at, accept_run_of, run_by, run_from_campaign}
use Rattle.proposer.specs.Counted.{HasQuorum, IsGreatest}
use Rattle.dealer_kind.specs.Kind.{dealer_of}
use Rattle.node_rules.specs.Standings.{Place, Standing, applied, front_of}
use Rattle.node_rules.specs.Proposing.{own_value}
use Rattle.node_rules.specs.Given.{Given}
use Rattle.node_rules.specs.Being.{Campaigns, Knows, IsOf}
use Rattle.node_rules.specs.Proposed.{IsValue}
use Rattle.node_rules.specs.Outcomes.{IsElected, HasValue, PromisesMakeProposals}
use Rattle.node_rules.proofs.Closing.{campaigns_of}
use Rattle.node_rules.proofs.Sent.{sent_by_chain}

-- ---- tests

pub covered : (first at : ℕ) → first ≤ at → at < first + WINDOW → is_covered first at ≡ true
covered first at low high = λ j. if le-ltb at first low j then false else lt-ltb at (first + WINDOW) high j

is_there : {A : Type 0} (o : Option A) → is_some o ≡ true → (a : A) × (o ≡ Some a)
is_there None e = absurd (cc)
is_there (Some a) e = (a, refl)

-- a promise that isn't there tells of nothing, and no own value: nothing to propose
no_value : (told : Option Entry) (behind : List Command) (own : Option Command) (c : Campaign) (at : ℕ)
    → ◌≡◌ {A = Result (Option AcceptRun) ProposeFault} (Ok (accept_run_of c at (commands_of told behind own))) (Ok None) → (told ≡ None) × (own ≡ None)
no_value None behind None c at e = (refl, refl)
no_value None behind (Some command) c at e = absurd (cc)
no_value (Some entry) behind own c at e = absurd (cc)

-- ---- promises that tell of nothing

silent : (g : Given) (n i : ℕ) (node : Node) (c : Campaign) (at : ℕ) → Campaigns n i node c → has_quorum n c ≡ true → c.first ≤ at → at < c.first + WINDOW → greatest_told c at n ≡ None
    → IsFree n node.has c.ballot at
silent g n i node c at h quorum low high none = (
  has_promised c,
  ltb-true n (2 * count (has_promised c) n) quorum,
  λ k below is.
      let told = is_there (promise_by c k) is in (
        c.first,
        told.0,
        h.counts k told.0 told.1,
        (low, omega arith),
        λ entry inside same. subst (IsGreatest n c at) none (g.greatest n c at) entry (k, told.0, below, told.1, inside, same),
      ),
)

-- ---- what is settled

pub record IsMarked (node : Node) (c : Campaign) (at : ℕ) : Type 0 where
  pub command : Command
  pub sent : In (Accept c.ballot at command) node.sent

marked_by : (g : Given) (n i : ℕ) (node : Node) (c : Campaign) (at : ℕ) (own : Option Command) → Campaigns n i node c → has_quorum n c ≡ true → c.first ≤ at → at < c.first + WINDOW
    → (IsFree n node.has c.ballot at → ⊥) ⊎ ((command : Command) × (own ≡ Some command)) → run_by n c at own ≡ Ok None → IsMarked node c at
marked_by g n i node c at own h quorum low high value e = by_mark (is_proposed c at) refl (sym opened ∙ e)
  where
    opened : run_by n c at own ≡ (if is_proposed c at then Ok None else Ok (accept_run_of c at (commands_at n c at own)))
    opened = λ j. if not (quorum j) then Ok None
        else if not (covered c.first at low high j) then Err OutOfWindow
        else if is_proposed c at then Ok None
        else Ok (accept_run_of c at (commands_at n c at own))

    by_mark : (b : Bool) → is_proposed c at ≡ b
        → ◌≡◌ {A = Result (Option AcceptRun) ProposeFault} (if is_proposed c at then Ok None else Ok (accept_run_of c at (commands_at n c at own))) (Ok None) → IsMarked node c at
    by_mark true eb k = let m = h.marks.only at (low, omega arith) eb in record { command = m.0; sent = m.1 }
    by_mark false eb k =
        let none = no_value (greatest_told c at n) (told_commands n c (WINDOW - 1) (at + 1)) own c at
        (sym (ap (λ (b : Bool). let r : Result (Option AcceptRun) ProposeFault = if b then Ok None else Ok (accept_run_of c at (commands_at n c at own)) in r) eb) ∙ k) in
        absurd (elim value [
          | inl told ↦ told (silent g n i node c at h quorum low high none.0)
          | inr held ↦ (let clash : ◌≡◌ {A = Option Command} None (Some held.0) = sym none.1 ∙ held.1 in let bad : ⊥ = cc in bad)
        ])

-- of a node that runs, between its calls
proposed_of : (g : Given) (own : ℕ → Command → Bool) (place : Place) (s : Standing) (node : Node) (ballot : Ballot) (first : ℕ) → IsOf own place s node → s.up ≡ true
    → IsElected place s node ballot first → HasValue place s node ballot
    → (command : Command) × IsValue place.nodes node.has ballot (front_of s) (own_value place s) command
    × (node.store.votes (front_of s) ≡ Some (record { ballot = ballot; command = command })) × In (Accept ballot (front_of s) command) node.sent
proposed_of g own place s node ballot first of up e value = (
  marked.command,
  subst (λ (b : Ballot). IsValue place.nodes node.has b (front_of s) (own_value place s) marked.command) e.stands_by.promised (k.proposals.by_rule marked.command sent_as),
  subst (λ (b : Ballot). node.store.votes (front_of s) ≡ Some (record { ballot = b; command = marked.command })) e.stands_by.promised (k.proposals.voted (front_of s) marked.command sent_as),
  subst (λ (b : Ballot). In (Accept b (front_of s) marked.command) node.sent) e.stands_by.promised sent_as,
)
  where
    k : Knows (dealer_of place.setting own) place (applied s) s node
    k = (of.runs up).knows

    found : (c : Campaign) × (s.campaign ≡ Some c) × (c.ballot ≡ ballot) × (c.first ≡ first)
    found = k.proposer.stands ballot first e.stands_by e.near e.is_slot

    c : Campaign
    c = found.0

    camp : Campaigns place.nodes place.node node found.0
    camp = campaigns_of place.nodes place.node node s.campaign found.0 found.1 k.proposer.is_campaign

    quorum : has_quorum place.nodes found.0 ≡ true
    quorum = (g.quorum place.nodes node.has found.0 camp.counts camp.counts_all).1
        (subst (λ (b : Ballot). HasQuorum place.nodes node.has b found.0.first) (sym found.2) (subst (HasQuorum place.nodes node.has ballot) (sym found.3) e.quorum))

    none : run_by place.nodes found.0 (front_of s) (own_value place s) ≡ Ok None
    none = ap (λ (y : Option Campaign). run_from_campaign place.nodes y (front_of s) (own_value place s)) (sym found.1)
        ∙ ((of.runs up).settled (ap (leads place.nodes) found.1 ∙ quorum)).1

    marked : IsMarked node found.0 (front_of s)
    marked = marked_by g place.nodes place.node node found.0 (front_of s) (own_value place s) camp quorum
        (subst (λ (f : ℕ). f ≤ front_of s) (sym found.3) (k.proposer.began ballot first e.stands_by.began).2)
        (subst (λ (f : ℕ). front_of s < f + WINDOW) (sym found.3) e.near)
        (subst (λ (b : Ballot). (IsFree place.nodes node.has b (front_of s) → ⊥) ⊎ ((command : Command) × (own_value place s ≡ Some command))) (sym found.2) value) none

    sent_as : In (Accept node.store.promise (front_of s) marked.command) node.sent
    sent_as = subst (λ (b : Ballot). In (Accept b (front_of s) marked.command) node.sent) (sym (e.stands_by.promised ∙ sym found.2)) marked.sent

pub promises_make_proposals : Given → PromisesMakeProposals
promises_make_proposals g own place world s called turn ballot first answered taken e value =
    let last : Node = taken.called.last in
    let p = proposed_of g own place turn.after last ballot first taken.called.of answered.runs e value in
    record {
      command = p.0;
      value = p.1;
      voted = p.2;
      sent = p.3;
      said = elim (sent_by_chain (dealer_of place.setting own) place.nodes place.node world.ever (world.nodes place.node) taken.called.output last (Accept ballot (front_of turn.after) p.0) taken.called.chain p.3) [
        | inl now ↦ inr (λ to below other. taken.all_carried.to_all (Accept ballot (front_of turn.after) p.0) now tt to below other)
        | inr before ↦ inl before
      ];
    }
