-- What a node proposes at once, for its front and the slots behind it: a proposal for each slot, and what they make of what it proposed before.
use Rattle.std.proofs.Common.{◌≡◌, ℕ, ◌+◌, ◌-◌, ◌<◌, ◌≤◌, ◌⊎◌, inl, inr, List, [], ◌∷◌, ◌++◌, Option, Some, None, Ok, refl, sym, ap, subst, ◌∙◌, arith, length, slice_get}
use Rattle.paxos_wire.specs.declared.ballot.Ballot.{Ballot}
use Rattle.slot_log.specs.declared.command.Command.{Command}
use Rattle.protocol_model.specs.Sets.{In}
use Rattle.protocol_model.specs.Messages.{Message, Accept, Accepted}
use Rattle.protocol_model.specs.Frames.{proposals, answers}
use Rattle.protocol_model.specs.CommandRuns.{proposed, MayProposeEach}
use Rattle.protocol_model.specs.Quorums.{IsFree, IsGreatestTold}
use Rattle.protocol_model.specs.Votes.{command_run_at, taking_command_run}
use Rattle.protocol_model.specs.Stores.{Store}
use Rattle.proposer.specs.declared.campaign.Campaign.{Campaign}
use Rattle.proposer.specs.CommandRuns.{marked_run_from}
use Rattle.proposer.specs.CommandRunLaws.{IsAlone}
use Rattle.node_rules.specs.Given.{Given}
use Rattle.node_rules.specs.Proposed.{IsValue, IsProposed}
use Rattle.protocol_model.proofs.Sets.{Within, in_first, in_later, in_split, only_in}
use Rattle.node_rules.proofs.Proposed.{accept_is}

pub unmarked : (c : Option Campaign) → marked_run_from c (Ok None) ≡ c
unmarked None = refl
unmarked (Some c) = refl

-- ---- a proposal for each slot

pub proposal_is : (ballot : Ballot) (slot : ℕ) (commands : List Command) (m : Message) → In m (proposals ballot slot commands) → (k : ℕ) × (c : Command) × (m ≡ Accept ballot k c)
proposal_is ballot slot [] m h = absurd h
proposal_is ballot slot (command ∷ more) m (inl e) = (slot, command, e)
proposal_is ballot slot (command ∷ more) m (inr h) = proposal_is ballot (slot + 1) more m h

-- as a frame carries them, and as moves send them
pub in_proposed : (ballot : Ballot) (slot : ℕ) (commands : List Command) → Within (proposals ballot slot commands) (proposed ballot slot commands)
in_proposed ballot slot [] m h = absurd h
in_proposed ballot slot (command ∷ more) m (inl e) = in_later (proposed ballot (slot + 1) more) (Accept ballot slot command ∷ []) m (inl e)
in_proposed ballot slot (command ∷ more) m (inr h) =
    in_first (proposed ballot (slot + 1) more) (Accept ballot slot command ∷ []) m (in_proposed ballot (slot + 1) more m h)

pub in_proposals : (ballot : Ballot) (slot : ℕ) (commands : List Command) → Within (proposed ballot slot commands) (proposals ballot slot commands)
in_proposals ballot slot [] m h = absurd h
in_proposals ballot slot (command ∷ more) m h = elim (in_split (proposed ballot (slot + 1) more) (Accept ballot slot command ∷ []) m h) [
  | inl later ↦ inr (in_proposals ballot (slot + 1) more m later)
  | inr first ↦ inl (only_in m (Accept ballot slot command) first)
]

pub proposed_is : (ballot : Ballot) (slot : ℕ) (commands : List Command) (m : Message) → In m (proposed ballot slot commands) → (k : ℕ) × (c : Command) × (m ≡ Accept ballot k c)
proposed_is ballot slot commands m h = proposal_is ballot slot commands m (in_proposals ballot slot commands m h)

-- each has its answer
answer_parts : (i : ℕ) (a b : Ballot) (k l : ℕ) (c d : Command) → ◌≡◌ {A = Message} (Accept a k c) (Accept b l d) → ◌≡◌ {A = Message} (Accepted i a k c) (Accepted i b l d)
answer_parts i a b k l c d e = cc

pub answer_of : (i : ℕ) (ballot : Ballot) (slot : ℕ) (commands : List Command) (b : Ballot) (k : ℕ) (c : Command) → In (Accept b k c) (proposals ballot slot commands)
    → In (Accepted i b k c) (answers i ballot slot commands)
answer_of i ballot slot [] b k c h = absurd h
answer_of i ballot slot (command ∷ more) b k c (inl e) = inl (answer_parts i b ballot k slot c command e)
answer_of i ballot slot (command ∷ more) b k c (inr h) = inr (answer_of i ballot (slot + 1) more b k c h)

here_or_behind : (slot k : ℕ) → slot ≤ k → (k ≡ slot) ⊎ (slot + 1 ≤ k)
here_or_behind slot k low = grind arith

-- one stands at each slot
pub at_slot : (ballot : Ballot) (slot : ℕ) (commands : List Command) (k : ℕ) → slot ≤ k → k < slot + length commands → (c : Command) × In (Accept ballot k c) (proposals ballot slot commands)
at_slot ballot slot [] k low high = absurd (omega (arith, low, high))
at_slot ballot slot (command ∷ more) k low high = elim (here_or_behind slot k low) [
  | inl same ↦ (command, inl (ap (λ (n : ℕ). Accept ballot n command) same))
  | inr above ↦ (let t = at_slot ballot (slot + 1) more k above (omega (arith, high)) in (t.0, inr t.1))
]

pub in_or_out : (slot count k : ℕ) → ((k < slot) ⊎ (slot + count ≤ k)) ⊎ ((slot ≤ k) × (k < slot + count))
in_or_out slot count k = by_low (low_or_not k slot) (low_or_not k (slot + count))
  where
    low_or_not : (a b : ℕ) → (a < b) ⊎ (b ≤ a)
    low_or_not a b = grind arith

    by_low : (k < slot) ⊎ (slot ≤ k) → (k < slot + count) ⊎ (slot + count ≤ k) → ((k < slot) ⊎ (slot + count ≤ k)) ⊎ ((slot ≤ k) × (k < slot + count))
    by_low (inl low) other = inl (inl low)
    by_low (inr high) (inl within) = inr (high, within)
    by_low (inr high) (inr past) = inl (inr past)

-- ---- where the commands come from

each_told : (n : ℕ) (has sent : List Message) (ballot : Ballot) (slot : ℕ) (commands : List Command) → MayProposeEach n has sent ballot slot commands
    → (k : ℕ) (c : Command) → In (Accept ballot k c) (proposals ballot slot commands) → IsGreatestTold n has ballot k c
each_told n has sent ballot slot [] may k c h = absurd h
each_told n has sent ballot slot (command ∷ more) may k c (inl e) =
    let same = accept_is ballot ballot k slot c command e in
    subst (λ (s : ℕ). IsGreatestTold n has ballot s c) (sym same.1) (subst (IsGreatestTold n has ballot slot) (sym same.2) may.0)
each_told n has sent ballot slot (command ∷ more) may k c (inr h) = each_told n has sent ballot (slot + 1) more may.2 k c h

each_once : (n : ℕ) (has sent : List Message) (ballot : Ballot) (slot : ℕ) (commands : List Command) → MayProposeEach n has sent ballot slot commands
    → (k : ℕ) → slot ≤ k → k < slot + length commands → (other : Command) → In (Accept ballot k other) sent → ⊥
each_once n has sent ballot slot [] may k low high other h = omega (arith, low, high)
each_once n has sent ballot slot (command ∷ more) may k low high other h = elim (here_or_behind slot k low) [
  | inl same ↦ may.1 other (subst (λ (s : ℕ). In (Accept ballot s other) sent) same h)
  | inr above ↦ each_once n has sent ballot (slot + 1) more may.2 k above (omega (arith, high)) other h
]

-- told commands, or one of the node's own, alone; and nothing was proposed at their slots
abbrev pub IsSource : ℕ → List Message → List Message → Option Command → Ballot → ℕ → List Command → Type 0
IsSource n has sent own ballot slot commands = MayProposeEach n has sent ballot slot commands ⊎ IsAlone n has sent ballot slot own commands

-- of one of the slots
abbrev pub IsSourceAt : ℕ → List Message → Option Command → Ballot → ℕ → ℕ → Command → Type 0
IsSourceAt n has own ballot slot k command = IsGreatestTold n has ballot k command ⊎ ((k ≡ slot) × IsFree n has ballot slot × (own ≡ Some command))

pub source_at : (n : ℕ) (has sent : List Message) (own : Option Command) (ballot : Ballot) (slot : ℕ) (commands : List Command) → IsSource n has sent own ballot slot commands
    → (k : ℕ) (c : Command) → In (Accept ballot k c) (proposals ballot slot commands) → IsSourceAt n has own ballot slot k c
source_at n has sent own ballot slot commands (inl may) k c h = inl (each_told n has sent ballot slot commands may k c h)
source_at n has sent own ballot slot commands (inr alone) k c h =
    let one : In (Accept ballot k c) (Accept ballot slot alone.0 ∷ []) = subst (λ (cs : List Command). In (Accept ballot k c) (proposals ballot slot cs)) alone.1 h in
    let same = accept_is ballot ballot k slot c alone.0 (only_in (Accept ballot k c) (Accept ballot slot alone.0) one) in
    inr (same.1, alone.3, subst (λ (d : Command). own ≡ Some d) (sym same.2) alone.2)

pub source_once : (n : ℕ) (has sent : List Message) (own : Option Command) (ballot : Ballot) (slot : ℕ) (commands : List Command) → IsSource n has sent own ballot slot commands
    → (k : ℕ) → slot ≤ k → k < slot + length commands → (other : Command) → In (Accept ballot k other) sent → ⊥
source_once n has sent own ballot slot commands (inl may) k low high other h = each_once n has sent ballot slot commands may k low high other h
source_once n has sent own ballot slot commands (inr alone) k low high other h =
    let one : length commands ≡ 1 = ap (λ (cs : List Command). length cs) alone.1 in
    let same : k ≡ slot = omega (arith, low, high, one) in
    alone.4 other (subst (λ (s : ℕ). In (Accept ballot s other) sent) same h)

-- ---- what the node proposed, once they are proposed and voted for

pub promise_is : (g : Given) (store : Store) (ballot : Ballot) (slot : ℕ) (commands : List Command) → store.promise ≡ ballot → (taking_command_run store ballot slot commands).promise ≡ ballot
promise_is g store ballot slot commands same = elim (g.command_run_promise store ballot slot commands) [ inl e ↦ e ∙ same | inr e ↦ e ]

-- the store has each vote at its slot
pub votes_at : (g : Given) (store : Store) (ballot : Ballot) (slot : ℕ) (commands : List Command) → command_run_at store ballot slot commands ≡ commands
    → (k : ℕ) (c : Command) → In (Accept ballot k c) (proposals ballot slot commands) → (taking_command_run store ballot slot commands).votes k ≡ Some (record { ballot = ballot; command = c })
votes_at g store ballot slot commands whole k c h =
    let here = (g.in_proposals ballot ballot slot k c commands).0 h in
    let low = here.1 in
    let place : slot + (k - slot) ≡ k = omega (arith, low) in
    subst (λ (s : ℕ). (taking_command_run store ballot slot commands).votes s ≡ Some (record { ballot = ballot; command = c })) place
    (g.command_run_votes_at store ballot slot (k - slot) c commands (ap (λ (cs : List Command). slice_get cs (k - slot)) whole ∙ here.3))

-- and elsewhere what it had
pub votes_outside : (g : Given) (store : Store) (ballot : Ballot) (slot : ℕ) (commands : List Command) → command_run_at store ballot slot commands ≡ commands
    → (k : ℕ) → (k < slot) ⊎ (slot + length commands ≤ k) → (taking_command_run store ballot slot commands).votes k ≡ store.votes k
votes_outside g store ballot slot commands whole k out =
    g.command_run_leaves store ballot slot k commands (subst (λ (cs : List Command). (k < slot) ⊎ (slot + length cs ≤ k)) (sym whole) out)

pub run_proposed : (g : Given) (n i : ℕ) (upto : List Command) (own : Option Command) (store : Store) (has sent : List Message) (ballot : Ballot) (slot : ℕ) (commands : List Command)
    → store.promise ≡ ballot → slot ≡ length upto → ballot.node ≡ i → IsSource n has sent own ballot slot commands → command_run_at store ballot slot commands ≡ commands
    → IsProposed n i upto (length upto) own store has sent
    → IsProposed n i upto (length upto) own (taking_command_run store ballot slot commands) has (proposed ballot slot commands ++ sent)
run_proposed g n i upto own store has sent ballot slot commands promised_is at mine source whole p = record {
  ballots = λ b s c h. elim (in_split (proposed ballot slot commands) sent (Accept b s c) h) [
    | inl new ↦ (let e = proposed_is ballot slot commands (Accept b s c) new in
        let same = accept_is b ballot s e.0 c e.1 e.2 in ap (λ (x : Ballot). x.node) same.0 ∙ mine)
    | inr old ↦ p.ballots b s c old
  ];
  voted = λ s c h. subst (λ (b : Ballot). new_store.votes s ≡ Some (record { ballot = b; command = c })) (sym now) (voted_of s c (split s c (subst (λ (b : Ballot). In (Accept b s c) all) now h)));
  told = λ s c h. subst (λ (b : Ballot). (s ≤ length upto) ⊎ IsGreatestTold n has b s c) (sym now) (told_of s c (split s c (subst (λ (b : Ballot). In (Accept b s c) all) now h)));
  by_rule = λ c h. subst (λ (b : Ballot). IsValue n has b (length upto) own c) (sym now)
      (by_rule_of c (split (length upto) c (subst (λ (b : Ballot). In (Accept b (length upto) c) all) now h)));
}
  where
    new_store : Store
    new_store = taking_command_run store ballot slot commands

    all : List Message
    all = proposed ballot slot commands ++ sent

    now : (taking_command_run store ballot slot commands).promise ≡ ballot
    now = promise_is g store ballot slot commands promised_is

    split : (s : ℕ) (c : Command) → In (Accept ballot s c) (proposed ballot slot commands ++ sent) → In (Accept ballot s c) (proposals ballot slot commands) ⊎ In (Accept ballot s c) sent
    split s c h = elim (in_split (proposed ballot slot commands) sent (Accept ballot s c) h) [
      | inl new ↦ inl (in_proposals ballot slot commands (Accept ballot s c) new)
      | inr old ↦ inr old
    ]

    outside : (s : ℕ) (c : Command) → In (Accept ballot s c) sent → (s < slot) ⊎ (slot + length commands ≤ s)
    outside s c old = elim (in_or_out slot (length commands) s) [
      | inl out ↦ out
      | inr inside ↦ absurd (source_once n has sent own ballot slot commands source s inside.0 inside.1 c old)
    ]

    before : (s : ℕ) (c : Command) → In (Accept ballot s c) sent → In (Accept store.promise s c) sent
    before s c old = subst (λ (b : Ballot). In (Accept b s c) sent) (sym promised_is) old

    voted_of : (s : ℕ) (c : Command) → In (Accept ballot s c) (proposals ballot slot commands) ⊎ In (Accept ballot s c) sent
        → (taking_command_run store ballot slot commands).votes s ≡ Some (record { ballot = ballot; command = c })
    voted_of s c (inl new) = votes_at g store ballot slot commands whole s c new
    voted_of s c (inr old) =
        votes_outside g store ballot slot commands whole s (outside s c old)
        ∙ subst (λ (b : Ballot). store.votes s ≡ Some (record { ballot = b; command = c })) promised_is (p.voted s c (before s c old))

    told_of : (s : ℕ) (c : Command) → In (Accept ballot s c) (proposals ballot slot commands) ⊎ In (Accept ballot s c) sent → (s ≤ length upto) ⊎ IsGreatestTold n has ballot s c
    told_of s c (inl new) = elim (source_at n has sent own ballot slot commands source s c new) [
      | inl told ↦ inr told
      | inr own_one ↦ inl (let same = own_one.0 in omega (arith, same, at))
    ]
    told_of s c (inr old) = subst (λ (b : Ballot). (s ≤ length upto) ⊎ IsGreatestTold n has b s c) promised_is (p.told s c (before s c old))

    by_rule_of : (c : Command) → In (Accept ballot (length upto) c) (proposals ballot slot commands) ⊎ In (Accept ballot (length upto) c) sent → IsValue n has ballot (length upto) own c
    by_rule_of c (inl new) = elim (source_at n has sent own ballot slot commands source (length upto) c new) [
      | inl told ↦ inl told
      | inr own_one ↦ inr (subst (IsFree n has ballot) at own_one.1, own_one.2)
    ]
    by_rule_of c (inr old) = subst (λ (b : Ballot). IsValue n has b (length upto) own c) promised_is (p.by_rule c (before (length upto) c old))
