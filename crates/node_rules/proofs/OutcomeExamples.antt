-- Proposals and votes of three nodes, worked out.
use Rattle.std.proofs.Common.{◌≡◌, ℕ, zero, suc, ◌<◌, ◌≤◌, ◌+◌, inl, inr, Bool, true, false, true≢false, List, [], ◌∷◌, Option, Some, None, refl, sym, ap, subst, ◌∙◌, arith, replicate, length}
use Rattle.paxos_wire.specs.declared.ballot.Ballot.{Ballot}
use Rattle.paxos_wire.specs.declared.entry.Entry.{Entry}
use Rattle.betting.specs.declared.action.Action.TheVariants.{Fold}
use Rattle.slot_log.specs.declared.command.Command.{Command}
use Rattle.slot_log.specs.declared.command.Command.TheVariants.{Act}
use Rattle.protocol_model.specs.Sets.{In}
use Rattle.protocol_model.specs.Ballots.{AtMost}
use Rattle.protocol_model.specs.Messages.{Vote, entry_of, Message, Prepare, Promise, Refuse, Accept, Accepted}
use Rattle.protocol_model.specs.Frames.{answers}
use Rattle.protocol_model.specs.Votes.{command_run_at}
use Rattle.protocol_model.specs.Quorums.{HasPromise, IsTold, IsFree, IsGreatestTold}
use Rattle.protocol_model.specs.Stores.{Store, empty_store, promised, voted}
use Rattle.protocol_model.specs.Nodes.{Node, new_node}
use Rattle.proposer.specs.Counted.{HasQuorum}
use Rattle.learner.specs.Learning.{new_learned}
use Rattle.learner.specs.Counted.{KnowsChosen}
use Rattle.dealer_kind.specs.Kind.{dealer_of}
use Rattle.node_rules.specs.Turns.{still}
use Rattle.node_rules.specs.Proposed.{IsValue, IsProposed, IsSettled}
use Rattle.node_rules.specs.Being.{Campaigns, Stands}
use Rattle.node_rules.specs.Outcomes.{IsElected, HasValue, HasProposed, IsAhead, Brings, came, own_vote}
use Rattle.node_rules.specs.LawsRuns.{AreGreatestTold, EndsAt, IsProposal}
use Rattle.node_rules.specs.LawsValue.{IsOwnValue}
use Rattle.node_rules.specs.Calls.{Tick}
use Rattle.protocol_model.proofs.Quorums.{one_is_no_quorum}
use Rattle.node_rules.proofs.Examples.{opened, setting, deal_by, place, ballot, dealt, two, store_0, campaign_0, leads_0, dealt_0, told}

-- ---- the value of a slot

-- node 1 tells of node 0's deal
abbrev had : List Message
had = Promise 1 (ballot 2 2) 0 (told ∷ []) ∷ Promise 2 (ballot 2 2) 0 [] ∷ []

-- nodes 1 and 2
abbrev both_of : ℕ → Bool
both_of zero = false
both_of (suc node) = true

told_here : IsGreatestTold 3 had (ballot 2 2) 0 (dealt 0)
told_here = (
  ballot 1 0,
  (1, 0, told ∷ [], inl refl, inl refl),
  (both_of, omega arith, λ node below is. promise_of node below is),
)
  where
    promise_of : (node : ℕ) → node < 3 → both_of node ≡ true
        → (f : ℕ) × (entries : List Entry) × In (Promise node (ballot 2 2) f entries) had × ((f ≤ 0) × (0 ≤ f + 63)) × ((entry : Entry) → In entry entries → entry.slot ≡ 0 → AtMost entry.ballot (ballot 1 0))
    promise_of zero below is = absurd (cc)
    promise_of (suc zero) below is =
        (0, told ∷ [], inl refl, (omega arith, omega arith), λ entry h same. elim h [ inl e ↦ subst (λ (k : Entry). AtMost k.ballot (ballot 1 0)) (sym e) (inr (refl, omega arith)) | inr none ↦ absurd none ])
    promise_of (suc (suc zero)) below is = (0, [], inr (inl refl), (omega arith, omega arith), λ entry h same. absurd h)
    promise_of (suc (suc (suc node))) below is = absurd (omega arith)

told_is_the_value : IsValue 3 had (ballot 2 2) 0 (Some (dealt 2)) (dealt 0)
told_is_the_value = inl told_here

-- ---- what a proposal has in it

told_is_proposed : IsProposal 3 had (Some (dealt 2)) [] (ballot 2 2) 0 0 (dealt 0 ∷ [])
told_is_proposed = inl (omega arith, (told_here, tt), inr (inr (inl (both_of, omega arith, λ node below is. promise_of node below is))))
  where
    promise_of : (node : ℕ) → node < 3 → both_of node ≡ true
        → (f : ℕ) × (entries : List Entry) × In (Promise node (ballot 2 2) f entries) had × ((f ≤ 1) × (1 ≤ f + 63)) × ((entry : Entry) → In entry entries → entry.slot ≡ 1 → ⊥)
    promise_of zero below is = absurd (cc)
    promise_of (suc zero) below is = (0, told ∷ [], inl refl, (omega arith, omega arith), λ entry h same. elim h [ inl e ↦ (let slot : entry.slot ≡ 0 = ap (λ (k : Entry). k.slot) e in omega (arith, slot, same)) | inr none ↦ none ])
    promise_of (suc (suc zero)) below is = (0, [], inr (inl refl), (omega arith, omega arith), λ entry h same. h)
    promise_of (suc (suc (suc node))) below is = absurd (omega arith)

-- of the slot behind none is told
hole_is_refuted : AreGreatestTold 3 had (ballot 2 2) 0 two → ⊥
hole_is_refuted told_all = of_message told_all.1.0.1
  where
    of_message : IsTold had (ballot 2 2) 1 (record { ballot = told_all.1.0.0; command = Act 0 0 Fold }) → ⊥
    of_message (node, f, entries, inl e, inside) =
        let same : entries ≡ told ∷ [] = cc in
        elim (subst (λ (l : List Entry). In (entry_of 1 (record { ballot = told_all.1.0.0; command = Act 0 0 Fold })) l) same inside) [
          | inl one ↦ (let slot : 1 ≡ 0 = ap (λ (k : Entry). k.slot) one in absurd (omega (arith, slot)))
          | inr none ↦ absurd none
        ]
    of_message (node, f, entries, inr (inl e), inside) =
        let same : entries ≡ [] = cc in absurd (subst (λ (l : List Entry). In (entry_of 1 (record { ballot = told_all.1.0.0; command = Act 0 0 Fold })) l) same inside)
    of_message (node, f, entries, inr (inr none), inside) = absurd none

-- so an act of its own doesn't go behind the told deal
own_behind_told_is_refuted : IsProposal 3 had (Some (Act 0 0 Fold)) [] (ballot 2 2) 0 0 two → ⊥
own_behind_told_is_refuted (inl told_all) = hole_is_refuted told_all.1
own_behind_told_is_refuted (inr alone) = let few : 2 ≡ 1 = ap length alone.1 in absurd (omega (arith, few))

-- of slot 1 alone something is told
abbrev had_beyond : List Message
had_beyond = Promise 1 (ballot 2 2) 0 (record told { slot = 1 } ∷ []) ∷ Promise 2 (ballot 2 2) 0 [] ∷ []

untold_at_the_front : (vote : Vote) → IsTold had_beyond (ballot 2 2) 0 vote → ⊥
untold_at_the_front vote (node, f, entries, inl e, inside) =
    let same : entries ≡ record told { slot = 1 } ∷ [] = cc in
    elim (subst (λ (l : List Entry). In (entry_of 0 vote) l) same inside) [
      | inl one ↦ (let slot : 0 ≡ 1 = ap (λ (k : Entry). k.slot) one in absurd (omega (arith, slot)))
      | inr none ↦ absurd none
    ]
untold_at_the_front vote (node, f, entries, inr (inl e), inside) = let same : entries ≡ [] = cc in absurd (subst (λ (l : List Entry). In (entry_of 0 vote) l) same inside)
untold_at_the_front vote (node, f, entries, inr (inr none), inside) = absurd none

-- the own deal goes alone, though of the slot behind it one is told
told_behind_own_is_refuted : IsProposal 3 had_beyond (Some (dealt 2)) [] (ballot 2 2) 0 0 (dealt 2 ∷ dealt 0 ∷ []) → ⊥
told_behind_own_is_refuted (inl told_all) = untold_at_the_front (record { ballot = told_all.1.0.0; command = dealt 2 }) told_all.1.0.1
told_behind_own_is_refuted (inr alone) = let few : 2 ≡ 1 = ap length alone.1 in absurd (omega (arith, few))

-- node 1 tells of both
abbrev both_told : List Entry
both_told = told ∷ record { slot = 1; ballot = ballot 1 0; command = Act 0 0 Fold } ∷ []

abbrev had_both : List Message
had_both = Promise 1 (ballot 2 2) 0 both_told ∷ Promise 2 (ballot 2 2) 0 [] ∷ []

second_is_not_free : IsFree 3 had_both (ballot 2 2) 1 → ⊥
second_is_not_free (quorum, most, promises) = by_nodes (quorum 0) refl (quorum 1) refl
  where
    of_node_0 : HasPromise had_both 0 (ballot 2 2) 1 (λ entry. ⊥) → ⊥
    of_node_0 (f, entries, inl e, covers, none) = cc
    of_node_0 (f, entries, inr (inl e), covers, none) = cc
    of_node_0 (f, entries, inr (inr h), covers, none) = absurd h

    of_node_1 : HasPromise had_both 1 (ballot 2 2) 1 (λ entry. ⊥) → ⊥
    of_node_1 (f, entries, inl e, covers, none) =
        let same : entries ≡ both_told = cc in
        none (record { slot = 1; ballot = ballot 1 0; command = Act 0 0 Fold })
        (subst (λ (l : List Entry). In (record { slot = 1; ballot = ballot 1 0; command = Act 0 0 Fold }) l) (sym same) (inr (inl refl))) refl
    of_node_1 (f, entries, inr (inl e), covers, none) = cc
    of_node_1 (f, entries, inr (inr h), covers, none) = absurd h

    only_node_2 : quorum 0 ≡ false → quorum 1 ≡ false → (node : ℕ) → node < 3 → quorum node ≡ true → node ≡ 2
    only_node_2 e f zero below is = absurd (true≢false (sym is ∙ e))
    only_node_2 e f (suc zero) below is = absurd (true≢false (sym is ∙ f))
    only_node_2 e f (suc (suc zero)) below is = refl
    only_node_2 e f (suc (suc (suc node))) below is = absurd (omega arith)

    by_nodes : (a : Bool) → quorum 0 ≡ a → (b : Bool) → quorum 1 ≡ b → ⊥
    by_nodes true e b f = of_node_0 (promises 0 (omega arith) e)
    by_nodes false e true f = of_node_1 (promises 1 (omega arith) f)
    by_nodes false e false f = one_is_no_quorum 3 2 quorum (omega arith) (only_node_2 e f) most

-- what node 1 tells of a slot is of (1, 0)
told_so : (slot : ℕ) (command : Command) → slot < 64 → In (record { slot = slot; ballot = ballot 1 0; command = command }) both_told → IsGreatestTold 3 had_both (ballot 2 2) slot command
told_so slot command low inside = (ballot 1 0, (1, 0, both_told, inl refl, inside), (both_of, omega arith, λ node below is. promise_of node below is))
  where
    of_first : (entry : Entry) → In entry both_told → AtMost entry.ballot (ballot 1 0)
    of_first entry (inl e) = subst (λ (k : Entry). AtMost k.ballot (ballot 1 0)) (sym e) (inr (refl, omega arith))
    of_first entry (inr (inl e)) = subst (λ (k : Entry). AtMost k.ballot (ballot 1 0)) (sym e) (inr (refl, omega arith))
    of_first entry (inr (inr none)) = absurd none

    promise_of : (node : ℕ) → node < 3 → both_of node ≡ true
        → (f : ℕ) × (entries : List Entry) × In (Promise node (ballot 2 2) f entries) had_both × ((f ≤ slot) × (slot ≤ f + 63)) × ((entry : Entry) → In entry entries → entry.slot ≡ slot → AtMost entry.ballot (ballot 1 0))
    promise_of zero below is = absurd (cc)
    promise_of (suc zero) below is = (0, both_told, inl refl, (omega arith, omega (arith, low)), λ entry h same. of_first entry h)
    promise_of (suc (suc zero)) below is = (0, [], inr (inl refl), (omega arith, omega (arith, low)), λ entry h same. absurd h)
    promise_of (suc (suc (suc node))) below is = absurd (omega arith)

-- both together are what a node proposes, whatever it has of its own
both_are_proposed : IsProposal 3 had_both (Some (dealt 2)) [] (ballot 2 2) 0 0 two
both_are_proposed = inl (
  omega arith,
  (told_so 0 (dealt 0) (omega arith) (inl refl), (told_so 1 (Act 0 0 Fold) (omega arith) (inr (inl refl)), tt)),
  inr (inr (inl (both_of, omega arith, λ node below is. promise_of node below is))),
)
  where
    none_behind : (entry : Entry) → In entry both_told → entry.slot ≡ 2 → ⊥
    none_behind entry (inl e) same = let slot : entry.slot ≡ 0 = ap (λ (k : Entry). k.slot) e in omega (arith, slot, same)
    none_behind entry (inr (inl e)) same = let slot : entry.slot ≡ 1 = ap (λ (k : Entry). k.slot) e in omega (arith, slot, same)
    none_behind entry (inr (inr none)) same = none

    promise_of : (node : ℕ) → node < 3 → both_of node ≡ true
        → (f : ℕ) × (entries : List Entry) × In (Promise node (ballot 2 2) f entries) had_both × ((f ≤ 2) × (2 ≤ f + 63)) × ((entry : Entry) → In entry entries → entry.slot ≡ 2 → ⊥)
    promise_of zero below is = absurd (cc)
    promise_of (suc zero) below is = (0, both_told, inl refl, (omega arith, omega arith), λ entry h same. none_behind entry h same)
    promise_of (suc (suc zero)) below is = (0, [], inr (inl refl), (omega arith, omega arith), λ entry h same. h)
    promise_of (suc (suc (suc node))) below is = absurd (omega arith)

-- so told commands don't end before it
cut_short_is_refuted : EndsAt 3 had_both [] (ballot 2 2) 0 1 → ⊥
cut_short_is_refuted (inl window) = absurd (omega (arith, window))
cut_short_is_refuted (inr (inl last)) = absurd (omega (arith, last))
cut_short_is_refuted (inr (inr (inl free))) = second_is_not_free free
cut_short_is_refuted (inr (inr (inr made))) = absurd made.1

first_alone_is_refuted : IsProposal 3 had_both (Some (dealt 2)) [] (ballot 2 2) 0 0 (dealt 0 ∷ []) → ⊥
unfolding opened
first_alone_is_refuted (inl cut) = cut_short_is_refuted cut.2
first_alone_is_refuted (inr (command, is, free, own)) = let one : dealt 0 ≡ command = cc in let mine : dealt 2 ≡ command = cc in let clash : dealt 2 ≡ dealt 0 = mine ∙ sym one in cc

-- where one is told at the front, the own one is none
front_is_not_free : IsFree 3 had_both (ballot 2 2) 0 → ⊥
front_is_not_free (quorum, most, promises) = by_nodes (quorum 0) refl (quorum 1) refl
  where
    of_node_0 : HasPromise had_both 0 (ballot 2 2) 0 (λ entry. ⊥) → ⊥
    of_node_0 (f, entries, inl e, covers, none) = cc
    of_node_0 (f, entries, inr (inl e), covers, none) = cc
    of_node_0 (f, entries, inr (inr h), covers, none) = absurd h

    of_node_1 : HasPromise had_both 1 (ballot 2 2) 0 (λ entry. ⊥) → ⊥
    of_node_1 (f, entries, inl e, covers, none) = let same : entries ≡ both_told = cc in none told (subst (λ (l : List Entry). In told l) (sym same) (inl refl)) refl
    of_node_1 (f, entries, inr (inl e), covers, none) = cc
    of_node_1 (f, entries, inr (inr h), covers, none) = absurd h

    only_node_2 : quorum 0 ≡ false → quorum 1 ≡ false → (node : ℕ) → node < 3 → quorum node ≡ true → node ≡ 2
    only_node_2 e f zero below is = absurd (true≢false (sym is ∙ e))
    only_node_2 e f (suc zero) below is = absurd (true≢false (sym is ∙ f))
    only_node_2 e f (suc (suc zero)) below is = refl
    only_node_2 e f (suc (suc (suc node))) below is = absurd (omega arith)

    by_nodes : (a : Bool) → quorum 0 ≡ a → (b : Bool) → quorum 1 ≡ b → ⊥
    by_nodes true e b f = of_node_0 (promises 0 (omega arith) e)
    by_nodes false e true f = of_node_1 (promises 1 (omega arith) f)
    by_nodes false e false f = one_is_no_quorum 3 2 quorum (omega arith) (only_node_2 e f) most

own_over_told_is_refuted : IsProposal 3 had_both (Some (dealt 2)) [] (ballot 2 2) 0 0 (dealt 2 ∷ []) → ⊥
own_over_told_is_refuted (inl told_all) = of_message told_all.1.0.1
  where
    of_message : IsTold had_both (ballot 2 2) 0 (record { ballot = told_all.1.0.0; command = dealt 2 }) → ⊥
    of_message (node, f, entries, inl e, inside) =
        let same : entries ≡ both_told = cc in
        elim (subst (λ (l : List Entry). In (entry_of 0 (record { ballot = told_all.1.0.0; command = dealt 2 })) l) same inside) [
          | inl one ↦ (let clash : dealt 2 ≡ dealt 0 = ap (λ (k : Entry). k.command) one in let bad : ⊥ = cc in bad)
          | inr later ↦ elim later [
            | inl one ↦ (let slot : 0 ≡ 1 = ap (λ (k : Entry). k.slot) one in absurd (omega (arith, slot)))
            | inr none ↦ absurd none
          ]
        ]
    of_message (node, f, entries, inr (inl e), inside) =
        let same : entries ≡ [] = cc in absurd (subst (λ (l : List Entry). In (entry_of 0 (record { ballot = told_all.1.0.0; command = dealt 2 })) l) same inside)
    of_message (node, f, entries, inr (inr none), inside) = absurd none
own_over_told_is_refuted (inr alone) = front_is_not_free alone.2

-- and end where something was proposed
ends_at_a_proposal : EndsAt 3 had_both (Accept (ballot 2 2) 1 (Act 0 0 Fold) ∷ []) (ballot 2 2) 0 1
ends_at_a_proposal = inr (inr (inr (Act 0 0 Fold, inl refl)))

-- ---- a node that leads

-- the node that has node 1's promise beside its own
abbrev leader : Node
leader = record new_node {
  store = store_0;
  begun = store_0;
  up = true;
  starts = 1;
  has = Accepted 0 (ballot 1 0) 0 (dealt 0) ∷ Accept (ballot 1 0) 0 (dealt 0) ∷ Promise 1 (ballot 1 0) 0 [] ∷ Promise 0 (ballot 1 0) 0 [] ∷ [];
  sent = Accepted 0 (ballot 1 0) 0 (dealt 0) ∷ Accept (ballot 1 0) 0 (dealt 0) ∷ Promise 0 (ballot 1 0) 0 [] ∷ Prepare (ballot 1 0) 0 ∷ [];
}

-- nodes 0 and 1
abbrev first_two : ℕ → Bool
first_two zero = true
first_two (suc zero) = true
first_two (suc (suc node)) = false

stands_by_it : Stands leader (ballot 1 0) 0
stands_by_it = record {
  began = inr (inr (inr (inl refl)));
  promised = refl;
  unrefused = λ sender refused slot greater h. elim h [
    | inl e ↦ absurd (cc)
    | inr h ↦ elim h [ inl e ↦ absurd (cc) | inr h ↦ elim h [ inl e ↦ absurd (cc) | inr h ↦ elim h [ inl e ↦ absurd (cc) | inr none ↦ absurd none ] ] ]
  ];
}

quorum_promised : HasQuorum 3 leader.has (ballot 1 0) 0
quorum_promised = (first_two, omega arith, λ node below is. promise_of node is)
  where
    promise_of : (node : ℕ) → first_two node ≡ true → (entries : List Entry) × In (Promise node (ballot 1 0) 0 entries) leader.has
    promise_of zero is = ([], inr (inr (inr (inl refl))))
    promise_of (suc zero) is = ([], inr (inr (inl refl)))
    promise_of (suc (suc node)) is = absurd (cc)

leader_is_elected : IsElected (place 0) leads_0 leader (ballot 1 0) 0
leader_is_elected = record { stands_by = stands_by_it; quorum = quorum_promised; near = omega arith; is_slot = omega arith }

-- its own deal is there to be proposed
has_own_deal : HasValue (place 0) leads_0 leader (ballot 1 0)
unfolding opened
has_own_deal = inr (dealt 0, refl)

-- a node that keeps still, though a quorum promised, hasn't proposed
silent_leader_is_refuted : HasProposed (place 0) leader (record (still leads_0) { frames = [] }) (record leader { sent = Prepare (ballot 1 0) 0 ∷ [] }) (ballot 1 0) → ⊥
silent_leader_is_refuted h = elim h.sent [ inl e ↦ (let bad : ⊥ = cc in bad) | inr none ↦ none ]

-- nor has one that proposes and doesn't vote for it
unvoted_is_refuted : HasProposed (place 0) leader (still leads_0) (record leader { store = promised empty_store (ballot 1 0) }) (ballot 1 0) → ⊥
unvoted_is_refuted h = let e : ◌≡◌ {A = Option Vote} None (Some (record { ballot = ballot 1 0; command = h.command })) = h.voted in cc

-- ---- between calls

leader_is_settled : IsSettled (place 0) leads_0
unfolding opened
leader_is_settled leads_on = (refl, refl)

-- one that leads and has proposed nothing isn't
idle_leader_is_refuted : IsSettled (place 0) (record leads_0 { campaign = Some (record campaign_0 { proposed = replicate 64 false }) }) → ⊥
unfolding opened
idle_leader_is_refuted settled = let e = (settled refl).1 in cc

-- what it sent in its ballot it voted for
vote_is_missed : IsProposed 3 0 [] 0 None (promised empty_store (ballot 1 0)) [] (Accept (ballot 1 0) 0 (dealt 0) ∷ []) → ⊥
vote_is_missed h = let e : ◌≡◌ {A = Option Vote} None (Some (record { ballot = ballot 1 0; command = dealt 0 })) = h.voted 0 (dealt 0) (inl refl) in cc

-- and at its front it has the value by the rule: of nothing that it has, none
invented_is_refuted : IsProposed 3 0 [] 0 None store_0 [] (Accept (ballot 1 0) 0 (dealt 0) ∷ []) → ⊥
invented_is_refuted h = elim (h.by_rule (dealt 0) (inl refl)) [
  | inl greatest ↦ greatest.1.3
  | inr free ↦ (let e : ◌≡◌ {A = Option Command} None (Some (dealt 0)) = free.1 in cc)
]

-- beyond its front it proposes what was told: here node 2, which knows nothing yet, the deal that node 1 tells of at slot 1
abbrev voted_beyond : Store
voted_beyond = voted empty_store 1 (record { ballot = ballot 2 2; command = dealt 0 })

told_beyond : IsGreatestTold 3 had_beyond (ballot 2 2) 1 (dealt 0)
told_beyond = (
  ballot 1 0,
  (1, 0, record told { slot = 1 } ∷ [], inl refl, inl refl),
  (both_of, omega arith, λ node below is. promise_of node below is),
)
  where
    promise_of : (node : ℕ) → node < 3 → both_of node ≡ true
        → (f : ℕ) × (entries : List Entry) × In (Promise node (ballot 2 2) f entries) had_beyond × ((f ≤ 1) × (1 ≤ f + 63))
        × ((entry : Entry) → In entry entries → entry.slot ≡ 1 → AtMost entry.ballot (ballot 1 0))
    promise_of zero below is = absurd (cc)
    promise_of (suc zero) below is = (
      0,
      record told { slot = 1 } ∷ [],
      inl refl,
      (omega arith, omega arith),
      λ entry h same. elim h [ inl e ↦ subst (λ (k : Entry). AtMost k.ballot (ballot 1 0)) (sym e) (inr (refl, omega arith)) | inr none ↦ absurd none ],
    )
    promise_of (suc (suc zero)) below is = (0, [], inr (inl refl), (omega arith, omega arith), λ entry h same. absurd h)
    promise_of (suc (suc (suc node))) below is = absurd (omega arith)

one_proposal : (b : Ballot) (slot : ℕ) (command : Command) → In (Accept b slot command) (Accept (ballot 2 2) 1 (dealt 0) ∷ [])
    → (b ≡ ballot 2 2) × (slot ≡ 1) × (command ≡ dealt 0)
one_proposal b slot command (inl e) = (cc, cc, cc)
one_proposal b slot command (inr none) = absurd none

proposed_beyond : IsProposed 3 2 [] 0 None voted_beyond had_beyond (Accept (ballot 2 2) 1 (dealt 0) ∷ [])
proposed_beyond = record {
  ballots = λ b slot command h. ap (λ (x : Ballot). x.node) (one_proposal b slot command h).0;
  voted = λ slot command h.
      let is = one_proposal (ballot 2 2) slot command h in
      subst (λ (c : Command). voted_beyond.votes slot ≡ Some (record { ballot = ballot 2 2; command = c })) (sym is.2)
      (subst (λ (k : ℕ). voted_beyond.votes k ≡ Some (record { ballot = ballot 2 2; command = dealt 0 })) (sym is.1) refl);
  told = λ slot command h.
      let is = one_proposal (ballot 2 2) slot command h in
      inr (subst (λ (c : Command). IsGreatestTold 3 had_beyond (ballot 2 2) slot c) (sym is.2)
      (subst (λ (k : ℕ). IsGreatestTold 3 had_beyond (ballot 2 2) k (dealt 0)) (sym is.1) told_beyond));
  by_rule = λ command h. absurd (let is = (one_proposal (ballot 2 2) 0 command h).1 in omega (arith, is));
}

-- and nothing else
invented_beyond_is_refuted : IsProposed 3 2 [] 0 (Some (dealt 0)) voted_beyond [] (Accept (ballot 2 2) 1 (dealt 0) ∷ []) → ⊥
invented_beyond_is_refuted h = elim (h.told 1 (dealt 0) (inl refl)) [ inl low ↦ absurd (omega (arith, low)) | inr greatest ↦ greatest.1.3 ]

-- one whose ballot a Refuse outbids leads no longer
outbid_leader_is_refuted : Campaigns 3 0 (record leader { has = Refuse 1 (ballot 1 0) 0 (ballot 2 2) ∷ leader.has }) campaign_0 → ⊥
outbid_leader_is_refuted c = c.unrefused 1 (ballot 1 0) 0 (ballot 2 2) (inl refl) (inl (omega arith))

-- ---- what a node has of its own to propose

-- an act that waits isn't it, where a deal of its own fits
act_before_the_deal_is_refuted : IsOwnValue (dealer_of setting (λ node command. true)) (place 0) [] (Some (Act 0 0 Fold)) (Some (Act 0 0 Fold)) → ⊥
unfolding opened
act_before_the_deal_is_refuted h = let e : ◌≡◌ {A = Option Command} (Some (Act 0 0 Fold)) (Some (dealt 0)) = h.deals 0 (deal_by 0) (refl, refl) in cc

-- nor is nothing, where a hand runs and an act waits
act_that_waits_in_vain_is_refuted : IsOwnValue (dealer_of setting (λ node command. true)) (place 0) (dealt 0 ∷ []) (Some (Act 0 0 Fold)) None → ⊥
unfolding opened
act_that_waits_in_vain_is_refuted h = let e : ◌≡◌ {A = Option Command} None (Some (Act 0 0 Fold)) = h.waits (λ hand deal is. let runs : false ≡ true = is.1 in cc) in cc

-- ---- slots ahead

last_ahead : IsAhead dealt_0 64
last_ahead = record { reached = omega arith; within = omega arith; is_slot = omega arith }

passed_is_not_ahead : IsAhead dealt_0 0 → ⊥
passed_is_not_ahead h = let l = h.reached in omega arith

beyond_is_not_ahead : IsAhead dealt_0 65 → ⊥
beyond_is_not_ahead h = let l = h.within in omega arith

-- ---- votes

-- a tick brings no vote
tick_brings_none : Brings (place 0) leads_0 Tick 1 (ballot 1 0) 0 (dealt 0) → ⊥
tick_brings_none (came h) = h
tick_brings_none (own_vote from first bytes commands is read up mine told) = cc

-- of an Accept of two of which one stands in the store in its ballot already, no vote for the other is told
only_the_first_is_told : (k : ℕ) (command : Command) → In (Accepted 1 (ballot 1 0) k command) (answers 1 (ballot 1 0) 0 (command_run_at store_0 (ballot 1 0) 0 two)) → k ≡ 0
unfolding opened
only_the_first_is_told k command (inl e) = cc
only_the_first_is_told k command (inr none) = absurd none

-- two votes of three are a quorum's; who knows nothing then has passed them over
votes_passed_over_are_refuted : KnowsChosen (Accepted 1 (ballot 1 0) 0 (dealt 0) ∷ Accepted 0 (ballot 1 0) 0 (dealt 0) ∷ []) (new_learned 3) → ⊥
votes_passed_over_are_refuted knows = let e : ◌≡◌ {A = Option Command} None (Some (dealt 0)) = knows (ballot 1 0) 0 (dealt 0) (first_two, omega arith, λ node below is. vote_of node is) in cc
  where
    vote_of : (node : ℕ) → first_two node ≡ true → In (Accepted node (ballot 1 0) 0 (dealt 0)) (Accepted 1 (ballot 1 0) 0 (dealt 0) ∷ Accepted 0 (ballot 1 0) 0 (dealt 0) ∷ [])
    vote_of zero is = inr (inl refl)
    vote_of (suc zero) is = inl refl
    vote_of (suc (suc node)) is = absurd (cc)
