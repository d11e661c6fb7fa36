-- Clusters at rest, and their rounds, worked out.
use Rattle.std.proofs.Common.{◌≡◌, ℕ, zero, suc, inl, inr, true, [], ◌∷◌, Option, Some, None, refl, ap, subst, ◌∙◌, arith, length}
use Rattle.paxos_wire.specs.declared.message.Message.TheVariants.{Prepare, Promise, Accept, Accepted}
use Rattle.betting.specs.declared.action.Action.TheVariants.{Fold}
use Rattle.slot_log.specs.declared.command.Command.{Command}
use Rattle.slot_log.specs.declared.command.Command.TheVariants.{Act}
use Rattle.protocol_model.specs.Ballots.{Below, AtMost}
use Rattle.protocol_model.specs.Messages.{Vote}
use Rattle.protocol_model.specs.Stores.{empty_store, promised, voted}
use Rattle.node_rules.specs.Standings.{Standing}
use Rattle.node_rules.specs.Calm.{IsLeastQuorum, Calm, Ticks, delivers, round}
use Rattle.node_rules.proofs.Examples.{opened, place, ballot, dealt, two, first, voted_1, told}

-- ---- quorums

two_of_three : IsLeastQuorum 3 (0 ∷ 1 ∷ [])
two_of_three = record { rise = (omega arith, omega arith, (omega arith, omega arith, tt)); most = omega arith; least = omega arith }

three_of_five : IsLeastQuorum 5 (0 ∷ 1 ∷ 2 ∷ [])
three_of_five = record { rise = (omega arith, omega arith, (omega arith, omega arith, (omega arith, omega arith, tt))); most = omega arith; least = omega arith }

four_of_seven : IsLeastQuorum 7 (0 ∷ 1 ∷ 2 ∷ 3 ∷ [])
four_of_seven = record {
  rise = (omega arith, omega arith, (omega arith, omega arith, (omega arith, omega arith, (omega arith, omega arith, tt))));
  most = omega arith;
  least = omega arith;
}

three_of_seven_are_too_few : IsLeastQuorum 7 (0 ∷ 1 ∷ 2 ∷ []) → ⊥
three_of_seven_are_too_few h = let l = h.most in omega arith

one_is_too_few : IsLeastQuorum 3 (0 ∷ []) → ⊥
one_is_too_few h = let l = h.most in omega arith

all_are_too_many : IsLeastQuorum 3 (0 ∷ 1 ∷ 2 ∷ []) → ⊥
all_are_too_many h = let l = h.least in omega arith

twice_the_same : IsLeastQuorum 3 (1 ∷ 1 ∷ []) → ⊥
twice_the_same h = let l = h.rise.2.0 in omega arith

-- ---- three nodes, just started

fresh_is_at_rest : Calm (place 0) first 0 (0 ∷ 1 ∷ []) (dealt 0 ∷ [])
unfolding opened
fresh_is_at_rest = record {
  of_node = refl;
  quorum = two_of_three;
  member = inl refl;
  up = λ node h. refl;
  round_left = omega arith;
  slot_left = omega arith;
  unpromised = λ node h. inl (omega arith);
  goes_on = refl;
  value = inr (dealt 0, refl, (λ vote h. (let e : ◌≡◌ {A = Option Vote} None (Some vote) = h.2 in absurd (cc)), refl));
}

-- its tick and four deliveries
fresh_round : round first 0 (0 ∷ 1 ∷ []) (dealt 0 ∷ [])
    ≡ Ticks 0 ∷ delivers 0 1 (Prepare (ballot 1 0) 0) ∷ delivers 1 0 (Promise (ballot 1 0) 0 [])
    ∷ delivers 0 1 (Accept (ballot 1 0) 0 (dealt 0 ∷ [])) ∷ delivers 1 0 (Accepted (ballot 1 0) 0 (dealt 0 ∷ [])) ∷ []
unfolding opened
fresh_round = refl

-- five nodes: a tick and eight deliveries, four times to or from node 1 and then node 2
five_round : round first 0 (0 ∷ 1 ∷ 2 ∷ []) (dealt 0 ∷ [])
    ≡ Ticks 0 ∷ delivers 0 1 (Prepare (ballot 1 0) 0) ∷ delivers 0 2 (Prepare (ballot 1 0) 0)
    ∷ delivers 1 0 (Promise (ballot 1 0) 0 []) ∷ delivers 2 0 (Promise (ballot 1 0) 0 [])
    ∷ delivers 0 1 (Accept (ballot 1 0) 0 (dealt 0 ∷ [])) ∷ delivers 0 2 (Accept (ballot 1 0) 0 (dealt 0 ∷ []))
    ∷ delivers 1 0 (Accepted (ballot 1 0) 0 (dealt 0 ∷ [])) ∷ delivers 2 0 (Accepted (ballot 1 0) 0 (dealt 0 ∷ [])) ∷ []
unfolding opened
five_round = refl

-- seven nodes: a tick and twelve deliveries, four times to or from node 1, then node 2 and then node 3
seven_round : round first 0 (0 ∷ 1 ∷ 2 ∷ 3 ∷ []) (dealt 0 ∷ [])
    ≡ Ticks 0 ∷ delivers 0 1 (Prepare (ballot 1 0) 0) ∷ delivers 0 2 (Prepare (ballot 1 0) 0) ∷ delivers 0 3 (Prepare (ballot 1 0) 0)
    ∷ delivers 1 0 (Promise (ballot 1 0) 0 []) ∷ delivers 2 0 (Promise (ballot 1 0) 0 []) ∷ delivers 3 0 (Promise (ballot 1 0) 0 [])
    ∷ delivers 0 1 (Accept (ballot 1 0) 0 (dealt 0 ∷ [])) ∷ delivers 0 2 (Accept (ballot 1 0) 0 (dealt 0 ∷ [])) ∷ delivers 0 3 (Accept (ballot 1 0) 0 (dealt 0 ∷ []))
    ∷ delivers 1 0 (Accepted (ballot 1 0) 0 (dealt 0 ∷ [])) ∷ delivers 2 0 (Accepted (ballot 1 0) 0 (dealt 0 ∷ [])) ∷ delivers 3 0 (Accepted (ballot 1 0) 0 (dealt 0 ∷ [])) ∷ []
unfolding opened
seven_round = refl

-- another node's deal isn't the value
other_deal_is_refuted : Calm (place 0) first 0 (0 ∷ 1 ∷ []) (dealt 1 ∷ []) → ⊥
unfolding opened
other_deal_is_refuted calm = elim calm.value [
  | inl told ↦ (let e : ◌≡◌ {A = Option Vote} None (Some told.held.0.greatest) = told.held.0.held.2 in let bad : ⊥ = cc in bad)
  | inr own ↦ (let is : ◌≡◌ {A = Option Command} (Some (dealt 0)) (Some own.0) = own.2.1 in let same : dealt 1 ∷ [] ≡ own.0 ∷ [] = own.1 in let bad : ⊥ = cc in bad)
]

-- nor is its own with an act behind it
own_with_more_is_refuted : Calm (place 0) first 0 (0 ∷ 1 ∷ []) two → ⊥
unfolding opened
own_with_more_is_refuted calm = elim calm.value [
  | inl told ↦ (let e : ◌≡◌ {A = Option Vote} None (Some told.held.0.greatest) = told.held.0.held.2 in let bad : ⊥ = cc in bad)
  | inr own ↦ (let few : 2 ≡ 1 = ap length own.1 in absurd (omega (arith, few)))
]

-- ---- node 1 voted for node 0's deal, and nobody knows it; node 2 promised that ballot

abbrev pub left_over : ℕ → Standing
left_over zero = first 0
left_over (suc zero) = voted_1
left_over (suc (suc node)) = record (first 2) { store = promised empty_store (ballot 1 0); begun = promised empty_store (ballot 1 0); seen = ballot 1 0 }

pub last_two : IsLeastQuorum 3 (1 ∷ 2 ∷ [])
last_two = record { rise = (omega arith, omega arith, (omega arith, omega arith, tt)); most = omega arith; least = omega arith }

-- the vote that is told goes before node 2's own deal
told_vote_is_the_value : Calm (place 2) left_over 2 (1 ∷ 2 ∷ []) (dealt 0 ∷ [])
unfolding opened
told_vote_is_the_value = record {
  of_node = refl;
  quorum = last_two;
  member = inr (inl refl);
  up = λ node h. up_at node;
  round_left = omega arith;
  slot_left = omega arith;
  unpromised = λ node h. above_at node;
  goes_on = refl;
  value = inl (record {
    least = omega arith;
    most = omega arith;
    slots = omega arith;
    held = (
      record {
        greatest = record { ballot = ballot 1 0; command = dealt 0 };
        held = (1, inl refl, refl);
        same = refl;
        above = λ vote h. vote_at h.0 vote h.2;
      },
      tt,
    );
    ends = inr (inr (λ vote h. none_at h.0 vote h.2));
  });
}
  where
    none_at : (node : ℕ) (vote : Vote) → (left_over node).store.votes 1 ≡ Some vote → ⊥
    none_at zero vote e = cc
    none_at (suc zero) vote e = cc
    none_at (suc (suc node)) vote e = cc

    up_at : (node : ℕ) → (left_over node).up ≡ true
    up_at zero = refl
    up_at (suc zero) = refl
    up_at (suc (suc node)) = refl

    above_at : (node : ℕ) → Below (left_over node).store.promise (ballot 2 2)
    above_at zero = inl (omega arith)
    above_at (suc zero) = inl (omega arith)
    above_at (suc (suc node)) = inl (omega arith)

    vote_at : (node : ℕ) (vote : Vote) → (left_over node).store.votes 0 ≡ Some vote → AtMost vote.ballot (ballot 1 0)
    vote_at zero vote e = absurd (cc)
    vote_at (suc zero) vote e = let same : record { ballot = ballot 1 0; command = dealt 0 } ≡ vote = cc in subst (λ (v : Vote). AtMost v.ballot (ballot 1 0)) same (inr (refl, omega arith))
    vote_at (suc (suc node)) vote e = absurd (cc)

-- so its own deal isn't the value
own_over_told_is_refuted : Calm (place 2) left_over 2 (1 ∷ 2 ∷ []) (dealt 2 ∷ []) → ⊥
unfolding opened
own_over_told_is_refuted calm = elim calm.value [
  | inl told ↦ only_vote told.held.0.held.0 told.held.0.greatest told.held.0.held.2 told.held.0.same
  | inr own ↦ own.2.0 (record { ballot = ballot 1 0; command = dealt 0 }) (1, inl refl, refl)
]
  where
    only_vote : (node : ℕ) (vote : Vote) → (left_over node).store.votes 0 ≡ Some vote → vote.command ≡ dealt 2 → ⊥
    only_vote zero vote e same = cc
    only_vote (suc zero) vote e same = let is : record { ballot = ballot 1 0; command = dealt 0 } ≡ vote = cc in let clash : dealt 0 ≡ dealt 2 = ap (λ (v : Vote). v.command) is ∙ same in cc
    only_vote (suc (suc node)) vote e same = cc

-- ---- node 1 voted for that deal and for an act behind it

abbrev fold_vote : Vote
fold_vote = record { ballot = ballot 1 0; command = Act 0 0 Fold }

abbrev left_two : ℕ → Standing
left_two zero = first 0
left_two (suc zero) = record voted_1 { store = voted voted_1.store 1 fold_vote; begun = voted voted_1.store 1 fold_vote }
left_two (suc (suc node)) = left_over (suc (suc node))

-- both are told
two_votes_are_the_value : Calm (place 2) left_two 2 (1 ∷ 2 ∷ []) two
unfolding opened
two_votes_are_the_value = record {
  of_node = refl;
  quorum = last_two;
  member = inr (inl refl);
  up = λ node h. up_at node;
  round_left = omega arith;
  slot_left = omega arith;
  unpromised = λ node h. above_at node;
  goes_on = refl;
  value = inl (record {
    least = omega arith;
    most = omega arith;
    slots = omega arith;
    held = (
      record { greatest = record { ballot = ballot 1 0; command = dealt 0 }; held = (1, inl refl, refl); same = refl; above = λ vote h. first_at h.0 vote h.2 },
      (record { greatest = fold_vote; held = (1, inl refl, refl); same = refl; above = λ vote h. second_at h.0 vote h.2 }, tt),
    );
    ends = inr (inr (λ vote h. none_at h.0 vote h.2));
  });
}
  where
    up_at : (node : ℕ) → (left_two node).up ≡ true
    up_at zero = refl
    up_at (suc zero) = refl
    up_at (suc (suc node)) = refl

    above_at : (node : ℕ) → Below (left_two node).store.promise (ballot 2 2)
    above_at zero = inl (omega arith)
    above_at (suc zero) = inl (omega arith)
    above_at (suc (suc node)) = inl (omega arith)

    first_at : (node : ℕ) (vote : Vote) → (left_two node).store.votes 0 ≡ Some vote → AtMost vote.ballot (ballot 1 0)
    first_at zero vote e = absurd (cc)
    first_at (suc zero) vote e = let same : record { ballot = ballot 1 0; command = dealt 0 } ≡ vote = cc in subst (λ (v : Vote). AtMost v.ballot (ballot 1 0)) same (inr (refl, omega arith))
    first_at (suc (suc node)) vote e = absurd (cc)

    second_at : (node : ℕ) (vote : Vote) → (left_two node).store.votes 1 ≡ Some vote → AtMost vote.ballot (ballot 1 0)
    second_at zero vote e = absurd (cc)
    second_at (suc zero) vote e = let same : fold_vote ≡ vote = cc in subst (λ (v : Vote). AtMost v.ballot (ballot 1 0)) same (inr (refl, omega arith))
    second_at (suc (suc node)) vote e = absurd (cc)

    none_at : (node : ℕ) (vote : Vote) → (left_two node).store.votes 2 ≡ Some vote → ⊥
    none_at zero vote e = cc
    none_at (suc zero) vote e = cc
    none_at (suc (suc node)) vote e = cc

-- its tick and four deliveries, of both commands at once
round_of_two : round left_two 2 (1 ∷ 2 ∷ []) two
    ≡ Ticks 2 ∷ delivers 2 1 (Prepare (ballot 2 2) 0) ∷ delivers 1 2 (Promise (ballot 2 2) 0 (told ∷ record told { slot = 1; command = Act 0 0 Fold } ∷ []))
    ∷ delivers 2 1 (Accept (ballot 2 2) 0 two) ∷ delivers 1 2 (Accepted (ballot 2 2) 0 two) ∷ []
unfolding opened
round_of_two = refl

-- so the first alone isn't
first_of_two_is_refuted : Calm (place 2) left_two 2 (1 ∷ 2 ∷ []) (dealt 0 ∷ []) → ⊥
unfolding opened
first_of_two_is_refuted calm = elim calm.value [
  | inl held_run ↦ elim held_run.ends [
    | inl full ↦ absurd (omega (arith, full))
    | inr other ↦ elim other [ inl last ↦ absurd (omega (arith, last)) | inr none ↦ none fold_vote (1, inl refl, refl) ]
  ]
  | inr own ↦ own.2.0 (record { ballot = ballot 1 0; command = dealt 0 }) (1, inl refl, refl)
]

-- nor are more than they voted for
three_are_refuted : (command : Command) → Calm (place 2) left_two 2 (1 ∷ 2 ∷ []) (dealt 0 ∷ Act 0 0 Fold ∷ command ∷ []) → ⊥
unfolding opened
three_are_refuted command calm = elim calm.value [
  | inl held_run ↦ (let third = held_run.held.1.1.0 in none_at third.held.0 third.greatest third.held.2)
  | inr own ↦ (let few : 3 ≡ 1 = ap length own.1 in absurd (omega (arith, few)))
]
  where
    none_at : (node : ℕ) (vote : Vote) → (left_two node).store.votes 2 ≡ Some vote → ⊥
    none_at zero vote e = cc
    none_at (suc zero) vote e = cc
    none_at (suc (suc node)) vote e = cc

-- node 1 promised a ballot above that which node 2 would begin
abbrev pub further_on : ℕ → Standing
further_on zero = left_over zero
further_on (suc zero) = record voted_1 { store = promised voted_1.store (ballot 3 1) }
further_on (suc (suc node)) = left_over (suc (suc node))

-- who would be refused isn't at rest
promised_more_is_refuted : Calm (place 2) further_on 2 (1 ∷ 2 ∷ []) (dealt 0 ∷ []) → ⊥
unfolding opened
promised_more_is_refuted calm = elim (calm.unpromised 1 (inl refl)) [ inl l ↦ omega arith | inr t ↦ (let a = t.0 in omega arith) ]
