-- A node whose next ballot is refused, and its way on, worked out.
use Rattle.std.proofs.Common.{◌≡◌, ℕ, zero, suc, ◌+◌, ◌<◌, ◌^◌, ◌⊎◌, inl, inr, true, [], ◌∷◌, Some, refl, ap, subst, ◌∙◌, arith, length}
use Rattle.paxos_wire.specs.declared.message.Message.TheVariants.{Prepare, Promise, Refuse, Accept, Accepted}
use Rattle.protocol_model.specs.Ballots.{Below, AtMost}
use Rattle.protocol_model.specs.Messages.{Vote}
use Rattle.protocol_model.specs.Stores.{promised}
use Rattle.node_rules.specs.Standings.{Standing}
use Rattle.node_rules.specs.Calm.{Ticks, delivers, round}
use Rattle.node_rules.specs.Ways.{Movable, Outbids, two_ballots, IsWay, at_once, outbid}
use Rattle.node_rules.proofs.Examples.{opened, place, ballot, dealt, voted_1, told}
use Rattle.node_rules.proofs.CalmExamples.{last_two, left_over, further_on}

-- ---- node 1 voted for node 0's deal and then promised (3, 1); node 2 promised (1, 0), and would begin (2, 2): it isn't at rest, and movable

refused_is_movable : Movable (place 2) further_on 2 (1 ∷ 2 ∷ []) (dealt 0 ∷ [])
unfolding opened
refused_is_movable = record {
  of_node = refl;
  quorum = last_two;
  member = inr (inl refl);
  up = λ node h. up_at node;
  seen_left = omega arith;
  promises_left = λ node h. left_at node;
  slot_left = omega arith;
  goes_on = refl;
  value = inl (record {
    least = omega arith;
    most = omega arith;
    slots = omega arith;
    held = (
      record {
        greatest = record { ballot = ballot 1 0; command = dealt 0 };
        held = (1, inl refl, refl);
        same = refl;
        above = λ vote h. vote_at h.0 vote h.2;
      },
      tt,
    );
    ends = inr (inr (λ vote h. none_at h.0 vote h.2));
  });
}
  where
    none_at : (node : ℕ) (vote : Vote) → (further_on node).store.votes 1 ≡ Some vote → ⊥
    none_at zero vote e = cc
    none_at (suc zero) vote e = cc
    none_at (suc (suc node)) vote e = cc

    up_at : (node : ℕ) → (further_on node).up ≡ true
    up_at zero = refl
    up_at (suc zero) = refl
    up_at (suc (suc node)) = refl

    left_at : (node : ℕ) → Below (further_on node).store.promise (ballot 2 2) ⊎ ((further_on node).store.promise.round + 1 < 2 ^ 32)
    left_at zero = inl (inl (omega arith))
    left_at (suc zero) = inr (omega arith)
    left_at (suc (suc node)) = inl (inl (omega arith))

    vote_at : (node : ℕ) (vote : Vote) → (further_on node).store.votes 0 ≡ Some vote → AtMost vote.ballot (ballot 1 0)
    vote_at zero vote e = absurd (cc)
    vote_at (suc zero) vote e = let same : record { ballot = ballot 1 0; command = dealt 0 } ≡ vote = cc in subst (λ (v : Vote). AtMost v.ballot (ballot 1 0)) same (inr (refl, omega arith))
    vote_at (suc (suc node)) vote e = absurd (cc)

node_1_outbids : Outbids further_on 2 (1 ∷ 2 ∷ []) 1
unfolding opened
node_1_outbids = record {
  member = inl refl;
  most = λ node h. most_at node;
  above = λ low. elim low [ inl l ↦ omega arith | inr t ↦ (let a = t.0 in omega arith) ];
}
  where
    most_at : (node : ℕ) → AtMost (further_on node).store.promise (ballot 3 1)
    most_at zero = inl (omega arith)
    most_at (suc zero) = inr (refl, omega arith)
    most_at (suc (suc node)) = inl (omega arith)

-- its ballot (2, 2) is refused; the round of (4, 2) is told the vote, and carries it: eight events for two members
its_way : two_ballots further_on 2 (1 ∷ 2 ∷ []) (dealt 0 ∷ []) 1
    ≡ Ticks 2 ∷ delivers 2 1 (Prepare (ballot 2 2) 0) ∷ delivers 1 2 (Refuse (ballot 2 2) 0 (ballot 3 1))
    ∷ Ticks 2 ∷ delivers 2 1 (Prepare (ballot 4 2) 0) ∷ delivers 1 2 (Promise (ballot 4 2) 0 (told ∷ []))
    ∷ delivers 2 1 (Accept (ballot 4 2) 0 (dealt 0 ∷ [])) ∷ delivers 1 2 (Accepted (ballot 4 2) 0 (dealt 0 ∷ [])) ∷ []
unfolding opened
its_way = refl

it_is_a_way : IsWay further_on 2 (1 ∷ 2 ∷ []) (dealt 0 ∷ []) (two_ballots further_on 2 (1 ∷ 2 ∷ []) (dealt 0 ∷ []) 1)
it_is_a_way = outbid 1 node_1_outbids refl

-- the round of (2, 2) is none
its_round_is_refuted : IsWay further_on 2 (1 ∷ 2 ∷ []) (dealt 0 ∷ []) (round further_on 2 (1 ∷ 2 ∷ []) (dealt 0 ∷ [])) → ⊥
unfolding opened
its_round_is_refuted (at_once unpromised e) = elim (unpromised 1 (inl refl)) [ inl l ↦ omega arith | inr t ↦ (let a = t.0 in omega arith) ]
its_round_is_refuted (outbid j bid e) = let short : 5 ≡ 8 = ap length e in omega (arith, short)

-- ---- who doesn't outbid

-- a member that promised less than another
less_is_refuted : Outbids further_on 2 (0 ∷ 1 ∷ 2 ∷ []) 0 → ⊥
unfolding opened
less_is_refuted bid = elim (bid.most 1 (inr (inl refl))) [ inl l ↦ omega arith | inr t ↦ (let a = t.0 in omega arith) ]

-- where all have promised less than the next ballot, nobody
below_is_refuted : Outbids left_over 2 (1 ∷ 2 ∷ []) 1 → ⊥
unfolding opened
below_is_refuted bid = bid.above (inl (omega arith))

-- ---- where no round is left

-- node 1 promised the last round
abbrev last_round : ℕ → Standing
last_round zero = left_over zero
last_round (suc zero) = record voted_1 { store = promised voted_1.store (ballot 4294967295 1) }
last_round (suc (suc node)) = left_over (suc (suc node))

last_round_is_refuted : Movable (place 2) last_round 2 (1 ∷ 2 ∷ []) (dealt 0 ∷ []) → ⊥
unfolding opened
last_round_is_refuted movable = elim (movable.promises_left 1 (inl refl)) [
  | inl below ↦ elim below [ inl l ↦ omega arith | inr t ↦ (let a = t.0 in omega arith) ]
  | inr left ↦ omega arith
]

-- nor are nodes movable to another command than what they would propose
other_command_is_refuted : Movable (place 2) further_on 2 (1 ∷ 2 ∷ []) (dealt 2 ∷ []) → ⊥
unfolding opened
other_command_is_refuted movable = elim movable.value [
  | inl run ↦ only_vote run.held.0.held.0 run.held.0.greatest run.held.0.held.2 run.held.0.same
  | inr own ↦ own.2.0 (record { ballot = ballot 1 0; command = dealt 0 }) (1, inl refl, refl)
]
  where
    only_vote : (node : ℕ) (vote : Vote) → (further_on node).store.votes 0 ≡ Some vote → vote.command ≡ dealt 2 → ⊥
    only_vote zero vote e same = cc
    only_vote (suc zero) vote e same = let is : record { ballot = ballot 1 0; command = dealt 0 } ≡ vote = cc in let clash : dealt 0 ≡ dealt 2 = ap (λ (v : Vote). v.command) is ∙ same in cc
    only_vote (suc (suc node)) vote e same = cc
