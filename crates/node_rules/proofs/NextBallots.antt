-- A node's next ballot, above all that it has met.
use Rattle.std.proofs.Common.{ℕ, inl, inr, List, [], ◌∷◌, refl, sym, subst, arith}
use Rattle.paxos_wire.specs.declared.ballot.Ballot.{Ballot}
use Rattle.protocol_model.specs.Sets.{In}
use Rattle.protocol_model.specs.Ballots.{Below, AtMost}
use Rattle.protocol_model.proofs.Ballots.{below_of_at_most}
use Rattle.proposer.specs.Campaigns.{next_ballot}
use Rattle.node_rules.specs.Standings.{Standing}
use Rattle.node_rules.specs.Proposing.{higher, greatest_seen}
use Rattle.node_rules.specs.Rules.{highest}
use Rattle.node_rules.specs.Calm.{ballot_after}
use Rattle.node_rules.proofs.Ordering.{higher_is}

-- none of them is above this one
pub highest_low : (seen top : Ballot) (bs : List Ballot) → AtMost seen top → ((c : Ballot) → In c bs → AtMost c top) → AtMost (highest seen bs) top
highest_low seen top [] low all = low
highest_low seen top (b ∷ bs) low all =
    highest_low (higher seen b) top bs
    (elim (higher_is seen b).2 [ inl old ↦ subst (λ (x : Ballot). AtMost x top) (sym old) low | inr new ↦ subst (λ (x : Ballot). AtMost x top) (sym new) (all b (inl refl)) ])
    (λ c h. all c (inr h))

-- ---- a node's next ballot

pub below_next : (i : ℕ) (b : Ballot) → Below b (next_ballot i b)
below_next i b = inl (omega arith)

-- neither its promise nor what it has seen is as high
pub promise_below : (i : ℕ) (s : Standing) → Below s.store.promise (ballot_after i s)
promise_below i s = below_of_at_most s.store.promise (greatest_seen s) (ballot_after i s) (higher_is s.seen s.store.promise).1 (below_next i (greatest_seen s))

pub seen_below : (i : ℕ) (s : Standing) → Below s.seen (ballot_after i s)
seen_below i s = below_of_at_most s.seen (greatest_seen s) (ballot_after i s) (higher_is s.seen s.store.promise).0 (below_next i (greatest_seen s))
