-- The order of ballots, and the greatest ballot seen.
use Rattle.std.proofs.Common.{◌≡◌, ◌⊎◌, inl, inr, Bool, true, false, List, [], ◌∷◌, refl, sym, ◌∙◌, subst, arith, if◌then◌else◌}
use Rattle.paxos_wire.specs.declared.ballot.Ballot.{Ballot}
use Rattle.protocol_model.specs.Sets.{In}
use Rattle.protocol_model.specs.Ballots.{AtMost}
use Rattle.protocol_model.specs.Messages.{Message}
use Rattle.paxos_wire.specs.Order.{is_below}
use Rattle.protocol_model.proofs.Ballots.{at_most_trans, at_most_self, at_most_of_below, same_ballot, below_if, at_most_if_not}
use Rattle.node_rules.specs.Proposing.{higher}
use Rattle.node_rules.specs.Rules.{highest}
use Rattle.node_rules.specs.Seen.{ballots_in, IsTold, Sees}

pub both_ways : (a b : Ballot) → AtMost a b → AtMost b a → a ≡ b
both_ways a b h k = same_ballot a b (grind arith) (grind arith)

-- ---- the higher of two, and the highest of some

higher_by : (a b : Ballot) (x : Bool) → is_below a b ≡ x → AtMost a (if x then b else a) × AtMost b (if x then b else a) × (((if x then b else a) ≡ a) ⊎ ((if x then b else a) ≡ b))
higher_by a b true e = (at_most_of_below a b (below_if a b e), at_most_self b, inr refl)
higher_by a b false e = (at_most_self a, at_most_if_not a b e, inl refl)

pub higher_is : (a b : Ballot) → AtMost a (higher a b) × AtMost b (higher a b) × ((higher a b ≡ a) ⊎ (higher a b ≡ b))
higher_is a b = higher_by a b (is_below a b) refl

pub highest_above : (seen : Ballot) (bs : List Ballot) → AtMost seen (highest seen bs)
highest_above seen [] = at_most_self seen
highest_above seen (b ∷ bs) = at_most_trans seen (higher seen b) (highest seen (b ∷ bs)) (higher_is seen b).0 (highest_above (higher seen b) bs)

pub highest_all : (seen : Ballot) (bs : List Ballot) (c : Ballot) → In c bs → AtMost c (highest seen bs)
highest_all seen [] c h = absurd h
highest_all seen (b ∷ bs) c (inl e) = subst (λ (k : Ballot). AtMost k (highest seen (b ∷ bs))) (sym e) (at_most_trans b (higher seen b) (highest seen (b ∷ bs)) (higher_is seen b).1 (highest_above (higher seen b) bs))
highest_all seen (b ∷ bs) c (inr h) = highest_all (higher seen b) bs c h

pub highest_one : (seen : Ballot) (bs : List Ballot) → (highest seen bs ≡ seen) ⊎ In (highest seen bs) bs
highest_one seen [] = inl refl
highest_one seen (b ∷ bs) = elim (highest_one (higher seen b) bs) [
  | inl e ↦ elim (higher_is seen b).2 [ inl old ↦ inl (e ∙ old) | inr new ↦ inr (inl (e ∙ new)) ]
  | inr h ↦ inr (inr h)
]

-- ---- what was seen

told_more : (messages : List Message) (m : Message) (b : Ballot) → IsTold messages b → IsTold (m ∷ messages) b
told_more messages m b t = (t.0, inr t.1, t.2)

told_split : (messages : List Message) (m : Message) (b : Ballot) → IsTold (m ∷ messages) b → In b (ballots_in m) ⊎ IsTold messages b
told_split messages m b (o, inl e, h) = inl (subst (λ (x : Message). In b (ballots_in x)) e h)
told_split messages m b (o, inr i, h) = inr (o, i, h)

-- a message of another node comes, and its ballots count
pub sees_more : (messages : List Message) (m : Message) (promise seen : Ballot) (bs : List Ballot) → ballots_in m ≡ bs → Sees messages promise seen
    → Sees (m ∷ messages) promise (highest seen bs)
sees_more messages m promise seen bs e sees = record {
  all = λ b h. elim (told_split messages m b h) [
    | inl new ↦ inl (highest_all seen bs b (subst (In b) e new))
    | inr old ↦ elim (sees.all b old) [ inl low ↦ inl (at_most_trans b seen (highest seen bs) low (highest_above seen bs)) | inr p ↦ inr p ]
  ];
  some = elim (highest_one seen bs) [
    | inl same ↦ elim sees.some [ inl none ↦ inl (same ∙ none) | inr told ↦ inr (told_more messages m (highest seen bs) (subst (IsTold messages) (sym same) told)) ]
    | inr new ↦ inr (m, inl refl, subst (In (highest seen bs)) (sym e) new)
  ];
}

-- the node gets a message of its own, which tells of no ballot above its promise
pub sees_own : (messages : List Message) (m : Message) (promise seen : Ballot) → ((b : Ballot) → In b (ballots_in m) → AtMost b promise) → Sees messages promise seen
    → Sees (m ∷ messages) promise seen
sees_own messages m promise seen low sees = record {
  all = λ b h. elim (told_split messages m b h) [ inl new ↦ inr (low b new) | inr old ↦ sees.all b old ];
  some = elim sees.some [ inl none ↦ inl none | inr told ↦ inr (told_more messages m seen told) ];
}

-- a message of another node comes whose ballots were seen
pub sees_again : (messages : List Message) (m : Message) (promise seen : Ballot) → ((b : Ballot) → In b (ballots_in m) → AtMost b seen) → Sees messages promise seen
    → Sees (m ∷ messages) promise seen
sees_again messages m promise seen low sees = record {
  all = λ b h. elim (told_split messages m b h) [ inl new ↦ inl (low b new) | inr old ↦ sees.all b old ];
  some = elim sees.some [ inl none ↦ inl none | inr told ↦ inr (told_more messages m seen told) ];
}

-- the promise goes up
pub sees_up : (messages : List Message) (promise new seen : Ballot) → AtMost promise new → Sees messages promise seen → Sees messages new seen
sees_up messages promise new seen up sees = record {
  all = λ b h. elim (sees.all b h) [ inl low ↦ inl low | inr p ↦ inr (at_most_trans b promise new p up) ];
  some = sees.some;
}
