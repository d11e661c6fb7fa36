-- The order of ballots, and what the tests of it tell.
use Rattle.std.proofs.Common.{◌≡◌, ℕ, zero, suc, ◌<◌, ◌≤◌, ◌⊎◌, inl, inr, Bool, true, false, ◌==◌, if◌then◌else◌, refl, sym, ap, ◌∙◌, arith}
use Rattle.std.proofs.lemmas.Bool.{lt-ltb, le-ltb, eqb-true, eq-eqb}
use Rattle.std.proofs.lemmas.Bool.Decides.{nat_tests}
use Rattle.paxos_wire.specs.declared.ballot.Ballot.{Ballot}
use Rattle.paxos_wire.specs.Order.{is_below, is_same_ballot}
use Rattle.protocol_model.specs.Ballots.{Below, AtMost}

pub at_most_self : (a : Ballot) → AtMost a a
at_most_self a = grind arith

pub at_most_trans : (a b c : Ballot) → AtMost a b → AtMost b c → AtMost a c
at_most_trans a b c h k = grind arith

pub at_most_of_below : (a b : Ballot) → Below a b → AtMost a b
at_most_of_below a b h = grind arith

pub below_of_at_most : (a b c : Ballot) → AtMost a b → Below b c → Below a c
below_of_at_most a b c h k = grind arith

pub not_below : (a b : Ballot) → AtMost a b → Below b a → ⊥
not_below a b h k = grind arith

pub same_ballot : (a b : Ballot) → a.round ≡ b.round → a.node ≡ b.node → a ≡ b
same_ballot a b r k = λ i. record { round = r i; node = k i }

-- an order at most is equal or below
pub equal_or_below : (a b : Ballot) → AtMost a b → (a ≡ b) ⊎ Below a b
equal_or_below a b (inl h) = inr (inl h)
equal_or_below a b (inr h) =
    let cases : (a.node ≡ b.node) ⊎ (a.node < b.node) = grind arith in
    elim cases [ inl e ↦ inl (same_ballot a b h.0 e) | inr l ↦ inr (inr (h.0, l)) ]

pub compared : (a b : Ballot) → Below a b ⊎ ((a ≡ b) ⊎ Below b a)
compared a b =
    let cases : AtMost a b ⊎ Below b a = grind arith in
    elim cases [ inl h ↦ elim (equal_or_below a b h) [ inl e ↦ inr (inl e) | inr l ↦ inl l ] | inr h ↦ inr (inr h) ]

-- ---- the tests

-- a ballot is below another one or it isn't
pub below_cases : (a b : Ballot) → ((is_below a b ≡ true) × Below a b) ⊎ ((is_below a b ≡ false) × AtMost b a)
below_cases a b = by (is_below a b) refl
  where
    by : (test : Bool) → is_below a b ≡ test → ((is_below a b ≡ true) × Below a b) ⊎ ((is_below a b ≡ false) × AtMost b a)
    by true is = inl (is, grind (arith, nat_tests, is))
    by false is = inr (is, grind (arith, nat_tests, is))

pub below_if : (a b : Ballot) → is_below a b ≡ true → Below a b
below_if a b h = elim (below_cases a b) [ inl below ↦ below.1 | inr most ↦ let e : true ≡ false = sym h ∙ most.0 in absurd (cc) ]

pub is_below_if : (a b : Ballot) → Below a b → is_below a b ≡ true
is_below_if a b (inl lower) = rw (lt-ltb a.round b.round lower) refl
is_below_if a b (inr same) = let e = same.0 in rw (le-ltb a.round b.round (omega arith), eq-eqb a.round b.round e) (lt-ltb a.node b.node same.1)

-- what isn't below is at least
pub at_most_if_not : (a b : Ballot) → is_below a b ≡ false → AtMost b a
at_most_if_not a b h = elim (below_cases a b) [ inl below ↦ let e : true ≡ false = sym below.0 ∙ h in absurd (cc) | inr most ↦ most.1 ]

same_by : (a b : Ballot) (x y : Bool) → (a.round == b.round) ≡ x → (a.node == b.node) ≡ y → (if x then y else false) ≡ true → a ≡ b
same_by a b true true ex ey h = λ i. record { round = eqb-true a.round b.round ex i; node = eqb-true a.node b.node ey i }
same_by a b true false ex ey h = absurd (cc)
same_by a b false y ex ey h = absurd (cc)

pub same_if : (a b : Ballot) → is_same_ballot a b ≡ true → a ≡ b
same_if a b h = same_by a b _ _ refl refl h

pub is_same_if : (a b : Ballot) → a ≡ b → is_same_ballot a b ≡ true
is_same_if a b e = rw (eq-eqb a.round b.round (ap (λ (x : Ballot). x.round) e)) (eq-eqb a.node b.node (ap (λ (x : Ballot). x.node) e))

-- ---- induction

-- what follows from all lower ballots holds of each ballot
by_node : (P : Ballot → Type 0) → ((b : Ballot) → ((a : Ballot) → Below a b → P a) → P b) → (r : ℕ) → ((a : Ballot) → a.round < r → P a)
    → (k : ℕ) (b : Ballot) → b.round ≤ r → b.node < k → P b
by_node P step r lower zero b h l = absurd (omega arith)
by_node P step r lower (suc k) b h l =
    step b (λ a below. elim below [ inl first ↦ lower a (omega arith) | inr second ↦ by_node P step r lower k a (omega arith) (omega arith) ])

by_round : (P : Ballot → Type 0) → ((b : Ballot) → ((a : Ballot) → Below a b → P a) → P b) → (r : ℕ) (b : Ballot) → b.round < r → P b
by_round P step zero b h = absurd (omega arith)
by_round P step (suc r) b h = by_node P step r (by_round P step r) (suc b.node) b (omega arith) (omega arith)

pub induct : (P : Ballot → Type 0) → ((b : Ballot) → ((a : Ballot) → Below a b → P a) → P b) → (b : Ballot) → P b
induct P step b = by_round P step (suc b.round) b (omega arith)
