-- The tests of ballots, and what they tell.
use Rattle.std.proofs.Common.{◌≡◌, inl, inr, Bool, true, false, refl, arith, ◌==◌, if◌then◌else◌}
use Rattle.std.specs.Prelude.{◌↔◌}
use Rattle.std.proofs.lemmas.Bool.{eqb-false}
use Rattle.paxos_wire.specs.declared.ballot.Ballot.{Ballot}
use Rattle.protocol_model.specs.Ballots.{Below, AtMost}
use Rattle.paxos_wire.specs.Order.{is_below, is_same_ballot}
use Rattle.protocol_model.proofs.Ballots.{below_if, is_below_if, same_if, is_same_if}

pub below_is_tested : (a b : Ballot) → (is_below a b ≡ true) ↔ Below a b
below_is_tested a b = (below_if a b, is_below_if a b)

false_by : (a b : Ballot) → ¬ Below a b → (x : Bool) → is_below a b ≡ x → x ≡ false
false_by a b isnt true e = absurd (isnt (below_if a b e))
false_by a b isnt false e = refl

pub is_below_not : (a b : Ballot) → ¬ Below a b → is_below a b ≡ false
is_below_not a b isnt = false_by a b isnt (is_below a b) refl

pub same_is_tested : (a b : Ballot) → (is_same_ballot a b ≡ true) ↔ (a ≡ b)
same_is_tested a b = (same_if a b, is_same_if a b)

differ_by : (a b : Ballot) → AtMost a b → (x y : Bool) → (a.round == b.round) ≡ x → (a.node == b.node) ≡ y → (if x then y else false) ≡ false → Below a b
differ_by a b (inl lower) x y ex ey h = inl lower
differ_by a b (inr same) true true ex ey h = absurd (cc)
differ_by a b (inr same) true false ex ey h = let l = same.1 in let ne = eqb-false a.node b.node ey in inr (same.0, grind arith)
differ_by a b (inr same) false y ex ey h = absurd (eqb-false a.round b.round ex same.0)

-- of two that aren't the same the one that is at most the other is below it
pub differ : (a b : Ballot) → AtMost a b → is_same_ballot a b ≡ false → Below a b
differ a b most h = differ_by a b most _ _ refl refl h
