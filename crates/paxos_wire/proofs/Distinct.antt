-- The test of distinct cards is that they are distinct.
use Rattle.std.proofs.Common.{◌≡◌, ℕ, true, false, not, nat_eq, List, [], ◌∷◌, Some, None, refl}
use Rattle.std.specs.List.{list_any, IsDistinct}
use Rattle.std.proofs.lemmas.Bool.{and_parts, and_right, not-true, false_from_ne_true}
use Rattle.paxos_wire.specs.Reading.{are_cards, are_distinct, deal_of}
use Rattle.card_core.proofs.Distinct.{any_from_none, none_from_any}

pub are_distinct-from : (xs : List ℕ) → IsDistinct nat_eq xs → are_distinct xs ≡ true
unfolding IsDistinct
are_distinct-from [] h = refl
are_distinct-from (x ∷ xs) h = rw (any_from_none (λ y. nat_eq x y) xs h.0, are_distinct-from xs h.1) refl

pub is_distinct : (xs : List ℕ) → are_distinct xs ≡ true → IsDistinct nat_eq xs
unfolding IsDistinct
is_distinct [] h = tt
is_distinct (x ∷ xs) h =
    let both = and_parts (not (list_any (λ y. nat_eq x y) xs)) (are_distinct xs) h in
    (none_from_any (λ y. nat_eq x y) xs (not-true (list_any (λ y. nat_eq x y) xs) both.0), is_distinct xs both.1)

-- the deal of distinct cards of the pack, and of nothing else
pub deal_is : (xs : List ℕ) → are_cards xs ≡ true → IsDistinct nat_eq xs → deal_of xs ≡ Some xs
unfolding deal_of
deal_is xs cards distinct = rw (cards, are_distinct-from xs distinct) refl

pub deal_none : (xs : List ℕ) → ¬ (IsDistinct nat_eq xs) → deal_of xs ≡ None
unfolding deal_of
deal_none xs repeated = let test : are_distinct xs ≡ false = false_from_ne_true (are_distinct xs) (λ h. repeated (is_distinct xs h)) in rw (test, and_right (are_cards xs) false refl) refl

pub deal_none_cards : (xs : List ℕ) → ¬ (are_cards xs ≡ true) → deal_of xs ≡ None
unfolding deal_of
deal_none_cards xs other = rw (false_from_ne_true (are_cards xs) other) refl
