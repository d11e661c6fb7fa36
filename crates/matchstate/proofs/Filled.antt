-- Cards that are put behind others, each of which doesn't stand there yet.
use Rattle.std.proofs.Common.{◌≡◌, ℕ, ◌+◌, ◌<◌, Bool, true, false, inl, inr, nat_eq, List, [], ◌∷◌, ◌++◌, length, take, set, refl, sym, ap, ◌∙◌, arith}
use Rattle.std.specs.List.{IsDistinct, AllByRecursion, list_any}
use Rattle.std.proofs.lemmas.List.{take_more_set}
use Rattle.std.specs.Prelude.{◌||◌}
use Rattle.std.proofs.lemmas.Bool.Decides.{eqb_tells, nat_tests}
use Rattle.std.proofs.SliceLists.{all_by_recursion_push}
use Rattle.matchstate.proofs.Counts.{from_absent}
use Rattle.matchstate.proofs.Completion.{fresh_card}
use Rattle.card_core.proofs.Distinct.{none_from_any, any_from_none}

IsDistinct-push : (xs : List ℕ) (x : ℕ) → IsDistinct nat_eq xs → AllByRecursion (λ y. nat_eq x y ≡ false) xs → IsDistinct nat_eq (xs ++ x ∷ [])
unfolding IsDistinct
IsDistinct-push [] x distinct apart = (tt, tt)
IsDistinct-push (y ∷ xs) x distinct apart =
    let other : nat_eq y x ≡ false = let here = apart.0 in grind (arith, nat_tests) in
    (all_by_recursion_push (λ z. nat_eq y z ≡ false) xs x distinct.0 other, IsDistinct-push xs x distinct.1 apart.1)

pub distinct_more : (xs : List ℕ) (place card : ℕ) → place < length xs → list_any (λ other. nat_eq card other) (take place xs) ≡ false → IsDistinct nat_eq (take place xs) → IsDistinct nat_eq (take (place + 1) (set xs place card))
distinct_more xs place card below unused distinct =
    rw (take_more_set xs place card below) (IsDistinct-push (take place xs) card distinct (none_from_any (λ other. nat_eq card other) (take place xs) unused))

any_push : (p : ℕ → Bool) (xs : List ℕ) (x : ℕ) → list_any p xs ≡ true → list_any p (xs ++ x ∷ []) ≡ true
any_push p [] x some = cc
any_push p (y ∷ xs) x some =
    elim (p y) as (λ b. b || list_any p xs ≡ true → b || list_any p (xs ++ x ∷ []) ≡ true) [ true ↦ λ here. refl | false ↦ λ later. any_push p xs x later ] some

any_last : (p : ℕ → Bool) (xs : List ℕ) (x : ℕ) → p x ≡ true → list_any p (xs ++ x ∷ []) ≡ true
any_last p [] x here = rw here refl
any_last p (y ∷ xs) x here = elim (p y) as (λ b. b || list_any p (xs ++ x ∷ []) ≡ true) [ true ↦ refl | false ↦ any_last p xs x here ]

-- where a card is put behind those that have all numbers before its own, they have all numbers before the next
pub used_more : (xs : List ℕ) (place card number : ℕ) → place < length xs → card ≡ number → ((k : ℕ) → k < number → list_any (λ card. nat_eq k card) (take place xs) ≡ true) → (k : ℕ) → k < number + 1 → list_any (λ card. nat_eq k card) (take (place + 1) (set xs place card)) ≡ true
used_more xs place card number below same_number used k small =
    rw (take_more_set xs place card below)
    (elim (eqb_tells k number) [
      | inl same ↦ any_last (λ other. nat_eq k other) (take place xs) card (ap (nat_eq k) same_number ∙ same.0)
      | inr apart ↦ (let other = apart.1 in any_push (λ other. nat_eq k other) (take place xs) card (used k (omega arith)))
    ])

-- fewer than 52 cards can't be the whole pack
pub not_the_whole_pack : (xs : List ℕ) → length xs < 52 → ((k : ℕ) → k < 52 → list_any (λ card. nat_eq k card) xs ≡ true) → ⊥
not_the_whole_pack xs few all =
    let found = fresh_card 52 xs few in
    let none = any_from_none (λ card. nat_eq found.0 card) xs (from_absent found.0 xs found.2) in
    let some = all found.0 found.1 in
    let clash : ◌≡◌ {A = Bool} false true = sym none ∙ some in
    cc
