-- A part of distinct cards is distinct, and a part of cards of the pack is of the pack.
use Rattle.std.proofs.Common.{◌≡◌, ◌<◌, ◌≤◌, ◌+◌, ◌-◌, ◌*◌, ℕ, zero, suc, List, [], ◌∷◌, ◌++◌, length, take, drop, nat_eq, arith, ap, ◌∙◌, length-drop}
use Rattle.std.proofs.lemmas.List.{drop-drop}
use Rattle.std.specs.List.{IsDistinct, AllByRecursion}
use Rattle.std.proofs.lemmas.Map.Keys.{IsDistinct-head, IsDistinct-tail, IsDistinct-cons}
use Rattle.card_core.specs.Deal.{IsDeal, hole_of, board_of}

AllByRecursion-drop : (P : ℕ → Type 0) (n : ℕ) (xs : List ℕ) → AllByRecursion P xs → AllByRecursion P (drop n xs)
AllByRecursion-drop P zero xs all = all
AllByRecursion-drop P (suc n) [] all = all
AllByRecursion-drop P (suc n) (x ∷ xs) all = AllByRecursion-drop P n xs all.1

IsDistinct-drop : (n : ℕ) (xs : List ℕ) → IsDistinct nat_eq xs → IsDistinct nat_eq (drop n xs)
IsDistinct-drop zero xs d = d
IsDistinct-drop (suc n) [] d = d
IsDistinct-drop (suc n) (x ∷ xs) d = IsDistinct-drop n xs (IsDistinct-tail nat_eq x xs d)

two_and_later :
    (n : ℕ) (xs : List ℕ) → 2 ≤ length xs → IsDistinct nat_eq xs → IsDistinct nat_eq (take 2 xs ++ drop (suc (suc n)) xs)
two_and_later n [] h d = absurd (omega arith)
two_and_later n (a ∷ []) h d = absurd (omega arith)
two_and_later n (a ∷ b ∷ xs) h d =
    let first = IsDistinct-head nat_eq a (b ∷ xs) d in
    let later = IsDistinct-tail nat_eq a (b ∷ xs) d in
    let second = IsDistinct-head nat_eq b xs later in
    IsDistinct-cons nat_eq a (b ∷ drop n xs) (first.0, AllByRecursion-drop _ n xs first.1)
    (IsDistinct-cons nat_eq b (drop n xs) (AllByRecursion-drop _ n xs second) (IsDistinct-drop n xs (IsDistinct-tail nat_eq b xs later)))

pub seven-distinct :
    (players position : ℕ) (cards : List ℕ) → IsDeal players cards → position < players →
    IsDistinct nat_eq (hole_of cards position ++ board_of cards)
seven-distinct players position cards deal h =
    let count : length cards ≡ 2 * players + 5 = deal.count in
    let behind : ℕ = length cards - 5 - 2 * position - 2 in
    let place : 2 * position + suc (suc behind) ≡ length cards - 5 = omega arith in
    let two : 2 ≤ length (drop (2 * position) cards) = omega (arith, length-drop (2 * position) cards) in
    let board : drop (suc (suc behind)) (drop (2 * position) cards) ≡ board_of cards =
    drop-drop (suc (suc behind)) (2 * position) cards ∙ ap (λ n. drop n cards) place in
    rw (← board) (two_and_later behind (drop (2 * position) cards) two (IsDistinct-drop (2 * position) cards deal.distinct))
