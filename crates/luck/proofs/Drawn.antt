-- A board that is drawn: five cards, none of them twice, none of them known.
use Rattle.std.proofs.Common.{◌≡◌, ℕ, suc, ◌+◌, ◌-◌, ◌≤◌, true, List, [], ◌∷◌, ◌++◌, length, take, drop, nat_eq, IsPermutation, refl, sym, ◌∙◌, ap, subst, append_assoc, arith}
use Rattle.std.specs.List.{IsDistinct, filter, range_with_len}
use Rattle.std.specs.Set.{is_member}
use Rattle.std.proofs.lemmas.Bool.{and_parts}
use Rattle.std.proofs.lemmas.Bool.Decides.{nat_tests}
use Rattle.std.proofs.lemmas.Cmp.{nat_eq_equiv}
use Rattle.std.proofs.lemmas.List.{length-append}
use Rattle.std.proofs.lemmas.List.Filters.{length-filter_both}
use Rattle.std.proofs.lemmas.List.FromFn.{length-range_with_len}
use Rattle.std.proofs.lemmas.List.Sorted.{IsPermutation-append_right, IsPermutation-append_comm, IsPermutation-trans}
use Rattle.std.proofs.lemmas.Map.Keys.{IsDistinct-IsPermutation}
use Rattle.std.proofs.lemmas.Map.Made.{length-le_from_is_member, is_member-filter}
use Rattle.std.proofs.Math.Seq.{take-append_seam, drop-append_seam}
use Rattle.rand.specs.Shuffle.{partially_shuffled}
use Rattle.rand_core.specs.Stream.{Stream}
use Rattle.card_core.specs.Deal.{board_of}
use Rattle.card_core.proofs.Distinct.{IsDistinct-take}
use Rattle.luck.specs.Draws.{drawn}
use Rattle.luck.specs.Left.{left_of}
use Rattle.luck.proofs.Left.{is_left, filter_fewer, distinct_filter, range_distinct, known_and_left}

pub same_test : (known : List ℕ) (x y : ℕ) → nat_eq x y ≡ true → is_member nat_eq known x ≡ is_member nat_eq known y
same_test known x y same = let e : x ≡ y = grind (arith, nat_tests) in ap (is_member nat_eq known) e

pub taken_few : (known : List ℕ) → length (filter (is_member nat_eq known) (range_with_len 0 52)) ≤ length known
taken_few known =
    length-le_from_is_member nat_eq_equiv (filter (is_member nat_eq known) (range_with_len 0 52)) known (distinct_filter (is_member nat_eq known) (range_with_len 0 52) (range_distinct 0 52))
    (λ x member. (and_parts (is_member nat_eq (range_with_len 0 52) x) (is_member nat_eq known x) (sym (is_member-filter nat_eq_equiv (is_member nat_eq known) x (same_test known x) (range_with_len 0 52)) ∙ member)).1)

-- no more cards are gone than are known
pub left_enough : (known : List ℕ) → 52 ≤ length (left_of known) + length known
unfolding left_of
left_enough known =
    let both : length (filter (is_member nat_eq known) (range_with_len 0 52)) + length (filter (is_left known) (range_with_len 0 52)) ≡ length (range_with_len 0 52) =
    length-filter_both (is_member nat_eq known) (is_left known) (λ x. refl) (range_with_len 0 52) in
    omega (arith, both, taken_few known, length-range_with_len 0 52)

-- and no more are left than the pack has
pub left_most : (known : List ℕ) → length (left_of known) ≤ 52
unfolding left_of
left_most known = omega (arith, filter_fewer (is_left known) (range_with_len 0 52), length-range_with_len 0 52)

pub last_five : (rest board : List ℕ) → length board ≡ 5 → board_of (rest ++ board) ≡ board
last_five rest board count =
    let place : length (rest ++ board) - 5 ≡ length rest = omega (arith, length-append rest board) in
    ap (λ n. drop n (rest ++ board)) place ∙ drop-append_seam rest board

pub drawn_apart : (known cards rest board : List ℕ) → IsDistinct nat_eq known → cards ≡ left_of known → IsPermutation cards (rest ++ board) → IsDistinct nat_eq (known ++ board)
drawn_apart known cards rest board distinct are moved =
    let all : IsDistinct nat_eq (known ++ cards) = subst (λ xs. IsDistinct nat_eq (known ++ xs)) (sym are) (known_and_left known distinct) in
    let turned : IsPermutation cards (board ++ rest) = IsPermutation-trans cards (rest ++ board) (board ++ rest) moved (IsPermutation-append_comm rest board) in
    let still : IsDistinct nat_eq (known ++ (board ++ rest)) = IsDistinct-IsPermutation nat_eq nat_eq_equiv.symm (known ++ cards) (known ++ (board ++ rest)) (IsPermutation-append_right known cards (board ++ rest) turned) all in
    let front : take (length (known ++ board)) (known ++ (board ++ rest)) ≡ known ++ board = ap (take (length (known ++ board))) (sym (append_assoc known board rest)) ∙ take-append_seam (known ++ board) rest in
    subst (IsDistinct nat_eq) front (IsDistinct-take nat_eq (length (known ++ board)) (known ++ (board ++ rest)) still)

-- the board is the one that is drawn
pub drawn_board : (cards left rest board : List ℕ) (stream after : Stream) → ◌≡◌ {A = List ℕ × Stream} (rest ++ board, after) (partially_shuffled cards 5 stream) → cards ≡ left → length board ≡ 5 → board ≡ board_of (partially_shuffled left 5 stream).0
drawn_board cards left rest board stream after drawn are count =
    sym (last_five rest board count) ∙ ap (λ (p : List ℕ × Stream). board_of p.0) drawn ∙ ap (λ xs. board_of (partially_shuffled xs 5 stream).0) are

pub front_of : (xs ys : List ℕ) (n : ℕ) → n ≡ length xs → take n (xs ++ ys) ≡ xs
front_of xs ys n same = ap (λ k. take k (xs ++ ys)) same ∙ take-append_seam xs ys

-- one more deal is drawn
pub drawn_more : (known : List ℕ) (start : Stream) (count : ℕ)
    → drawn known start (count + 1)
    ≡ ((drawn known start count).0 ++ (known ++ board_of (partially_shuffled (left_of known) 5 (drawn known start count).1).0) ∷ [], (partially_shuffled (left_of known) 5 (drawn known start count).1).1)
unfolding drawn
drawn_more known start count = let next : count + 1 ≡ suc count = omega arith in ap (drawn known start) next
