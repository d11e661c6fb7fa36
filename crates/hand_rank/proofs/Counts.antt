-- How the counts of ranks change with one more card.
use Rattle.std.proofs.Common.{◌≡◌, ℕ, ◌+◌, ◌<◌, List, [], ◌∷◌, ◌++◌, length, get_or, set, take, cond, eqb, true, false, inl, inr, ◌⊎◌, zero, suc, refl, sym, ◌∙◌, ap, arith}
use Rattle.std.specs.List.{sum}
use Rattle.std.proofs.lemmas.Bool.{cases_eq, eq-eqb, ne_eqb, cond-true, cond-false}
use Rattle.std.proofs.lemmas.List.{take_more, ext_get_or, get_or-map, get_or-set_same, get_or-set_other, length-set}
use Rattle.std.proofs.lemmas.List.Sums.{sum_by_push, sum_by-set}
use Rattle.card_core.specs.Card.{rank_of}
use Rattle.hand_rank.specs.Five.{counts_of, rank_count, ranks_up}

-- the ranks from the two on stand at their own places
pub ranks_up-at : (k : ℕ) → k < 13 → get_or ranks_up k 0 ≡ k
ranks_up-at zero h = refl
ranks_up-at (suc zero) h = refl
ranks_up-at (suc (suc zero)) h = refl
ranks_up-at (suc (suc (suc zero))) h = refl
ranks_up-at (suc (suc (suc (suc zero)))) h = refl
ranks_up-at (suc (suc (suc (suc (suc zero))))) h = refl
ranks_up-at (suc (suc (suc (suc (suc (suc zero)))))) h = refl
ranks_up-at (suc (suc (suc (suc (suc (suc (suc zero))))))) h = refl
ranks_up-at (suc (suc (suc (suc (suc (suc (suc (suc zero)))))))) h = refl
ranks_up-at (suc (suc (suc (suc (suc (suc (suc (suc (suc zero))))))))) h = refl
ranks_up-at (suc (suc (suc (suc (suc (suc (suc (suc (suc (suc zero)))))))))) h = refl
ranks_up-at (suc (suc (suc (suc (suc (suc (suc (suc (suc (suc (suc zero))))))))))) h = refl
ranks_up-at (suc (suc (suc (suc (suc (suc (suc (suc (suc (suc (suc (suc zero)))))))))))) h = refl
ranks_up-at (suc (suc (suc (suc (suc (suc (suc (suc (suc (suc (suc (suc (suc k))))))))))))) h = absurd (omega arith)

pub length-counts_of : (cards : List ℕ) → length (counts_of cards) ≡ 13
unfolding counts_of
length-counts_of cards = refl

-- the count of a rank stands at its place
pub counts_of-at : (cards : List ℕ) (k : ℕ) → k < 13 → get_or (counts_of cards) k 0 ≡ rank_count cards k
unfolding counts_of
counts_of-at cards k h = get_or-map (rank_count cards) ranks_up k 0 0 h ∙ ap (rank_count cards) (ranks_up-at k h)

-- one more card adds one to the count of its rank
pub rank_count-push : (cards : List ℕ) (card k : ℕ) → rank_count (cards ++ card ∷ []) k ≡ rank_count cards k + cond (eqb (rank_of card) k) 1 0
rank_count-push cards card k = sum_by_push (λ x. cond (eqb (rank_of x) k) 1 0) cards card

count_after : (cards : List ℕ) (card rank k : ℕ) → rank_of card ≡ rank → rank < length (counts_of cards) → k < 13 → (rank ≡ k) ⊎ (rank ≡ k → ⊥) → rank_count cards k + cond {A = ℕ} (eqb (rank_of card) k) 1 0 ≡ get_or (set (counts_of cards) rank (get_or (counts_of cards) rank 0 + 1)) k 0
count_after cards card rank k e short within (inl same) =
    let test : eqb (rank_of card) k ≡ true = eq-eqb (rank_of card) k (e ∙ same) in
    let here : get_or (set (counts_of cards) rank (get_or (counts_of cards) rank 0 + 1)) rank 0 ≡ get_or (counts_of cards) rank 0 + 1 = get_or-set_same (counts_of cards) rank (get_or (counts_of cards) rank 0 + 1) 0 short in
    let there : get_or (set (counts_of cards) rank (get_or (counts_of cards) rank 0 + 1)) k 0 ≡ get_or (set (counts_of cards) rank (get_or (counts_of cards) rank 0 + 1)) rank 0 = ap (λ n. get_or (set (counts_of cards) rank (get_or (counts_of cards) rank 0 + 1)) n 0) (sym same) in
    let count : get_or (counts_of cards) rank 0 ≡ rank_count cards k = ap (λ n. get_or (counts_of cards) n 0) same ∙ counts_of-at cards k within in
    let one : ◌≡◌ {A = ℕ} (cond (eqb (rank_of card) k) 1 0) 1 = cond-true (eqb (rank_of card) k) 1 0 test in
    omega (arith, here, there, count, one)
count_after cards card rank k e short within (inr differ) =
    let test : eqb (rank_of card) k ≡ false = ne_eqb (rank_of card) k (λ (h : rank_of card ≡ k). differ (sym e ∙ h)) in
    let other : get_or (set (counts_of cards) rank (get_or (counts_of cards) rank 0 + 1)) k 0 ≡ get_or (counts_of cards) k 0 = get_or-set_other (counts_of cards) rank k (get_or (counts_of cards) rank 0 + 1) 0 (λ (h : k ≡ rank). differ (sym h)) in
    let none : ◌≡◌ {A = ℕ} (cond (eqb (rank_of card) k) 1 0) 0 = cond-false (eqb (rank_of card) k) 1 0 test in
    omega (arith, other, none, counts_of-at cards k within)

pub counts_of-push : (cards : List ℕ) (card rank : ℕ) → rank_of card ≡ rank → rank < 13 → counts_of (cards ++ card ∷ []) ≡ set (counts_of cards) rank (get_or (counts_of cards) rank 0 + 1)
counts_of-push cards card rank e below =
    let old : List ℕ = counts_of cards in
    let short : rank < length old = omega (arith, length-counts_of cards) in
    let same_length : length (counts_of (cards ++ card ∷ [])) ≡ length (set old rank (get_or old rank 0 + 1)) =
    omega (arith, length-counts_of cards, length-counts_of (cards ++ card ∷ []), length-set old rank (get_or old rank 0 + 1)) in
    ext_get_or 0 _ _ same_length (λ k h.
    let within : k < 13 = omega (arith, length-counts_of (cards ++ card ∷ [])) in
    counts_of-at (cards ++ card ∷ []) k within ∙ (rank_count-push cards card k ∙ count_after cards card rank k e short within (cases_eq rank k)))

-- the step of a loop that counts: the card at i is counted
pub counts_of-more : (cards counts : List ℕ) (i card rank : ℕ) → i < length cards → card ≡ get_or cards i card → rank ≡ rank_of card → rank < 13 → counts ≡ counts_of (take i cards) → set counts rank (get_or counts rank 0 + 1) ≡ counts_of (take (i + 1) cards)
counts_of-more cards counts i card rank within read e below so_far =
    let one_more : take (i + 1) cards ≡ take i cards ++ card ∷ [] = take_more cards i card within ∙ ap (λ (x : ℕ). take i cards ++ x ∷ []) (sym read) in
    ap (λ (n : List ℕ). set n rank (get_or n rank 0 + 1)) so_far
    ∙ (sym (counts_of-push (take i cards) card rank (sym e) below)
    ∙ ap counts_of (sym one_more))

-- and the sum of the counts is the number of cards
pub sum-counts_more : (cards counts : List ℕ) (i rank : ℕ) → rank < 13 → counts ≡ counts_of (take i cards) → sum counts ≡ i → sum (set counts rank (get_or counts rank 0 + 1)) ≡ i + 1
sum-counts_more cards counts i rank below so_far total =
    let short : rank < length counts = omega (arith, ap length so_far, length-counts_of (take i cards)) in
    omega (arith, sum_by-set (λ (x : ℕ). x) counts rank (get_or counts rank 0 + 1) 0 short)
