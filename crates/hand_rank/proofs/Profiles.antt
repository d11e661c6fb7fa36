-- The profile of cards grows with them.
use Rattle.std.proofs.Common.{◌≡◌, ◌≢◌, ℕ, suc, ◌+◌, ◌^◌, ◌<◌, Bool, true, false, ◌==◌, ◌&&◌, List, [], ◌∷◌, ◌++◌, length, take, get_or, bit_and, bit_or, sym, ◌∙◌, ap, subst, arith}
use Rattle.std.proofs.lemmas.Bool.{eq-eqb, ne_eqb}
use Rattle.std.proofs.lemmas.List.{take_more}
use Rattle.std.proofs.lemmas.List.Sums.{sum_by_push}
use Rattle.card_core.specs.Card.{rank_of, suit_of}
use Rattle.hand_rank.specs.Five.{rank_count}
use Rattle.hand_rank.specs.Profile.{IsProfileOf, suited_count}
use Rattle.hand_rank.specs.Ranks.{IsAtLeast}
use Rattle.hand_rank.specs.declared.profile.Profile.{Profile}
use Rattle.hand_rank.proofs.Counts.{rank_count-push}
use Rattle.hand_rank.proofs.Sets.{at_least_more, at_least_one_more}
use Rattle.hand_rank.proofs.Totals.{one_if, one_if_same, one_if_other}

count-here : (cards : List ℕ) (card rank : ℕ) → rank_of card ≡ rank → rank_count (cards ++ card ∷ []) rank ≡ rank_count cards rank + 1
count-here cards card rank e = omega (arith, rank_count-push cards card rank, one_if_same (rank_of card) rank e)

count-there : (cards : List ℕ) (card rank : ℕ) → rank_of card ≡ rank → (other : ℕ) → other ≢ rank → rank_count (cards ++ card ∷ []) other ≡ rank_count cards other
count-there cards card rank e other differ = omega (arith, rank_count-push cards card other, one_if_other (rank_of card) other (λ (same : rank_of card ≡ other). differ (sym same ∙ e)))

-- each set takes the ranks of the one below it that come once more
pub once_more : (bits new card rank : ℕ) (cards : List ℕ) → IsAtLeast bits 1 (rank_count cards) → rank_of card ≡ rank → new ≡ bit_or bits (2 ^ rank) → IsAtLeast new 1 (rank_count (cards ++ card ∷ []))
once_more bits new card rank cards so_far e made =
    let P : ℕ → Type 0 = λ n. IsAtLeast n 1 (rank_count (cards ++ card ∷ [])) in
    subst P (sym made) (at_least_one_more bits rank (rank_count cards) (rank_count (cards ++ card ∷ [])) so_far (count-here cards card rank e) (count-there cards card rank e))

pub again_more : (bits less new both card rank size : ℕ) (cards : List ℕ) → IsAtLeast bits (suc size) (rank_count cards) → IsAtLeast less size (rank_count cards) → rank_of card ≡ rank → both ≡ bit_and less (2 ^ rank) → new ≡ bit_or bits both → IsAtLeast new (suc size) (rank_count (cards ++ card ∷ []))
again_more bits less new both card rank size cards so_far part e met made =
    let P : ℕ → Type 0 = λ n. IsAtLeast n (suc size) (rank_count (cards ++ card ∷ [])) in
    subst P (sym (made ∙ ap (bit_or bits) met)) (at_least_more bits less size rank (rank_count cards) (rank_count (cards ++ card ∷ [])) so_far part (count-here cards card rank e) (count-there cards card rank e))

-- the step of a loop: the card at i is looked at
pub profile_step : (profile : Profile) (cards : List ℕ) (i card : ℕ) → i < length cards → card ≡ get_or cards i card → IsProfileOf profile (take i cards ++ card ∷ []) → IsProfileOf profile (take (i + 1) cards)
profile_step profile cards i card within read so_far =
    let one_more : take (i + 1) cards ≡ take i cards ++ card ∷ [] = take_more cards i card within ∙ ap (λ (x : ℕ). take i cards ++ x ∷ []) (sym read) in
    let P : List ℕ → Type 0 = λ xs. IsProfileOf profile xs in
    subst P (sym one_more) so_far

-- ---- one suit

none_added : (a b c : ℕ) → a ≡ b + c → c ≡ 0 → a ≡ b
none_added a b c e none = omega arith

suited-push : (cards : List ℕ) (card suit rank : ℕ) → suited_count (cards ++ card ∷ []) suit rank ≡ suited_count cards suit rank + one_if ((suit_of card == suit) && (rank_of card == rank))
suited-push cards card suit rank = sum_by_push (λ other. one_if ((suit_of other == suit) && (rank_of other == rank))) cards card

pub suited_more : (bits new suit card rank i : ℕ) (cards : List ℕ) → i < length cards → card ≡ get_or cards i card → suit_of card ≡ suit → rank_of card ≡ rank → new ≡ bit_or bits (2 ^ rank) → IsAtLeast bits 1 (suited_count (take i cards) suit) → IsAtLeast new 1 (suited_count (take (i + 1) cards) suit)
suited_more bits new suit card rank i cards within read of_suit e made so_far =
    let one_more : take (i + 1) cards ≡ take i cards ++ card ∷ [] = take_more cards i card within ∙ ap (λ (x : ℕ). take i cards ++ x ∷ []) (sym read) in
    let test : (suit_of card == suit) ≡ true = eq-eqb (suit_of card) suit of_suit in
    let as_rank : (other : ℕ) → one_if ((suit_of card == suit) && (rank_of card == other)) ≡ one_if (rank_of card == other) = λ other. ap (λ (b : Bool). one_if (b && (rank_of card == other))) test in
    let P : List ℕ → Type 0 = λ xs. IsAtLeast new 1 (suited_count xs suit) in
    let Q : ℕ → Type 0 = λ n. IsAtLeast n 1 (suited_count (take i cards ++ card ∷ []) suit) in
    subst P (sym one_more)
    (subst Q (sym made)
    (at_least_one_more bits rank (suited_count (take i cards) suit) (suited_count (take i cards ++ card ∷ []) suit) so_far
    (omega (arith, suited-push (take i cards) card suit rank, as_rank rank, one_if_same (rank_of card) rank e))
    (λ other differ. omega (arith, suited-push (take i cards) card suit other, as_rank other, one_if_other (rank_of card) other (λ (same : rank_of card ≡ other). differ (sym same ∙ e))))))

pub suited_no_more : (bits suit card i : ℕ) (cards : List ℕ) → i < length cards → card ≡ get_or cards i card → (suit_of card ≡ suit → ⊥) → IsAtLeast bits 1 (suited_count (take i cards) suit) → IsAtLeast bits 1 (suited_count (take (i + 1) cards) suit)
suited_no_more bits suit card i cards within read unlike so_far =
    let one_more : take (i + 1) cards ≡ take i cards ++ card ∷ [] = take_more cards i card within ∙ ap (λ (x : ℕ). take i cards ++ x ∷ []) (sym read) in
    let test : (suit_of card == suit) ≡ false = ne_eqb (suit_of card) suit unlike in
    let none : (other : ℕ) → one_if ((suit_of card == suit) && (rank_of card == other)) ≡ 0 = λ other. ap (λ (b : Bool). one_if (b && (rank_of card == other))) test in
    let same : suited_count (take (i + 1) cards) suit ≡ suited_count (take i cards) suit = λ k other. (ap (λ (xs : List ℕ). suited_count xs suit other) one_more ∙ none_added (suited_count (take i cards ++ card ∷ []) suit other) (suited_count (take i cards) suit other) (one_if ((suit_of card == suit) && (rank_of card == other))) (suited-push (take i cards) card suit other) (none other)) k in
    let P : (ℕ → ℕ) → Type 0 = λ f. IsAtLeast bits 1 f in
    subst P (sym same) so_far
