-- The ranks in order of count, then height: how they are built up, how many they are, and their bounds.
use Rattle.std.proofs.Common.{◌≡◌, ℕ, ◌+◌, ◌<◌, ◌≤◌, Bool, List, [], ◌∷◌, ◌++◌, Option, Some, inl, inr, length, get_or, take, replicate, cond, eqb, zero, suc, refl, sym, ◌∙◌, ap, arith, rules, length-append}
use Rattle.std.specs.List.{All, flat_map, find, sum, sum_by}
use Rattle.std.specs.Option.{ForSome, is_some}
use Rattle.std.proofs.lemmas.Bool.{cond_both, cond-true, cond-false, cases_lt, eq-eqb, ne_eqb}
use Rattle.std.proofs.lemmas.List.{take_more, take_all, append-nil, append_assoc, get_or_past, length-replicate}
use Rattle.std.proofs.lemmas.List.Folds.{length-flat_map-take}
use Rattle.std.proofs.lemmas.List.Concat.{flat_map-append}
use Rattle.std.proofs.lemmas.List.Elements.{All-nil, All-append, All-replicate, All-head, All-tail, All-from_recursion}
use Rattle.std.proofs.lemmas.List.Sums.{sum_by-cons, get_or-le-sum_by}
use Rattle.hand_rank.specs.Five.{by_count_then_height, ranks_coming, copies_of, ranks_down, straight_top, is_straight_from, counts_of, is_flush, category_of, deciding_ranks, worth_of_five}
use Rattle.hand_rank.specs.Worth.{Worth}

-- one element more
pub flat_map-more : (f : ℕ → List ℕ) (xs : List ℕ) (i : ℕ) → i < length xs → flat_map f (take (i + 1) xs) ≡ flat_map f (take i xs) ++ f (get_or xs i 0)
flat_map-more f xs i h =
    ap (flat_map f) (take_more xs i 0 h)
    ∙ (flat_map-append f (take i xs) (get_or xs i 0 ∷ [])
    ∙ ap (λ ys. flat_map f (take i xs) ++ ys) (append-nil (f (get_or xs i 0))))

-- a rank that comes n times stands in one of the five groups, n times
one_rank : (n rank : ℕ) → n ≤ 5 → length (cond (eqb n 5) (replicate 5 rank) []) + length (cond (eqb n 4) (replicate 4 rank) []) + length (cond (eqb n 3) (replicate 3 rank) []) + length (cond (eqb n 2) (replicate 2 rank) []) + length (cond (eqb n 1) (replicate 1 rank) []) ≡ n
one_rank zero rank h = refl
one_rank (suc zero) rank h = refl
one_rank (suc (suc zero)) rank h = refl
one_rank (suc (suc (suc zero))) rank h = refl
one_rank (suc (suc (suc (suc zero)))) rank h = refl
one_rank (suc (suc (suc (suc (suc zero))))) rank h = refl
one_rank (suc (suc (suc (suc (suc (suc n)))))) rank h = absurd (omega arith)

-- the five groups together have each of these ranks as often as it comes
all_groups : (counts ranks : List ℕ) → ((rank : ℕ) → get_or counts rank 0 ≤ 5) → length (flat_map (copies_of counts 5) ranks) + length (flat_map (copies_of counts 4) ranks) + length (flat_map (copies_of counts 3) ranks) + length (flat_map (copies_of counts 2) ranks) + length (flat_map (copies_of counts 1) ranks) ≡ sum_by (λ rank. get_or counts rank 0) ranks
all_groups counts [] most = refl
all_groups counts (rank ∷ ranks) most =
    omega (
      arith,
      length-append (copies_of counts 5 rank) (flat_map (copies_of counts 5) ranks),
      length-append (copies_of counts 4 rank) (flat_map (copies_of counts 4) ranks),
      length-append (copies_of counts 3 rank) (flat_map (copies_of counts 3) ranks),
      length-append (copies_of counts 2 rank) (flat_map (copies_of counts 2) ranks),
      length-append (copies_of counts 1 rank) (flat_map (copies_of counts 1) ranks),
      sum_by-cons (λ r. get_or counts r 0) rank ranks,
      one_rank (get_or counts rank 0) rank (most rank),
      all_groups counts ranks most,
    )

-- the counts of all ranks, from the ace down, are the counts
total_down : (counts : List ℕ) → length counts ≡ 13 → sum_by (λ rank. get_or counts rank 0) ranks_down ≡ sum counts
total_down (a ∷ b ∷ c ∷ d ∷ e ∷ f ∷ g ∷ h ∷ i ∷ j ∷ k ∷ l ∷ m ∷ []) e13 = omega arith
total_down _ e13 = absurd (omega arith)

at_most_the_sum : (counts : List ℕ) (rank : ℕ) → get_or counts rank 0 ≤ sum counts
at_most_the_sum counts rank =
    elim (cases_lt rank (length counts)) [ inl below ↦ get_or-le-sum_by (λ x. x) counts rank 0 below | inr past ↦ omega (arith, get_or_past counts rank 0 past) ]

-- of five cards there are five ranks
pub length-by_count_then_height : (counts : List ℕ) → length counts ≡ 13 → sum counts ≡ 5 → length (by_count_then_height counts) ≡ 5
unfolding by_count_then_height ranks_coming
length-by_count_then_height counts e13 five =
    omega (
      arith,
      length-append (ranks_coming counts 5) (ranks_coming counts 4 ++ (ranks_coming counts 3 ++ (ranks_coming counts 2 ++ (ranks_coming counts 1 ++ [])))),
      length-append (ranks_coming counts 4) (ranks_coming counts 3 ++ (ranks_coming counts 2 ++ (ranks_coming counts 1 ++ []))),
      length-append (ranks_coming counts 3) (ranks_coming counts 2 ++ (ranks_coming counts 1 ++ [])),
      length-append (ranks_coming counts 2) (ranks_coming counts 1 ++ []),
      length-append (ranks_coming counts 1) [],
      all_groups counts ranks_down (λ rank. let h = at_most_the_sum counts rank in omega (arith, h)),
      total_down counts e13,
    )

all_copies : (counts : List ℕ) (size : ℕ) (ranks : List ℕ) → All (λ rank. rank < 13) ranks → All (λ rank. rank < 13) (flat_map (copies_of counts size) ranks)
all_copies counts size [] all = All-nil (λ rank. rank < 13)
all_copies counts size (rank ∷ ranks) all =
    All-append (λ r. r < 13) (copies_of counts size rank) (flat_map (copies_of counts size) ranks)
    (cond_both (eqb (get_or counts rank 0) size) (replicate size rank) [] (All (λ r. r < 13))
    (λ _. All-replicate (λ r. r < 13) size rank (All-head (λ r. r < 13) rank ranks all))
    (λ _. All-nil (λ r. r < 13)))
    (all_copies counts size ranks (All-tail (λ r. r < 13) rank ranks all))

all_ranks : All (λ rank. rank < 13) ranks_down
all_ranks = All-from_recursion (λ rank. rank < 13) ranks_down (search rules)

all_groups_below : (counts sizes : List ℕ) → All (λ rank. rank < 13) (flat_map (ranks_coming counts) sizes)
unfolding ranks_coming
all_groups_below counts [] = All-nil (λ rank. rank < 13)
all_groups_below counts (size ∷ sizes) =
    All-append (λ rank. rank < 13) (ranks_coming counts size) (flat_map (ranks_coming counts) sizes) (all_copies counts size ranks_down all_ranks) (all_groups_below counts sizes)

pub All-by_count_then_height : (counts : List ℕ) → All (λ rank. rank < 13) (by_count_then_height counts)
unfolding by_count_then_height
All-by_count_then_height counts = all_groups_below counts (5 ∷ 4 ∷ 3 ∷ 2 ∷ 1 ∷ [])

-- what is found is one of those that were looked at
found_below : (p : ℕ → Bool) (xs : List ℕ) → All (λ x. x < 13) xs → ForSome (find p xs) (λ x. x < 13)
found_below p [] all = λ y e. absurd (cc)
found_below p (x ∷ xs) all =
    cond_both (p x) (Some x) (find p xs) (λ o. ForSome o (λ y. y < 13)) (λ _ y e. let same : x ≡ y = cc in let low : x < 13 = All-head (λ z. z < 13) x xs all in omega (arith)) (λ _. found_below p xs (All-tail (λ y. y < 13) x xs all))

pub straight_top-below : (counts : List ℕ) → ForSome (straight_top counts) (λ top. top < 13)
unfolding straight_top
straight_top-below counts = found_below (is_straight_from counts) (12 ∷ 11 ∷ 10 ∷ 9 ∷ 8 ∷ 7 ∷ 6 ∷ 5 ∷ 4 ∷ 3 ∷ []) (All-from_recursion (λ x. x < 13) (12 ∷ 11 ∷ 10 ∷ 9 ∷ 8 ∷ 7 ∷ 6 ∷ 5 ∷ 4 ∷ 3 ∷ []) (search rules))

-- what is pushed for one rank: as often as it comes, or nothing
copies_yes : (counts : List ℕ) (size rank : ℕ) → get_or counts rank 0 ≡ size → copies_of counts size rank ≡ replicate size rank
copies_yes counts size rank same = cond-true (eqb (get_or counts rank 0) size) (replicate size rank) [] (eq-eqb (get_or counts rank 0) size same)

copies_no : (counts : List ℕ) (size rank : ℕ) → (get_or counts rank 0 ≡ size → ⊥) → copies_of counts size rank ≡ []
copies_no counts size rank differ = cond-false (eqb (get_or counts rank 0) size) (replicate size rank) [] (ne_eqb (get_or counts rank 0) size differ)

pub room_for_copies : (old items counts : List ℕ) (size i : ℕ) → items ≡ old ++ flat_map (copies_of counts size) (take i ranks_down) → i < 13 → get_or counts (get_or ranks_down i 0) 0 ≡ size → length old + length (ranks_coming counts size) ≤ 5 → length items + size ≤ 5
unfolding ranks_coming
room_for_copies old items counts size i so_far within same room =
    omega (
      arith,
      ap length so_far,
      length-append old (flat_map (copies_of counts size) (take i ranks_down)),
      length-flat_map-take (copies_of counts size) ranks_down i 0 within,
      ap length (copies_yes counts size (get_or ranks_down i 0) same),
      length-replicate size (get_or ranks_down i 0),
    )

pub coming_yes : (old items counts : List ℕ) (size i : ℕ) → items ≡ old ++ flat_map (copies_of counts size) (take i ranks_down) → i < 13 → get_or counts (get_or ranks_down i 0) 0 ≡ size → items ++ replicate size (get_or ranks_down i 0) ≡ old ++ flat_map (copies_of counts size) (take (i + 1) ranks_down)
coming_yes old items counts size i so_far within same =
    let rank : ℕ = get_or ranks_down i 0 in
    ap (λ (xs : List ℕ). xs ++ replicate size rank) so_far
    ∙ (append_assoc old (flat_map (copies_of counts size) (take i ranks_down)) (replicate size rank)
    ∙ ap (λ (xs : List ℕ). old ++ xs) (ap (λ (xs : List ℕ). flat_map (copies_of counts size) (take i ranks_down) ++ xs) (sym (copies_yes counts size rank same)) ∙ sym (flat_map-more (copies_of counts size) ranks_down i within)))

pub coming_no : (old items counts : List ℕ) (size i : ℕ) → items ≡ old ++ flat_map (copies_of counts size) (take i ranks_down) → i < 13 → (get_or counts (get_or ranks_down i 0) 0 ≡ size → ⊥) → items ≡ old ++ flat_map (copies_of counts size) (take (i + 1) ranks_down)
coming_no old items counts size i so_far within differ =
    let rank : ℕ = get_or ranks_down i 0 in
    so_far
    ∙ ap (λ (xs : List ℕ). old ++ xs) (sym (append-nil (flat_map (copies_of counts size) (take i ranks_down))) ∙ (ap (λ (xs : List ℕ). flat_map (copies_of counts size) (take i ranks_down) ++ xs) (sym (copies_no counts size rank differ)) ∙ sym (flat_map-more (copies_of counts size) ranks_down i within)))

pub coming_all : (old items counts : List ℕ) (size i : ℕ) → items ≡ old ++ flat_map (copies_of counts size) (take i ranks_down) → 13 ≤ i → items ≡ old ++ ranks_coming counts size
unfolding ranks_coming
coming_all old items counts size i so_far past =
    so_far ∙ ap (λ (xs : List ℕ). old ++ flat_map (copies_of counts size) xs) (take_all i ranks_down past)

-- the sizes of groups, from the greatest down
abbrev pub sizes : List ℕ
sizes = 5 ∷ 4 ∷ 3 ∷ 2 ∷ 1 ∷ []

pub room_for_group : (items counts : List ℕ) (i : ℕ) → items ≡ flat_map (ranks_coming counts) (take i sizes) → i < 5 → length counts ≡ 13 → sum counts ≡ 5 → length items + length (ranks_coming counts (get_or sizes i 0)) ≤ 5
unfolding by_count_then_height
room_for_group items counts i so_far within e13 five =
    let whole : length (flat_map (ranks_coming counts) sizes) ≡ 5 = length-by_count_then_height counts e13 five in
    omega (arith, ap length so_far, length-flat_map-take (ranks_coming counts) sizes i 0 within, whole)

pub ranked_all : (items counts : List ℕ) (i : ℕ) → items ≡ flat_map (ranks_coming counts) (take i sizes) → 5 ≤ i → items ≡ by_count_then_height counts
unfolding by_count_then_height
ranked_all items counts i so_far past = so_far ∙ ap (flat_map (ranks_coming counts)) (take_all i sizes past)

-- the worth of five cards from its parts
pub worth_from_parts : (cards counts ranks : List ℕ) (top : Option ℕ) (flush straight : Bool) (category : ℕ) (worth : Worth) → counts ≡ counts_of cards → top ≡ straight_top counts → flush ≡ is_flush cards → straight ≡ is_some top → category ≡ category_of flush straight counts → ranks ≡ deciding_ranks top counts → worth ≡ record { category = category; ranks = ranks } → worth ≡ worth_of_five cards
unfolding worth_of_five
worth_from_parts cards counts ranks top flush straight category worth e1 e2 e3 e4 e5 e6 e7 = cc
