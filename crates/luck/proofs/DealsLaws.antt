-- What is counted are deals that begin with the known cards.
use Rattle.std.proofs.Common.{◌≡◌, ℕ, zero, suc, ◌+◌, ◌-◌, ◌*◌, ◌<◌, ◌≤◌, Bool, true, false, cond, List, [], ◌∷◌, ◌++◌, length, map, take, nat_eq, IsPermutation, refl, sym, ◌∙◌, ap, subst, append_assoc, inl, inr, arith}
use Rattle.std.specs.List.{AllByRecursion, IsDistinct, filter, range_with_len}
use Rattle.std.proofs.lemmas.Cmp.{nat_eq_equiv}
use Rattle.std.proofs.lemmas.List.{length-append, length-drop, take-append-drop}
use Rattle.std.proofs.lemmas.List.Sorted.{IsPermutation-append_right, IsPermutation-sym, length_permutation}
use Rattle.std.proofs.lemmas.Map.Keys.{IsDistinct-IsPermutation}
use Rattle.std.proofs.Math.Seq.{take-append_seam}
use Rattle.std.proofs.ByRecursion.{all_shuffled, All-drop}
use Rattle.rand.specs.Shuffle.{partially_shuffled}
use Rattle.rand_core.specs.Stream.{Stream}
use Rattle.card_core.specs.Deal.{IsDeal, board_of}
use Rattle.card_core.proofs.Distinct.{All-take, IsDistinct-take}
use Rattle.hand_rank.proofs.Permutations.{permutation_from_counts}
use Rattle.matchstate.specs.Laws.{board_count}
use Rattle.match_log.specs.BestFive.{choices}
use Rattle.match_log.proofs.Choices.{IsIn, choice_is_part}
use Rattle.luck.specs.Deals.{known_at, completions}
use Rattle.luck.specs.Draws.{stream_of_hand, drawn}
use Rattle.luck.specs.Laws.{IsDealFrom, CountedAreDeals}
use Rattle.luck.specs.Left.{left_of}
use Rattle.luck.specs.Means.{parts_of}
use Rattle.luck.proofs.Drawn.{left_enough, left_most, drawn_apart}
use Rattle.luck.proofs.Left.{is_left, known_and_left}
use Rattle.luck.proofs.Lucky.{known_count, known_distinct, board_fits}
use Rattle.luck.proofs.Shuffling.{AnswersWords, hand_answers_words, partly_shuffled}

all_when_in : {X : Type 0} (P : X → Type 0) (xs : List X) → ((x : X) → IsIn x xs → P x) → AllByRecursion P xs
all_when_in P [] each = tt
all_when_in P (x ∷ xs) each = (each x (inl refl), all_when_in P xs (λ y later. each y (inr later)))

all_mapped : {X Y : Type 0} (P : Y → Type 0) (f : X → Y) (xs : List X) → AllByRecursion (λ x. P (f x)) xs → AllByRecursion P (map f xs)
all_mapped P f [] all = tt
all_mapped P f (x ∷ xs) all = (all.0, all_mapped P f xs all.1)

below_pack : (p : ℕ → Bool) (first count : ℕ) → first + count ≤ 52 → AllByRecursion (λ card. card < 52) (filter p (range_with_len first count))
below_pack p first zero within = tt
below_pack p first (suc count) within =
    let more = below_pack p (first + 1) count (omega arith) in
    let here : first < 52 = omega arith in
    elim (p first) as (λ b. AllByRecursion (λ card. card < 52) (cond b (first ∷ filter p (range_with_len (first + 1) count)) (filter p (range_with_len (first + 1) count)))) [ true ↦ (here, more) | false ↦ more ]

left_below : (known : List ℕ) → AllByRecursion (λ card. card < 52) (left_of known)
unfolding left_of
left_below known = below_pack (is_left known) 0 52 (omega arith)

all_both : {X : Type 0} (P : X → Type 0) (xs ys : List X) → AllByRecursion P xs → AllByRecursion P ys → AllByRecursion P (xs ++ ys)
all_both P [] ys all others = others
all_both P (x ∷ xs) ys all others = (all.0, all_both P xs ys all.1 others)

front_of_all : (P : ℕ → Type 0) (xs ys : List ℕ) → AllByRecursion P (xs ++ ys) → AllByRecursion P xs
front_of_all P [] ys all = tt
front_of_all P (x ∷ xs) ys all = (all.0, front_of_all P xs ys all.1)

-- a choice of the cards that are left completes the known ones
choice_completes : (players : ℕ) (known more : List ℕ) → length known ≤ 2 * players + 5 → IsDistinct nat_eq known → AllByRecursion (λ card. card < 52) known
    → IsIn more (choices (2 * players + 5 - length known) (left_of known)) → IsDealFrom players known (known ++ more)
choice_completes players known more few distinct pack chosen =
    let part = choice_is_part (2 * players + 5 - length known) (left_of known) more chosen in
    let others : List ℕ = part.1.0 in
    let moved : IsPermutation (left_of known) (more ++ others) = IsPermutation-sym (more ++ others) (left_of known) (permutation_from_counts (more ++ others) (left_of known) part.1.1) in
    let all : IsDistinct nat_eq (known ++ (more ++ others)) =
    IsDistinct-IsPermutation nat_eq nat_eq_equiv.symm (known ++ left_of known) (known ++ (more ++ others)) (IsPermutation-append_right known (left_of known) (more ++ others) moved) (known_and_left known distinct) in
    let front : take (length (known ++ more)) (known ++ (more ++ others)) ≡ known ++ more = ap (take (length (known ++ more))) (sym (append_assoc known more others)) ∙ take-append_seam (known ++ more) others in
    record {
      is_deal = record {
        count = omega (arith, length-append known more, part.0, few);
        cards_of_the_pack = all_both (λ card. card < 52) known more pack (front_of_all (λ card. card < 52) more others (all_shuffled (λ card. card < 52) (left_of known) (more ++ others) moved (left_below known)));
        distinct = subst (IsDistinct nat_eq) front (IsDistinct-take nat_eq (length (known ++ more)) (known ++ (more ++ others)) all);
      };
      begins = take-append_seam known more;
    }

known_of_the_pack : (players : ℕ) (deal : List ℕ) (street : ℕ) → IsDeal players deal → AllByRecursion (λ card. card < 52) (known_at players deal street)
known_of_the_pack players deal street dealt = All-take (λ card. card < 52) (2 * players + board_count street) deal dealt.cards_of_the_pack

completed_are_deals : (players : ℕ) (deal : List ℕ) (street : ℕ) → street ≤ 3 → IsDeal players deal → AllByRecursion (IsDealFrom players (known_at players deal street)) (completions players (known_at players deal street))
unfolding completions
completed_are_deals players deal street within dealt =
    let known = known_at players deal street in
    all_mapped (IsDealFrom players known) (λ more. known ++ more) (choices (2 * players + 5 - length known) (left_of known))
    (all_when_in (λ more. IsDealFrom players known (known ++ more)) (choices (2 * players + 5 - length known) (left_of known))
    (λ more chosen. choice_completes players known more (omega (arith, known_count players deal street dealt within, board_fits street within)) (known_distinct players deal street dealt)
    (known_of_the_pack players deal street dealt) chosen))

-- one deal that is drawn, and the stream behind it
one_drawn : (players : ℕ) (known : List ℕ) (s : Stream) → length known ≡ 2 * players → players ≤ 10 → IsDistinct nat_eq known → AllByRecursion (λ card. card < 52) known → AnswersWords s
    → IsDealFrom players known (known ++ board_of (partially_shuffled (left_of known) 5 s).0) × AnswersWords (partially_shuffled (left_of known) 5 s).1
one_drawn players known s count few distinct pack words =
    let left = left_of known in
    let shuffled = partly_shuffled left 5 s (omega (arith, left_most known)) words in
    let deck = (partially_shuffled left 5 s).0 in
    let rest = take (length deck - 5) deck in
    let board = board_of deck in
    let many : length deck ≡ length left = length_permutation left deck shuffled.0 in
    let five : length board ≡ 5 = omega (arith, length-drop (length deck - 5) deck, many, left_enough known, count, few) in
    let moved : IsPermutation left (rest ++ board) = subst (IsPermutation left) (sym (take-append-drop (length deck - 5) deck)) shuffled.0 in (
      record {
        is_deal = record {
          count = omega (arith, length-append known board, five, count);
          cards_of_the_pack = all_both (λ card. card < 52) known board pack (All-drop (λ card. card < 52) (length deck - 5) deck (all_shuffled (λ card. card < 52) left deck shuffled.0 (left_below known)));
          distinct = drawn_apart known left rest board distinct refl moved;
        };
        begins = take-append_seam known board;
      },
      shuffled.1,
    )

all_drawn : (players : ℕ) (known : List ℕ) (s : Stream) (count : ℕ) → length known ≡ 2 * players → players ≤ 10 → IsDistinct nat_eq known → AllByRecursion (λ card. card < 52) known → AnswersWords s
    → AllByRecursion (IsDealFrom players known) (drawn known s count).0 × AnswersWords (drawn known s count).1
unfolding drawn
all_drawn players known s zero cards few distinct pack words = (tt, words)
all_drawn players known s (suc count) cards few distinct pack words =
    let before = all_drawn players known s count cards few distinct pack words in
    let next = one_drawn players known (drawn known s count).1 cards few distinct pack before.1 in
    (all_both (IsDealFrom players known) (drawn known s count).0 ((known ++ board_of (partially_shuffled (left_of known) 5 (drawn known s count).1).0) ∷ []) before.0 (next.0, tt), next.1)

pub counted_are_deals : CountedAreDeals
counted_are_deals key number players deal zero few within dealt =
    let known = known_at players deal zero in
    let cards : length known ≡ 2 * players = omega (arith, known_count players deal zero dealt within) in
    (all_drawn players known (stream_of_hand key number) (parts_of players) cards few (known_distinct players deal zero dealt) (known_of_the_pack players deal zero dealt) (hand_answers_words key number)).0
counted_are_deals key number players deal (suc street) few within dealt = completed_are_deals players deal (suc street) within dealt
