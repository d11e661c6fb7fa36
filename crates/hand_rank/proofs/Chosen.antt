-- Five cards chosen among the cards by how many of each rank are wanted, and what they are worth.
use Rattle.std.proofs.Common.{◌≡◌, ℕ, suc, ◌+◌, ◌-◌, ◌<◌, ◌≤◌, Bool, true, false, eqb, ◌==◌, ◌&&◌, List, [], ◌∷◌, ◌++◌, length, take, None, inl, inr, refl, sym, ◌∙◌, ap, subst, arith}
use Rattle.std.specs.List.{All, count_by, sum}
use Rattle.std.specs.List.Sorted.{IsPermutation}
use Rattle.std.proofs.lemmas.Bool.{cases_eq, cases_lt, cases_Bool}
use Rattle.std.proofs.lemmas.List.{take_at}
use Rattle.std.proofs.lemmas.List.Elements.{All-take}
use Rattle.std.proofs.lemmas.List.Sorted.{IsPermutation-refl, IsPermutation-sym, IsPermutation-cons, IsPermutation-trans, IsPermutation-middle, All-permutation}
use Rattle.std.proofs.lemmas.List.Sums.{sum_by-cons}
use Rattle.card_core.specs.Card.{rank_of}
use Rattle.hand_rank.specs.Best.{IsFiveOf}
use Rattle.hand_rank.specs.Five.{straight_top, counts_of, is_flush, worth_of_five, rank_count}
use Rattle.hand_rank.specs.Worth.{Worth}
use Rattle.hand_rank.proofs.Groups.{those, those_are, IsDescending, in_is_below, at_rank, category_by, in_order, worth}
use Rattle.hand_rank.proofs.Picks.{IsPicked, wanted, wanted_is_there, wanted_total, wanted_so_often, wanted_is_in, in_is_wanted}
use Rattle.hand_rank.proofs.Straights.{other_five, at_rank-is}
use Rattle.hand_rank.proofs.Totals.{sum_below, sum_below-same, one_if, one_if-true, one_if_same, one_if_other, total_count}

-- how many of the cards that pass have this rank
abbrev pub passing_count : (ℕ → Bool) → List ℕ → ℕ → ℕ
passing_count passes cards rank = count_by (λ card. passes card && (rank_of card == rank)) cards

-- cards chosen so that each rank comes as often as it is wanted
pub record IsChosen (passes : ℕ → Bool) (want : ℕ → ℕ) (cards : List ℕ) : Type 0 where
  pub chosen : List ℕ
  pub others : List ℕ
  pub together : IsPermutation (chosen ++ others) cards
  pub come : (rank : ℕ) → rank_count chosen rank ≡ want rank
  pub pass : count_by passes chosen ≡ length chosen

passing-take : (passes : ℕ → Bool) (card rank : ℕ) → passes card ≡ true → one_if (passes card && (rank_of card == rank)) ≡ one_if (rank_of card == rank)
passing-take passes card rank good = ap (λ (b : Bool). one_if (b && (rank_of card == rank))) good

passing-leave : (passes : ℕ → Bool) (card rank : ℕ) → passes card ≡ false → one_if (passes card && (rank_of card == rank)) ≡ 0
passing-leave passes card rank bad = ap (λ (b : Bool). one_if (b && (rank_of card == rank))) bad

-- one less of a rank is wanted
abbrev pub one_less : (ℕ → ℕ) → ℕ → ℕ → ℕ
one_less want rank other = want other - one_if (eqb rank other)

with_card : (passes : ℕ → Bool) (want : ℕ → ℕ) (card : ℕ) (cards : List ℕ) → passes card ≡ true → 1 ≤ want (rank_of card) → IsChosen passes (one_less want (rank_of card)) cards → IsChosen passes want (card ∷ cards)
with_card passes want card cards good some fewer = record {
  chosen = card ∷ fewer.chosen;
  others = fewer.others;
  together = IsPermutation-cons card (fewer.chosen ++ fewer.others) cards fewer.together;
  come = λ rank.
      let head = sum_by-cons (λ other. one_if (rank_of other == rank)) card fewer.chosen in
      elim (cases_eq (rank_of card) rank) [
        | inl same ↦
            let P : ℕ → Type 0 = λ n. 1 ≤ want n in
            let here : 1 ≤ want rank = subst P same some in
            omega (arith, head, fewer.come rank, one_if_same (rank_of card) rank same)
        | inr differ ↦ omega (arith, head, fewer.come rank, one_if_other (rank_of card) rank differ)
      ];
  pass = omega (arith, sum_by-cons (λ other. one_if (passes other)) card fewer.chosen, one_if-true (passes card) good, fewer.pass);
}

without_card : (passes : ℕ → Bool) (want : ℕ → ℕ) (card : ℕ) (cards : List ℕ) → IsChosen passes want cards → IsChosen passes want (card ∷ cards)
without_card passes want card cards same = record {
  chosen = same.chosen;
  others = card ∷ same.others;
  together =
      IsPermutation-trans (same.chosen ++ card ∷ same.others) (card ∷ (same.chosen ++ same.others)) (card ∷ cards) (IsPermutation-middle same.chosen card same.others)
      (IsPermutation-cons card (same.chosen ++ same.others) cards same.together);
  come = same.come;
  pass = same.pass;
}

pub choose : (passes : ℕ → Bool) (want : ℕ → ℕ) (cards : List ℕ) → ((rank : ℕ) → want rank ≤ passing_count passes cards rank) → IsChosen passes want cards
choose passes want [] enough = record { chosen = []; others = []; together = IsPermutation-refl []; come = λ rank. let none = enough rank in omega arith; pass = refl }
choose passes want (card ∷ cards) enough =
    let split : (rank : ℕ) → passing_count passes (card ∷ cards) rank ≡ one_if (passes card && (rank_of card == rank)) + passing_count passes cards rank = λ rank. sum_by-cons (λ other. one_if (passes other && (rank_of other == rank))) card cards in
    elim (cases_Bool (passes card)) [
      | inl good ↦
          elim (cases_lt 0 (want (rank_of card))) [
            | inl some ↦
                with_card passes want card cards good some
                (choose passes (one_less want (rank_of card)) cards (λ rank. omega (arith, enough rank, split rank, passing-take passes card rank good)))
            | inr none ↦
                without_card passes want card cards
                (choose passes want cards (λ rank.
                elim (cases_eq (rank_of card) rank) [
                  | inl same ↦
                      let P : ℕ → Type 0 = λ n. want n ≤ 0 in
                      let nil : want rank ≤ 0 = subst P same none in
                      omega arith
                  | inr differ ↦ omega (arith, enough rank, split rank, passing-take passes card rank good, one_if_other (rank_of card) rank differ)
                ]))
          ]
      | inr bad ↦ without_card passes want card cards (choose passes want cards (λ rank. omega (arith, enough rank, split rank, passing-leave passes card rank bad)))
    ]

-- ---- five of them

pub chosen_ranks : (cards five : List ℕ) → IsFiveOf cards five → All (λ card. rank_of card < 13) cards → All (λ card. rank_of card < 13) five
chosen_ranks cards five chosen all =
    let whole : All (λ card. rank_of card < 13) (five ++ chosen.others) = All-permutation (λ card. rank_of card < 13) cards (five ++ chosen.others) (IsPermutation-sym (five ++ chosen.others) cards chosen.together) all in
    let front : All (λ card. rank_of card < 13) (take (length five) (five ++ chosen.others)) = All-take (λ card. rank_of card < 13) (length five) (five ++ chosen.others) whole in
    let P : List ℕ → Type 0 = λ xs. All (λ card. rank_of card < 13) xs in
    subst P (take_at five chosen.others (length five) refl) front

-- five cards of the wanted ranks
pub record IsWanted (passes : ℕ → Bool) (cards sizes ranks : List ℕ) : Type 0 where
  pub five : List ℕ
  pub chosen : IsFiveOf cards five
  pub low : All (λ card. rank_of card < 13) five
  pub come : (rank : ℕ) → rank < 13 → at_rank (counts_of five) rank ≡ wanted sizes ranks rank
  pub pass : count_by passes five ≡ 5

pub choose_wanted : (passes : ℕ → Bool) (cards sizes ranks : List ℕ) → All (λ card. rank_of card < 13) cards → ((rank : ℕ) → passing_count passes cards rank ≤ rank_count cards rank) → ((rank : ℕ) → 13 ≤ rank → passing_count passes cards rank ≡ 0) → IsPicked (passing_count passes cards) sizes ranks → sum sizes ≡ 5 → IsWanted passes cards sizes ranks
choose_wanted passes cards sizes ranks all less past picked five_wanted =
    let it = choose passes (wanted sizes ranks) cards (λ rank. wanted_is_there (passing_count passes cards) sizes ranks picked rank) in
    let whole : All (λ card. rank_of card < 13) (it.chosen ++ it.others) = All-permutation (λ card. rank_of card < 13) cards (it.chosen ++ it.others) (IsPermutation-sym (it.chosen ++ it.others) cards it.together) all in
    let front : All (λ card. rank_of card < 13) (take (length it.chosen) (it.chosen ++ it.others)) = All-take (λ card. rank_of card < 13) (length it.chosen) (it.chosen ++ it.others) whole in
    let P : List ℕ → Type 0 = λ xs. All (λ card. rank_of card < 13) xs in
    let low : All (λ card. rank_of card < 13) it.chosen = subst P (take_at it.chosen it.others (length it.chosen) refl) front in
    let same : sum_below 13 (rank_count it.chosen) ≡ sum_below 13 (wanted sizes ranks) = sum_below-same 13 (rank_count it.chosen) (wanted sizes ranks) (λ rank below. it.come rank) in
    let count : length it.chosen ≡ 5 = omega (arith, same, total_count it.chosen low, wanted_total (passing_count passes cards) sizes ranks past picked, five_wanted) in
    record {
      five = it.chosen;
      chosen = record { count = count; others = it.others; together = it.together };
      low = low;
      come = λ rank below. at_rank-is it.chosen rank below ∙ it.come rank;
      pass = it.pass ∙ count;
    }

-- ---- what they are worth

those_wanted : (count more : ℕ → ℕ) (n : ℕ) (sizes ranks : List ℕ) → IsPicked more sizes ranks → ((rank : ℕ) → rank < 13 → count rank ≡ wanted sizes ranks rank) → IsDescending 13 (wanted_so_often (suc n) sizes ranks) → those count (suc n) 13 ≡ wanted_so_often (suc n) sizes ranks
those_wanted count more n sizes ranks picked come down =
    those_are count (suc n) 13 (wanted_so_often (suc n) sizes ranks) down
    (λ rank low same. wanted_is_in n sizes ranks rank (sym (come rank low) ∙ same))
    (λ rank within. come rank (in_is_below 13 rank (wanted_so_often (suc n) sizes ranks) down within) ∙ in_is_wanted more n sizes ranks rank picked within)

-- the picks of each size stand from the highest down
pub record IsOrdered (sizes ranks : List ℕ) : Type 0 where
  pub fives : IsDescending 13 (wanted_so_often 5 sizes ranks)
  pub fours : IsDescending 13 (wanted_so_often 4 sizes ranks)
  pub threes : IsDescending 13 (wanted_so_often 3 sizes ranks)
  pub pairs : IsDescending 13 (wanted_so_often 2 sizes ranks)
  pub singles : IsDescending 13 (wanted_so_often 1 sizes ranks)

-- what cards of the wanted ranks are worth that are no straight
pub worth_of_wanted : (five : List ℕ) (more : ℕ → ℕ) (sizes ranks : List ℕ) → IsPicked more sizes ranks → ((rank : ℕ) → rank < 13 → at_rank (counts_of five) rank ≡ wanted sizes ranks rank) → IsOrdered sizes ranks → straight_top (counts_of five) ≡ None → worth_of_five five ≡ worth (category_by (is_flush five) false (length (wanted_so_often 4 sizes ranks)) (length (wanted_so_often 3 sizes ranks)) (length (wanted_so_often 2 sizes ranks))) (in_order (wanted_so_often 5 sizes ranks) (wanted_so_often 4 sizes ranks) (wanted_so_often 3 sizes ranks) (wanted_so_often 2 sizes ranks) (wanted_so_often 1 sizes ranks))
worth_of_wanted five more sizes ranks picked come ordered none =
    let count = at_rank (counts_of five) in
    let e5 = those_wanted (at_rank (counts_of five)) more 4 sizes ranks picked come ordered.fives in
    let e4 = those_wanted (at_rank (counts_of five)) more 3 sizes ranks picked come ordered.fours in
    let e3 = those_wanted (at_rank (counts_of five)) more 2 sizes ranks picked come ordered.threes in
    let e2 = those_wanted (at_rank (counts_of five)) more 1 sizes ranks picked come ordered.pairs in
    let e1 = those_wanted (at_rank (counts_of five)) more 0 sizes ranks picked come ordered.singles in
    let by : List ℕ → List ℕ → List ℕ → List ℕ → List ℕ → Worth = λ g5 g4 g3 g2 g1. worth (category_by (is_flush five) false (length g4) (length g3) (length g2)) (in_order g5 g4 g3 g2 g1) in
    other_five five none
    ∙ (ap (λ (g : List ℕ). by g (those count 4 13) (those count 3 13) (those count 2 13) (those count 1 13)) e5
    ∙ (ap (λ (g : List ℕ). by (wanted_so_often 5 sizes ranks) g (those count 3 13) (those count 2 13) (those count 1 13)) e4
    ∙ (ap (λ (g : List ℕ). by (wanted_so_often 5 sizes ranks) (wanted_so_often 4 sizes ranks) g (those count 2 13) (those count 1 13)) e3
    ∙ (ap (λ (g : List ℕ). by (wanted_so_often 5 sizes ranks) (wanted_so_often 4 sizes ranks) (wanted_so_often 3 sizes ranks) g (those count 1 13)) e2
    ∙ ap (λ (g : List ℕ). by (wanted_so_often 5 sizes ranks) (wanted_so_often 4 sizes ranks) (wanted_so_often 3 sizes ranks) (wanted_so_often 2 sizes ranks) g) e1))))
