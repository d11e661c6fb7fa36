-- Ranks picked one after another, each the highest that comes so often among those left: no other picks are greater.
use Rattle.std.proofs.Common.{◌≡◌, ◌≢◌, ℕ, zero, suc, ◌+◌, ◌-◌, ◌<◌, ◌≤◌, Bool, true, false, cond, eqb, ltb, ◌==◌, List, [], ◌∷◌, ◌++◌, length, replicate, inl, inr, ◌⊎◌, refl, sym, ◌∙◌, ap, subst, arith}
use Rattle.std.specs.Cmp.Lexicographic.{slice_cmp}
use Rattle.std.specs.List.{sum}
use Rattle.std.specs.Ordering.{is_gt, nat_cmp, ordering_then}
use Rattle.std.specs.declared.cmp.Ordering.{Ordering}
use Rattle.std.specs.declared.cmp.Ordering.TheVariants.{Less, Equal, Greater}
use Rattle.std.proofs.lemmas.Bool.{cases_eq, cases_lt, eq-eqb, ne_eqb, cond-true, cond-false, lt-ltb, le-ltb}
use Rattle.std.proofs.lemmas.List.Sums.{sum_by-cons}
use Rattle.hand_rank.proofs.Totals.{sum_below, sum_below-split, sum_below-none}

-- the counts without one rank
abbrev pub left_out : (ℕ → ℕ) → ℕ → ℕ → ℕ
left_out count rank other = cond (eqb other rank) 0 (count other)

pub left_out-gone : (count : ℕ → ℕ) (rank : ℕ) → left_out count rank rank ≡ 0
left_out-gone count rank = cond-true (eqb rank rank) 0 (count rank) (eq-eqb rank rank refl)

pub left_out-kept : (count : ℕ → ℕ) (rank other : ℕ) → other ≢ rank → left_out count rank other ≡ count other
left_out-kept count rank other differ = cond-false (eqb other rank) 0 (count other) (ne_eqb other rank differ)

pub left_out-le : (count : ℕ → ℕ) (rank other : ℕ) → left_out count rank other ≤ count other
left_out-le count rank other =
    elim (cases_eq other rank) [
      | inl same ↦
          let gone : left_out count rank other ≡ 0 = cond-true (eqb other rank) 0 (count other) (eq-eqb other rank same) in
          omega arith
      | inr differ ↦ omega (arith, left_out-kept count rank other differ)
    ]

pub left_out-upto : (count more : ℕ → ℕ) (rank : ℕ) → ((other : ℕ) → count other ≤ more other) → (other : ℕ) → left_out count rank other ≤ left_out more rank other
left_out-upto count more rank upto other =
    elim (cases_eq other rank) [
      | inl same ↦
          let gone : left_out count rank other ≡ 0 = cond-true (eqb other rank) 0 (count other) (eq-eqb other rank same) in
          omega arith
      | inr differ ↦ omega (arith, left_out-kept count rank other differ, left_out-kept more rank other differ, upto other)
    ]

pub left_out-total : (count : ℕ → ℕ) (rank : ℕ) → rank < 13 → sum_below 13 count ≡ count rank + sum_below 13 (left_out count rank)
left_out-total count rank low = sum_below-split 13 rank count (left_out count rank) low (left_out-gone count rank) (λ other differ. left_out-kept count rank other differ)

-- different ranks that come so often, one after another
abbrev pub IsPicked : (ℕ → ℕ) → List ℕ → List ℕ → Type 0
IsPicked count [] [] = Unit {0}
IsPicked count [] (rank ∷ ranks) = ⊥
IsPicked count (size ∷ sizes) [] = ⊥
IsPicked count (size ∷ sizes) (rank ∷ ranks) = (0 < size) × (size ≤ count rank) × IsPicked (left_out count rank) sizes ranks

-- each the highest of them
abbrev pub IsGreedy : (ℕ → ℕ) → List ℕ → List ℕ → Type 0
IsGreedy count [] [] = Unit {0}
IsGreedy count [] (rank ∷ ranks) = ⊥
IsGreedy count (size ∷ sizes) [] = ⊥
IsGreedy count (size ∷ sizes) (rank ∷ ranks) = (0 < size) × (size ≤ count rank) × ((other : ℕ) → size ≤ count other → other ≤ rank) × IsGreedy (left_out count rank) sizes ranks

pub greedy_is_picked : (count : ℕ → ℕ) (sizes ranks : List ℕ) → IsGreedy count sizes ranks → IsPicked count sizes ranks
greedy_is_picked count [] [] greedy = tt
greedy_is_picked count [] (rank ∷ ranks) greedy = greedy
greedy_is_picked count (size ∷ sizes) [] greedy = greedy
greedy_is_picked count (size ∷ sizes) (rank ∷ ranks) greedy = (greedy.0, greedy.1, greedy_is_picked (left_out count rank) sizes ranks greedy.3)

-- each rank as often as it is picked for
abbrev pub expand : List ℕ → List ℕ → List ℕ
expand [] ranks = []
expand (size ∷ sizes) [] = []
expand (size ∷ sizes) (rank ∷ ranks) = replicate size rank ++ expand sizes ranks

-- ---- lists one after another

pub cmp_less : (x y : ℕ) (xs ys : List ℕ) → x < y → is_gt (slice_cmp nat_cmp (x ∷ xs) (y ∷ ys)) ≡ false
cmp_less x y xs ys less =
    let first : nat_cmp x y ≡ Less = cond-true (ltb x y) Less (cond (x == y) Equal Greater) (lt-ltb x y less) in
    ap (λ (o : Ordering). is_gt (ordering_then o (slice_cmp nat_cmp xs ys))) first

pub cmp_same : (x y : ℕ) (xs ys : List ℕ) → x ≡ y → slice_cmp nat_cmp (x ∷ xs) (y ∷ ys) ≡ slice_cmp nat_cmp xs ys
cmp_same x y xs ys same =
    let first : nat_cmp x y ≡ Equal =
    cond-false (ltb x y) Less (cond (x == y) Equal Greater) (le-ltb x y (omega arith)) ∙ cond-true (x == y) Equal Greater (eq-eqb x y same) in
    ap (λ (o : Ordering). ordering_then o (slice_cmp nat_cmp xs ys)) first

cmp_copies : (n x y : ℕ) (xs ys : List ℕ) → x ≡ y → slice_cmp nat_cmp (replicate n x ++ xs) (replicate n y ++ ys) ≡ slice_cmp nat_cmp xs ys
cmp_copies zero x y xs ys same = refl
cmp_copies (suc n) x y xs ys same = cmp_same x y (replicate n x ++ xs) (replicate n y ++ ys) same ∙ cmp_copies n x y xs ys same

-- no picks of fewer cards are above the greedy ones
pub greedy_is_greatest : (sizes picks best : List ℕ) (count more : ℕ → ℕ) → ((rank : ℕ) → count rank ≤ more rank) → IsPicked count sizes picks → IsGreedy more sizes best → is_gt (slice_cmp nat_cmp (expand sizes picks) (expand sizes best)) ≡ false
greedy_is_greatest [] [] [] count more upto picked greedy = refl
greedy_is_greatest [] [] (b ∷ best) count more upto picked greedy = absurd greedy
greedy_is_greatest [] (p ∷ picks) best count more upto picked greedy = absurd picked
greedy_is_greatest (size ∷ sizes) [] best count more upto picked greedy = absurd picked
greedy_is_greatest (size ∷ sizes) (p ∷ picks) [] count more upto picked greedy = absurd greedy
greedy_is_greatest (zero ∷ sizes) (p ∷ picks) (b ∷ best) count more upto picked greedy = absurd (let some : 0 < 0 = picked.0 in omega arith)
greedy_is_greatest (suc size ∷ sizes) (p ∷ picks) (b ∷ best) count more upto picked greedy =
    let most : p ≤ b = greedy.2 p (omega (arith, picked.1, upto p)) in
    elim (cases_lt p b) [
      | inl less ↦ cmp_less p b (replicate size p ++ expand sizes picks) (replicate size b ++ expand sizes best) less
      | inr level ↦
          let same : p ≡ b = omega arith in
          let P : ℕ → Type 0 = λ n. IsPicked (left_out count n) sizes picks in
          ap is_gt (cmp_copies (suc size) p b (expand sizes picks) (expand sizes best) same)
          ∙ greedy_is_greatest sizes picks best (left_out count b) (left_out more b) (left_out-upto count more b upto) (subst P same picked.2) greedy.3
    ]

-- ---- the counts that picks want

abbrev pub wanted : List ℕ → List ℕ → ℕ → ℕ
wanted [] ranks other = 0
wanted (size ∷ sizes) [] other = 0
wanted (size ∷ sizes) (rank ∷ ranks) other = cond (eqb other rank) size (wanted sizes ranks other)

pub wanted-here : (size rank : ℕ) (sizes ranks : List ℕ) → wanted (size ∷ sizes) (rank ∷ ranks) rank ≡ size
wanted-here size rank sizes ranks = cond-true (eqb rank rank) size (wanted sizes ranks rank) (eq-eqb rank rank refl)

wanted-there : (size rank other : ℕ) (sizes ranks : List ℕ) → other ≢ rank → wanted (size ∷ sizes) (rank ∷ ranks) other ≡ wanted sizes ranks other
wanted-there size rank other sizes ranks differ = cond-false (eqb other rank) size (wanted sizes ranks other) (ne_eqb other rank differ)

-- they are there
pub wanted_is_there : (count : ℕ → ℕ) (sizes ranks : List ℕ) → IsPicked count sizes ranks → (other : ℕ) → wanted sizes ranks other ≤ count other
wanted_is_there count [] ranks picked other = omega arith
wanted_is_there count (size ∷ sizes) [] picked other = absurd picked
wanted_is_there count (size ∷ sizes) (rank ∷ ranks) picked other =
    elim (cases_eq other rank) [
      | inl same ↦
          let P : ℕ → Type 0 = λ n. wanted (size ∷ sizes) (rank ∷ ranks) n ≤ count n in
          subst P (sym same) (omega (arith, wanted-here size rank sizes ranks, picked.1))
      | inr differ ↦ omega (arith, wanted-there size rank other sizes ranks differ, wanted_is_there (left_out count rank) sizes ranks picked.2 other, left_out-kept count rank other differ)
    ]

-- a rank that is left out is not wanted again
wanted_no_more : (count : ℕ → ℕ) (rank : ℕ) (sizes ranks : List ℕ) → IsPicked (left_out count rank) sizes ranks → wanted sizes ranks rank ≡ 0
wanted_no_more count rank sizes ranks picked = omega (arith, wanted_is_there (left_out count rank) sizes ranks picked rank, left_out-gone count rank)

-- and they are as many as the sizes say
pub wanted_total : (count : ℕ → ℕ) (sizes ranks : List ℕ) → ((rank : ℕ) → 13 ≤ rank → count rank ≡ 0) → IsPicked count sizes ranks → sum_below 13 (wanted sizes ranks) ≡ sum sizes
wanted_total count [] [] none picked = sum_below-none 13 (wanted [] []) (λ rank low. refl)
wanted_total count [] (rank ∷ ranks) none picked = absurd picked
wanted_total count (size ∷ sizes) [] none picked = absurd picked
wanted_total count (size ∷ sizes) (rank ∷ ranks) none picked =
    let low : rank < 13 =
    elim (cases_lt rank 13) [ inl below ↦ below | inr past ↦ absurd (omega (arith, none rank past, picked.0, picked.1)) ] in
    let split = sum_below-split 13 rank (wanted (size ∷ sizes) (rank ∷ ranks)) (wanted sizes ranks) low (wanted_no_more count rank sizes ranks picked.2) (λ other differ. sym (wanted-there size rank other sizes ranks differ)) in
    let others : sum_below 13 (wanted sizes ranks) ≡ sum sizes =
    wanted_total (left_out count rank) sizes ranks (λ other past. let all = none other past in omega (arith, left_out-le count rank other)) picked.2 in
    omega (arith, split, wanted-here size rank sizes ranks, sum_by-cons (λ (x : ℕ). x) size sizes)

-- ---- which ranks are wanted so often

abbrev pub wanted_so_often : ℕ → List ℕ → List ℕ → List ℕ
wanted_so_often n [] ranks = []
wanted_so_often n (size ∷ sizes) [] = []
wanted_so_often n (size ∷ sizes) (rank ∷ ranks) = cond (eqb size n) (rank ∷ wanted_so_often n sizes ranks) (wanted_so_often n sizes ranks)

-- one of the list's
abbrev pub IsIn : {X : Type 0} → X → List X → Type 0
IsIn x [] = ⊥
IsIn x (y ∷ ys) = (x ≡ y) ⊎ IsIn x ys

pub wanted_is_in : (n : ℕ) (sizes ranks : List ℕ) (other : ℕ) → wanted sizes ranks other ≡ suc n → IsIn other (wanted_so_often (suc n) sizes ranks)
wanted_is_in n [] ranks other e = absurd (omega arith)
wanted_is_in n (size ∷ sizes) [] other e = absurd (omega arith)
wanted_is_in n (size ∷ sizes) (rank ∷ ranks) other e =
    elim (cases_eq other rank) [
      | inl same ↦
          let P : ℕ → Type 0 = λ k. wanted (size ∷ sizes) (rank ∷ ranks) k ≡ suc n in
          let here : wanted (size ∷ sizes) (rank ∷ ranks) rank ≡ suc n = subst P same e in
          let sized : size ≡ suc n = sym (wanted-here size rank sizes ranks) ∙ here in
          let Q : List ℕ → Type 0 = λ xs. IsIn other xs in
          subst Q (sym (cond-true (eqb size (suc n)) (rank ∷ wanted_so_often (suc n) sizes ranks) (wanted_so_often (suc n) sizes ranks) (eq-eqb size (suc n) sized))) (inl same)
      | inr differ ↦
          let later : IsIn other (wanted_so_often (suc n) sizes ranks) = wanted_is_in n sizes ranks other (sym (wanted-there size rank other sizes ranks differ) ∙ e) in
          elim (cases_eq size (suc n)) [
            | inl sized ↦
                let Q : List ℕ → Type 0 = λ xs. IsIn other xs in
                subst Q (sym (cond-true (eqb size (suc n)) (rank ∷ wanted_so_often (suc n) sizes ranks) (wanted_so_often (suc n) sizes ranks) (eq-eqb size (suc n) sized))) (inr later)
            | inr unlike ↦
                let Q : List ℕ → Type 0 = λ xs. IsIn other xs in
                subst Q (sym (cond-false (eqb size (suc n)) (rank ∷ wanted_so_often (suc n) sizes ranks) (wanted_so_often (suc n) sizes ranks) (ne_eqb size (suc n) unlike))) later
          ]
    ]

pub in_is_wanted : (count : ℕ → ℕ) (n : ℕ) (sizes ranks : List ℕ) (other : ℕ) → IsPicked count sizes ranks → IsIn other (wanted_so_often (suc n) sizes ranks) → wanted sizes ranks other ≡ suc n
in_is_wanted count n [] ranks other picked within = absurd within
in_is_wanted count n (size ∷ sizes) [] other picked within = absurd within
in_is_wanted count n (size ∷ sizes) (rank ∷ ranks) other picked within =
    let later : IsIn other (wanted_so_often (suc n) sizes ranks) → wanted (size ∷ sizes) (rank ∷ ranks) other ≡ suc n = λ deeper.
    let e : wanted sizes ranks other ≡ suc n = in_is_wanted (left_out count rank) n sizes ranks other picked.2 deeper in
    elim (cases_eq other rank) [
      | inl same ↦
          let none : wanted sizes ranks other ≡ 0 = ap (wanted sizes ranks) same ∙ wanted_no_more count rank sizes ranks picked.2 in
          absurd (omega arith)
      | inr differ ↦ wanted-there size rank other sizes ranks differ ∙ e
    ] in
    elim (cases_eq size (suc n)) [
      | inl sized ↦
          let Q : List ℕ → Type 0 = λ xs. IsIn other xs in
          let both : (other ≡ rank) ⊎ IsIn other (wanted_so_often (suc n) sizes ranks) =
          subst Q (cond-true (eqb size (suc n)) (rank ∷ wanted_so_often (suc n) sizes ranks) (wanted_so_often (suc n) sizes ranks) (eq-eqb size (suc n) sized)) within in
          elim both [
            | inl same ↦ ap (wanted (size ∷ sizes) (rank ∷ ranks)) same ∙ (wanted-here size rank sizes ranks ∙ sized)
            | inr deeper ↦ later deeper
          ]
      | inr unlike ↦
          let Q : List ℕ → Type 0 = λ xs. IsIn other xs in
          later (subst Q (cond-false (eqb size (suc n)) (rank ∷ wanted_so_often (suc n) sizes ranks) (wanted_so_often (suc n) sizes ranks) (ne_eqb size (suc n) unlike)) within)
    ]
