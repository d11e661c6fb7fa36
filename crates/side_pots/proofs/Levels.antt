-- Between two neighbouring amounts of unfolded players all levels are one pot, and no other level belongs to it.
use Rattle.std.proofs.Common.{inl, inr, ◌⊎◌, ◌≡◌, ℕ, ◌+◌, ◌-◌, ◌<◌, ◌≤◌, Bool, true, false, not, cond, leb, max, min, ◌&&◌, List, [], ◌∷◌, length, get_or, zero, suc, refl, sym, ◌∙◌, ap, arith}
use Rattle.std.specs.List.{fold, range_with_len, sum_by}
use Rattle.std.proofs.lemmas.Bool.{cases_Bool, cases_lt, cond-true, cond-false, le-leb, lt-leb}
use Rattle.std.proofs.lemmas.List.{get_or_past}
use Rattle.std.proofs.lemmas.List.Sums.{sum_by-cons}
use Rattle.hand_rank.specs.Worth.{Worth}
use Rattle.side_pots.specs.Amounts.{IsAmount, IsNextAmount, IsLastAmount, chips_between}
use Rattle.side_pots.specs.Pots.{is_eligible, chips_at, both_or_neither, is_same_set, pot_of, opens_pot, winners_of, share, won_at}
use Rattle.side_pots.proofs.Ranges.{sum_range-split, sum_range-first, sum_range-same, sum_range-none, all_range, not_all_range}

-- below the first amount there is nothing
abbrev pub IsBottom : List ℕ → List Bool → ℕ → Type 0
IsBottom spent folded below = (below ≡ 0) ⊎ IsAmount spent folded below

-- ---- who is eligible

pub eligible_unfolded : (spent : List ℕ) (folded : List Bool) (level position : ℕ) → get_or folded position true ≡ false → is_eligible spent folded level position ≡ leb level (get_or spent position 0)
unfolding is_eligible
eligible_unfolded spent folded level position unfolded = ap (λ (b : Bool). not b && leb level (get_or spent position 0)) unfolded

pub eligible_folded : (spent : List ℕ) (folded : List Bool) (level position : ℕ) → get_or folded position true ≡ true → is_eligible spent folded level position ≡ false
unfolding is_eligible
eligible_folded spent folded level position is_folded = ap (λ (b : Bool). not b && leb level (get_or spent position 0)) is_folded

pub eligible_reached : (spent : List ℕ) (folded : List Bool) (level position : ℕ) → get_or folded position true ≡ false → level ≤ get_or spent position 0 → is_eligible spent folded level position ≡ true
eligible_reached spent folded level position unfolded reached = eligible_unfolded spent folded level position unfolded ∙ le-leb level (get_or spent position 0) reached

pub eligible_missed : (spent : List ℕ) (folded : List Bool) (level position : ℕ) → get_or folded position true ≡ false → get_or spent position 0 < level → is_eligible spent folded level position ≡ false
eligible_missed spent folded level position unfolded missed = eligible_unfolded spent folded level position unfolded ∙ lt-leb level (get_or spent position 0) missed

-- the owner of an amount sits at the table
pub owner_within : (folded : List Bool) (owner : ℕ) → get_or folded owner true ≡ false → owner < length folded
owner_within folded owner unfolded =
    elim (cases_lt owner (length folded)) [ inl within ↦ within | inr past ↦ absurd (let default = get_or_past folded owner true past in cc) ]

-- ---- levels of one pot

-- within the levels up to the next amount the same players are eligible
same_at : (spent : List ℕ) (folded : List Bool) (below top level : ℕ) → IsNextAmount spent folded below top → below < level → level ≤ top → (q : ℕ) → is_eligible spent folded level q ≡ is_eligible spent folded top q
same_at spent folded below top level next above upto q =
    elim (cases_Bool (get_or folded q true)) [
      | inl is_folded ↦ eligible_folded spent folded level q is_folded ∙ sym (eligible_folded spent folded top q is_folded)
      | inr unfolded ↦
          elim (cases_lt (get_or spent q 0) level) [
            | inl missed ↦ eligible_missed spent folded level q unfolded missed ∙ sym (eligible_missed spent folded top q unfolded (omega arith))
            | inr reached ↦
                let high : top ≤ get_or spent q 0 = next.least q unfolded (omega arith) in
                eligible_reached spent folded level q unfolded reached ∙ sym (eligible_reached spent folded top q unfolded high)
          ]
    ]

pub same_eligible : (spent : List ℕ) (folded : List Bool) (below top level : ℕ) → IsNextAmount spent folded below top → below < level → level ≤ top → is_eligible spent folded level ≡ is_eligible spent folded top
same_eligible spent folded below top level next above upto = λ i q. same_at spent folded below top level next above upto q i

both_same : (b : Bool) → both_or_neither b b ≡ true
both_same true = refl
both_same false = refl

pub same_itself : (players : ℕ) (set : ℕ → Bool) → is_same_set players set set ≡ true
same_itself players set = all_range (λ q. both_or_neither (set q) (set q)) 0 players (λ v from to. both_same (set v))

-- two sets that one player tells apart
pub told_apart : (players : ℕ) (one other : ℕ → Bool) (q : ℕ) → q < players → one q ≡ true → other q ≡ false → is_same_set players one other ≡ false
told_apart players one other q within belongs lacks =
    let test : both_or_neither (one q) (other q) ≡ false = ap (λ (b : Bool). both_or_neither b (other q)) belongs ∙ lacks in
    not_all_range (λ p. both_or_neither (one p) (other p)) 0 players q (omega arith) (omega arith) test

pub told_apart_back : (players : ℕ) (one other : ℕ → Bool) (q : ℕ) → q < players → one q ≡ false → other q ≡ true → is_same_set players one other ≡ false
told_apart_back players one other q within lacks belongs =
    let test : both_or_neither (one q) (other q) ≡ false = ap (λ (b : Bool). both_or_neither b (other q)) lacks ∙ ap not belongs in
    not_all_range (λ p. both_or_neither (one p) (other p)) 0 players q (omega arith) (omega arith) test

-- above an amount its owner is missing
other_above : (spent : List ℕ) (folded : List Bool) (below top level : ℕ) → length folded ≡ length spent → IsNextAmount spent folded below top → top < level → is_same_set (length spent) (is_eligible spent folded top) (is_eligible spent folded level) ≡ false
other_above spent folded below top level one_length next above =
    let q : ℕ = next.amount_of_one.owner in
    let unfolded : get_or folded q true ≡ false = next.amount_of_one.unfolded in
    let exactly : get_or spent q 0 ≡ top = next.amount_of_one.exactly in
    told_apart (length spent) (is_eligible spent folded top) (is_eligible spent folded level) q
    (omega (arith, owner_within folded q unfolded))
    (eligible_reached spent folded top q unfolded (omega (arith, exactly)))
    (eligible_missed spent folded level q unfolded (omega (arith, exactly)))

-- up to the amount below, its owner belongs too
pub other_below : (spent : List ℕ) (folded : List Bool) (below top level : ℕ) → length folded ≡ length spent → IsBottom spent folded below → IsNextAmount spent folded below top → 1 ≤ level → level ≤ below → is_same_set (length spent) (is_eligible spent folded top) (is_eligible spent folded level) ≡ false
other_below spent folded below top level one_length (inl nothing) next from upto = absurd (omega arith)
other_below spent folded below top level one_length (inr bottom) next from upto =
    let q : ℕ = bottom.owner in
    let unfolded : get_or folded q true ≡ false = bottom.unfolded in
    let exactly : get_or spent q 0 ≡ below = bottom.exactly in
    let above : below < top = next.above in
    told_apart_back (length spent) (is_eligible spent folded top) (is_eligible spent folded level) q
    (omega (arith, owner_within folded q unfolded))
    (eligible_missed spent folded top q unfolded (omega (arith, exactly)))
    (eligible_reached spent folded level q unfolded (omega (arith, exactly)))

-- ---- the chips of a pot

pub sum_by-add : (f g h : ℕ → ℕ) (xs : List ℕ) → ((x : ℕ) → f x + g x ≡ h x) → sum_by f xs + sum_by g xs ≡ sum_by h xs
sum_by-add f g h [] same = refl
sum_by-add f g h (x ∷ xs) same =
    omega (arith, sum_by-cons f x xs, sum_by-cons g x xs, sum_by-cons h x xs, same x, sum_by-add f g h xs same)

pub sum_by-nothing : (f : ℕ → ℕ) (xs : List ℕ) → ((x : ℕ) → f x ≡ 0) → sum_by f xs ≡ 0
sum_by-nothing f [] none = refl
sum_by-nothing f (x ∷ xs) none = omega (arith, sum_by-cons f x xs, none x, sum_by-nothing f xs none)

one_chip : (below k amount : ℕ) → cond (leb (below + 1) amount) 1 0 + (min amount (below + 1 + k) - min amount (below + 1)) ≡ min amount (below + suc k) - min amount below
one_chip below k amount =
    elim (cases_lt amount (below + 1)) [
      | inl less ↦
          let none : ◌≡◌ {A = ℕ} (cond (leb (below + 1) amount) 1 0) 0 = cond-false (leb (below + 1) amount) 1 0 (lt-leb (below + 1) amount less) in
          omega (arith, none)
      | inr more ↦
          let one : ◌≡◌ {A = ℕ} (cond (leb (below + 1) amount) 1 0) 1 = cond-true (leb (below + 1) amount) 1 0 (le-leb (below + 1) amount more) in
          omega (arith, one)
    ]

-- level by level the same as player by player
pub chips_of_levels : (spent : List ℕ) (below k : ℕ) → sum_by (chips_at spent) (range_with_len (below + 1) k) ≡ chips_between spent below (below + k)
chips_of_levels spent below zero = sym (sum_by-nothing (λ (amount : ℕ). min amount (below + zero) - min amount below) spent (λ amount. omega arith))
chips_of_levels spent below (suc k) =
    omega (
      arith,
      sum_range-first (chips_at spent) (below + 1) k,
      chips_of_levels spent (below + 1) k,
      sum_by-add (λ (amount : ℕ). cond (leb (below + 1) amount) 1 0) (λ (amount : ℕ). min amount (below + 1 + k) - min amount (below + 1)) (λ (amount : ℕ). min amount (below + suc k) - min amount below) spent (one_chip below k),
    )

-- what a level adds to the pot of a set
abbrev pub in_pot : List ℕ → List Bool → (ℕ → Bool) → ℕ → ℕ
in_pot spent folded set level = cond (is_same_set (length spent) set (is_eligible spent folded level)) (chips_at spent level) 0

pub pot_of-top : (spent : List ℕ) (folded : List Bool) (below top : ℕ) → length folded ≡ length spent → IsBottom spent folded below → IsNextAmount spent folded below top → top ≤ fold max 0 spent → pot_of spent folded (is_eligible spent folded top) ≡ chips_between spent below top
unfolding pot_of
pot_of-top spent folded below top one_length bottom next within =
    let greatest : ℕ = fold max 0 spent in
    let set : ℕ → Bool = is_eligible spent folded top in
    let chip : ℕ → ℕ = in_pot spent folded set in
    let above : below < top = next.above in
    let all : below + ((top - below) + (greatest - top)) ≡ greatest = omega arith in
    let whole : sum_by chip (range_with_len 1 (below + ((top - below) + (greatest - top)))) ≡ sum_by chip (range_with_len 1 greatest) = ap (λ (n : ℕ). sum_by chip (range_with_len 1 n)) all in
    let under : sum_by chip (range_with_len 1 below) ≡ 0 =
    sum_range-none chip 1 below (λ v from to. cond-false (is_same_set (length spent) set (is_eligible spent folded v)) (chips_at spent v) 0 (other_below spent folded below top v one_length bottom next from (omega arith))) in
    let inside : sum_by chip (range_with_len (1 + below) (top - below)) ≡ sum_by (chips_at spent) (range_with_len (1 + below) (top - below)) =
    sum_range-same chip (chips_at spent) (1 + below) (top - below) (λ v from to.
    cond-true (is_same_set (length spent) set (is_eligible spent folded v)) (chips_at spent v) 0
    (ap (is_same_set (length spent) set) (same_eligible spent folded below top v next (omega arith) (omega arith)) ∙ same_itself (length spent) set)) in
    let over : sum_by chip (range_with_len (1 + below + (top - below)) (greatest - top)) ≡ 0 =
    sum_range-none chip (1 + below + (top - below)) (greatest - top) (λ v from to. cond-false (is_same_set (length spent) set (is_eligible spent folded v)) (chips_at spent v) 0 (other_above spent folded below top v one_length next (omega arith))) in
    let start : 1 + below ≡ below + 1 = omega arith in
    let chips : sum_by (chips_at spent) (range_with_len (1 + below) (top - below)) ≡ chips_between spent below (below + (top - below)) =
    ap (λ (n : ℕ). sum_by (chips_at spent) (range_with_len n (top - below))) start ∙ chips_of_levels spent below (top - below) in
    let end_at : below + (top - below) ≡ top = omega arith in
    let upto : chips_between spent below (below + (top - below)) ≡ chips_between spent below top = ap (chips_between spent below) end_at in
    omega (
      arith,
      whole,
      under,
      inside,
      over,
      chips,
      upto,
      sum_range-split chip 1 below ((top - below) + (greatest - top)),
      sum_range-split chip (1 + below) (top - below) (greatest - top),
    )

-- ---- what is won level by level

opens : (spent : List ℕ) (folded : List Bool) (below top : ℕ) → length folded ≡ length spent → IsBottom spent folded below → IsNextAmount spent folded below top → opens_pot spent folded (below + 1) ≡ true
unfolding opens_pot
opens spent folded below top one_length bottom next =
    let above : below < top = next.above in
    all_range (λ lower. not (is_same_set (length spent) (is_eligible spent folded (below + 1)) (is_eligible spent folded lower))) 1 (below + 1 - 1) (λ v from to.
    ap (λ (set : ℕ → Bool). not (is_same_set (length spent) set (is_eligible spent folded v))) (same_eligible spent folded below top (below + 1) next (omega arith) (omega arith))
    ∙ ap not (other_below spent folded below top v one_length bottom next from (omega arith)))

goes_on : (spent : List ℕ) (folded : List Bool) (below top level : ℕ) → IsNextAmount spent folded below top → below + 1 < level → level ≤ top → opens_pot spent folded level ≡ false
unfolding opens_pot
goes_on spent folded below top level next above upto =
    let same : is_eligible spent folded (below + 1) ≡ is_eligible spent folded level =
    same_eligible spent folded below top (below + 1) next (omega arith) (omega arith) ∙ sym (same_eligible spent folded below top level next (omega arith) upto) in
    not_all_range (λ lower. not (is_same_set (length spent) (is_eligible spent folded level) (is_eligible spent folded lower))) 1 (level - 1) (below + 1) (omega arith) (omega arith)
    (ap (λ (set : ℕ → Bool). not (is_same_set (length spent) (is_eligible spent folded level) set)) same ∙ ap not (same_itself (length spent) (is_eligible spent folded level)))

-- the share of the pot of a set
abbrev pub share_of_set : List ℕ → List Bool → List Worth → ℕ → (ℕ → Bool) → ℕ
share_of_set spent folded values position set = share (pot_of spent folded set) (winners_of values set) position

won_at-opening : (spent : List ℕ) (folded : List Bool) (values : List Worth) (position below top : ℕ) → length folded ≡ length spent → IsBottom spent folded below → IsNextAmount spent folded below top → won_at spent folded values position (below + 1) ≡ share_of_set spent folded values position (is_eligible spent folded top)
unfolding won_at
won_at-opening spent folded values position below top one_length bottom next =
    let above : below < top = next.above in
    cond-true (opens_pot spent folded (below + 1)) (share_of_set spent folded values position (is_eligible spent folded (below + 1))) 0 (opens spent folded below top one_length bottom next)
    ∙ ap (share_of_set spent folded values position) (same_eligible spent folded below top (below + 1) next (omega arith) (omega arith))

won_at-going_on : (spent : List ℕ) (folded : List Bool) (values : List Worth) (position below top level : ℕ) → IsNextAmount spent folded below top → below + 1 < level → level ≤ top → won_at spent folded values position level ≡ 0
unfolding won_at
won_at-going_on spent folded values position below top level next above upto =
    cond-false (opens_pot spent folded level) (share_of_set spent folded values position (is_eligible spent folded level)) 0 (goes_on spent folded below top level next above upto)

-- what is won up to a level
abbrev pub won_upto : List ℕ → List Bool → List Worth → ℕ → ℕ → ℕ
won_upto spent folded values level position = sum_by (won_at spent folded values position) (range_with_len 1 level)

pub won_upto-next : (spent : List ℕ) (folded : List Bool) (values : List Worth) (below top position : ℕ) → length folded ≡ length spent → IsBottom spent folded below → IsNextAmount spent folded below top → won_upto spent folded values top position ≡ won_upto spent folded values below position + share_of_set spent folded values position (is_eligible spent folded top)
won_upto-next spent folded values below top position one_length bottom next =
    let gain : ℕ → ℕ = won_at spent folded values position in
    let above : below < top = next.above in
    let all : below + suc (top - below - 1) ≡ top = omega arith in
    let whole : sum_by gain (range_with_len 1 (below + suc (top - below - 1))) ≡ sum_by gain (range_with_len 1 top) = ap (λ (n : ℕ). sum_by gain (range_with_len 1 n)) all in
    let start : 1 + below ≡ below + 1 = omega arith in
    let first : gain (1 + below) ≡ share_of_set spent folded values position (is_eligible spent folded top) =
    ap gain start ∙ won_at-opening spent folded values position below top one_length bottom next in
    let rest : sum_by gain (range_with_len (1 + below + 1) (top - below - 1)) ≡ 0 =
    sum_range-none gain (1 + below + 1) (top - below - 1) (λ v from to. won_at-going_on spent folded values position below top v next (omega arith) (omega arith)) in
    omega (arith, whole, first, rest, sum_range-split gain 1 below (suc (top - below - 1)), sum_range-first gain (1 + below) (top - below - 1))

-- ---- the greatest amount

pub max_at_least : (xs : List ℕ) (start : ℕ) → start ≤ fold max start xs
max_at_least [] start = omega arith
max_at_least (x ∷ xs) start = omega (arith, max_at_least xs (max start x))

pub max_of_each : (xs : List ℕ) (start i : ℕ) → get_or xs i 0 ≤ fold max start xs
max_of_each [] start i = omega arith
max_of_each (x ∷ xs) start zero = omega (arith, max_at_least xs (max start x))
max_of_each (x ∷ xs) start (suc i) = max_of_each xs (max start x) i

pub next_within : (spent : List ℕ) (folded : List Bool) (below top : ℕ) → IsNextAmount spent folded below top → top ≤ fold max 0 spent
next_within spent folded below top next =
    let exactly : get_or spent next.amount_of_one.owner 0 ≡ top = next.amount_of_one.exactly in
    omega (arith, exactly, max_of_each spent 0 next.amount_of_one.owner)

bottom_within : (spent : List ℕ) (folded : List Bool) (below : ℕ) → IsBottom spent folded below → below ≤ fold max 0 spent
bottom_within spent folded below (inl nothing) = omega arith
bottom_within spent folded below (inr bottom) =
    let exactly : get_or spent bottom.owner 0 ≡ below = bottom.exactly in
    omega (arith, exactly, max_of_each spent 0 bottom.owner)

-- where no amount is left, the greatest one was reached
pub last_is_greatest : (spent : List ℕ) (folded : List Bool) (below : ℕ) → IsBottom spent folded below → IsLastAmount spent folded below → IsAmount spent folded (fold max 0 spent) → below ≡ fold max 0 spent
last_is_greatest spent folded below bottom last greatest =
    let exactly : get_or spent greatest.owner 0 ≡ fold max 0 spent = greatest.exactly in
    let high : get_or spent greatest.owner 0 ≤ below = last greatest.owner greatest.unfolded in
    omega (arith, exactly, high, bottom_within spent folded below bottom)
