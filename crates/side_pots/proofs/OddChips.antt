-- A pot shared among its winners, position by position.
use Rattle.std.proofs.Common.{inl, inr, ◌≡◌, ℕ, ◌+◌, ◌*◌, ◌/◌, ◌%◌, ◌<◌, Bool, true, false, cond, ltb, min, List, [], ◌∷◌, ◌++◌, length, get_or, take, map, sym, ◌∙◌, ap, subst, arith}
use Rattle.std.specs.List.{range_with_len, sum}
use Rattle.std.proofs.lemmas.Bool.{cases_lt, cond-true, cond-false, lt-ltb, le-ltb}
use Rattle.std.proofs.lemmas.List.FromFn.{map-range_with_len_more, length-map-range_with_len}
use Rattle.std.proofs.lemmas.List.Sums.{sum_by_more, sum_by_push}
use Rattle.side_pots.specs.Pots.{share, wins}

-- one more of a list made by position
pub push_range : {X : Type 0} (f : ℕ → X) (items : List X) (i : ℕ) (x : X) → items ≡ map f (range_with_len 0 i) → x ≡ f i → items ++ x ∷ [] ≡ map f (range_with_len 0 (i + 1))
push_range {X} f items i x so_far read =
    ap (λ (xs : List X). xs ++ x ∷ []) so_far
    ∙ (ap (λ (y : X). map f (range_with_len 0 i) ++ y ∷ []) read
    ∙ sym (map-range_with_len_more f 0 i i (omega arith)))

pub room_in_range : {X : Type 0} (f : ℕ → X) (items : List X) (i n : ℕ) → items ≡ map f (range_with_len 0 i) → i < n → length items < n
room_in_range f items i n so_far within = omega (arith, ap length so_far, length-map-range_with_len f 0 i)

-- what the first positions got, and how many of them are winners
pub record IsSharedUpto (won items : List ℕ) (winners : List Bool) (pot before n : ℕ) : Type 0 where
  pub shares : items ≡ map (λ position. get_or won position 0 + share pot winners position) (range_with_len 0 n)
  pub count : before ≡ wins (take n winners)
  pub total : sum items ≡ sum (take n won) + (pot / wins winners) * before + min before (pot % wins winners)

share_of_one : (pot : ℕ) (winners : List Bool) (i : ℕ) → get_or winners i false ≡ true → share pot winners i ≡ pot / wins winners + cond (ltb (wins (take i winners)) (pot % wins winners)) 1 0
unfolding share
share_of_one pot winners i is_one = cond-true (get_or winners i false) (pot / wins winners + cond (ltb (wins (take i winners)) (pot % wins winners)) 1 0) 0 is_one

share_of_none : (pot : ℕ) (winners : List Bool) (i : ℕ) → get_or winners i false ≡ false → share pot winners i ≡ 0
unfolding share
share_of_none pot winners i is_none = cond-false (get_or winners i false) (pot / wins winners + cond (ltb (wins (take i winners)) (pot % wins winners)) 1 0) 0 is_none

-- the odd chip
odd_chip : (before odd : ℕ) → min before odd + cond (ltb before odd) 1 0 ≡ min (before + 1) odd
odd_chip before odd =
    elim (cases_lt before odd) [
      | inl less ↦ let one : ◌≡◌ {A = ℕ} (cond (ltb before odd) 1 0) 1 = cond-true (ltb before odd) 1 0 (lt-ltb before odd less) in omega (arith, one)
      | inr more ↦ let none : ◌≡◌ {A = ℕ} (cond (ltb before odd) 1 0) 0 = cond-false (ltb before odd) 1 0 (le-ltb before odd more) in omega (arith, none)
    ]

pub shared_winner : (won items : List ℕ) (winners : List Bool) (pot before i gain amount : ℕ) → i < length won → length winners ≡ length won → get_or winners i false ≡ true → gain ≡ pot / wins winners + cond (ltb before (pot % wins winners)) 1 0 → amount ≡ get_or won i 0 + gain → IsSharedUpto won items winners pot before i → IsSharedUpto won (items ++ amount ∷ []) winners pot (before + 1) (i + 1)
shared_winner won items winners pot before i gain amount within one_length is_one e read so_far =
    let one : ◌≡◌ {A = ℕ} (cond (get_or winners i false) 1 0) 1 = cond-true (get_or winners i false) 1 0 is_one in
    let of_one : gain ≡ share pot winners i =
    e ∙ (ap (λ (b : ℕ). pot / wins winners + cond (ltb b (pot % wins winners)) 1 0) so_far.count ∙ sym (share_of_one pot winners i is_one)) in
    let counted : wins (take (i + 1) winners) ≡ wins (take i winners) + cond (get_or winners i false) 1 0 = sum_by_more (λ (w : Bool). cond w 1 0) winners i false (omega arith) in
    let odd : min before (pot % wins winners) + cond (ltb before (pot % wins winners)) 1 0 ≡ min (before + 1) (pot % wins winners) = odd_chip before (pot % wins winners) in
    let pushed : sum (items ++ amount ∷ []) ≡ sum items + amount = sum_by_push (λ (x : ℕ). x) items amount in
    let taken : sum (take (i + 1) won) ≡ sum (take i won) + get_or won i 0 = sum_by_more (λ (x : ℕ). x) won i 0 within in
    let before_total : sum items ≡ sum (take i won) + (pot / wins winners) * before + min before (pot % wins winners) = so_far.total in
    let before_count : before ≡ wins (take i winners) = so_far.count in
    record {
      shares = push_range (λ position. get_or won position 0 + share pot winners position) items i amount so_far.shares (read ∙ ap (λ (g : ℕ). get_or won i 0 + g) of_one);
      count = omega (arith, before_count, counted, one);
      total = omega (arith, pushed, taken, before_total, odd, e, read);
    }

pub shared_loser : (won items : List ℕ) (winners : List Bool) (pot before i amount : ℕ) → i < length won → length winners ≡ length won → get_or winners i false ≡ false → amount ≡ get_or won i 0 → IsSharedUpto won items winners pot before i → IsSharedUpto won (items ++ amount ∷ []) winners pot before (i + 1)
shared_loser won items winners pot before i amount within one_length is_none read so_far =
    let none : ◌≡◌ {A = ℕ} (cond (get_or winners i false) 1 0) 0 = cond-false (get_or winners i false) 1 0 is_none in
    let nothing : share pot winners i ≡ 0 = share_of_none pot winners i is_none in
    let counted : wins (take (i + 1) winners) ≡ wins (take i winners) + cond (get_or winners i false) 1 0 = sum_by_more (λ (w : Bool). cond w 1 0) winners i false (omega arith) in
    let pushed : sum (items ++ amount ∷ []) ≡ sum items + amount = sum_by_push (λ (x : ℕ). x) items amount in
    let taken : sum (take (i + 1) won) ≡ sum (take i won) + get_or won i 0 = sum_by_more (λ (x : ℕ). x) won i 0 within in
    let before_total : sum items ≡ sum (take i won) + (pot / wins winners) * before + min before (pot % wins winners) = so_far.total in
    let before_count : before ≡ wins (take i winners) = so_far.count in
    record {
      shares = push_range (λ position. get_or won position 0 + share pot winners position) items i amount so_far.shares (omega (arith, read, nothing));
      count = omega (arith, before_count, counted, none);
      total = omega (arith, pushed, taken, before_total, read);
    }

-- the same of equal lists and counts
pub shared_as : (won items new : List ℕ) (winners : List Bool) (pot before after n : ℕ) → new ≡ items → after ≡ before → IsSharedUpto won items winners pot before n → IsSharedUpto won new winners pot after n
shared_as won items new winners pot before after n e f shared =
    let P : List ℕ → Type 0 = λ xs. IsSharedUpto won xs winners pot after n in
    let Q : ℕ → Type 0 = λ b. IsSharedUpto won items winners pot b n in
    subst P (sym e) (subst Q (sym f) shared)
