-- Each five cards of a pack are read as one of the nine categories, with the ranks that decide.
use Rattle.std.proofs.Common.{◌≡◌, ◌≢◌, ℕ, zero, suc, ◌+◌, ◌-◌, ◌*◌, ◌<◌, ◌≤◌, Bool, true, false, cond, List, [], ◌∷◌, ◌++◌, length, replicate, Option, Some, None, refl, sym, ◌∙◌, ap, subst, arith}
use Rattle.std.specs.List.{All}
use Rattle.card_core.specs.Card.{rank_of}
use Rattle.hand_rank.specs.Five.{straight_top, counts_of, is_flush, worth_of_five, rank_count}
use Rattle.hand_rank.specs.Worth.{Worth}
use Rattle.hand_rank.proofs.Groups.{those, those_first, IsFirstThat, at_rank, category_by, in_order, sizes_together}
use Rattle.hand_rank.proofs.Picks.{IsPicked, left_out, left_out-kept, expand}
use Rattle.hand_rank.proofs.Straights.{IsRunOf, straight_five, other_five, at_rank-le, at_rank-total}

-- ---- the ranks in order are picked one after another

picks_then : (count left : ℕ → ℕ) (n below : ℕ) (ranks sizes picks : List ℕ) → those count (suc n) below ≡ ranks → ((rank : ℕ) → rank < below → count rank ≡ suc n → left rank ≡ suc n) → ((fewer : ℕ → ℕ) → ((rank : ℕ) → count rank ≢ suc n → fewer rank ≡ left rank) → IsPicked fewer sizes picks) → IsPicked left (replicate (length ranks) (suc n) ++ sizes) (ranks ++ picks)
picks_then count left n below [] sizes picks e keeps after = after left (λ rank differ. refl)
picks_then count left n below (p ∷ ranks) sizes picks e keeps after =
    let first : IsFirstThat count (suc n) below p ranks = those_first count (suc n) below p ranks e in
    let here : left p ≡ suc n = keeps p first.low first.comes in (
      omega arith,
      omega arith,
      picks_then count (left_out left p) n p ranks sizes picks first.others
          (λ rank low same. left_out-kept left p rank (λ (e' : rank ≡ p). absurd (omega arith)) ∙ keeps rank (omega (arith, first.low)) same)
          (λ fewer agree. after fewer (λ rank differ. agree rank differ ∙ left_out-kept left p rank (λ (e' : rank ≡ p). differ (ap count e' ∙ first.comes)))),
    )

abbrev pub sizes_of : List ℕ → List ℕ → List ℕ → List ℕ → List ℕ
sizes_of fours threes pairs singles = replicate (length fours) 4 ++ (replicate (length threes) 3 ++ (replicate (length pairs) 2 ++ (replicate (length singles) 1 ++ [])))

abbrev pub picks_of : List ℕ → List ℕ → List ℕ → List ℕ → List ℕ
picks_of fours threes pairs singles = fours ++ (threes ++ (pairs ++ (singles ++ [])))

pub all_picked : (count : ℕ → ℕ) (fours threes pairs singles : List ℕ) → those count 4 13 ≡ fours → those count 3 13 ≡ threes → those count 2 13 ≡ pairs → those count 1 13 ≡ singles → IsPicked count (sizes_of fours threes pairs singles) (picks_of fours threes pairs singles)
all_picked count fours threes pairs singles e4 e3 e2 e1 =
    picks_then count count 3 13 fours (replicate (length threes) 3 ++ (replicate (length pairs) 2 ++ (replicate (length singles) 1 ++ []))) (threes ++ (pairs ++ (singles ++ []))) e4 (λ rank low same. same)
    (λ left4 kept4. picks_then count left4 2 13 threes (replicate (length pairs) 2 ++ (replicate (length singles) 1 ++ [])) (pairs ++ (singles ++ [])) e3
    (λ rank low same. kept4 rank (λ (e : count rank ≡ 4). absurd (omega arith)) ∙ same)
    (λ left3 kept3. picks_then count left3 1 13 pairs (replicate (length singles) 1 ++ []) (singles ++ []) e2
    (λ rank low same. kept3 rank (λ (e : count rank ≡ 3). absurd (omega arith)) ∙ (kept4 rank (λ (e : count rank ≡ 4). absurd (omega arith)) ∙ same))
    (λ left2 kept2. picks_then count left2 0 13 singles [] [] e1
    (λ rank low same. kept2 rank (λ (e : count rank ≡ 2). absurd (omega arith)) ∙ (kept3 rank (λ (e : count rank ≡ 3). absurd (omega arith)) ∙ (kept4 rank (λ (e : count rank ≡ 4). absurd (omega arith)) ∙ same)))
    (λ left1 kept1. tt))))

-- ---- the reading

-- the deciding ranks are picked ranks, each as often as its size says
pub record IsRanked (count : ℕ → ℕ) (sizes ranks : List ℕ) : Type 0 where
  pub picks : List ℕ
  pub picked : IsPicked count sizes picks
  pub are : ranks ≡ expand sizes picks

-- the deciding rank is a straight's top
pub record IsStraightRanked (count : ℕ → ℕ) (ranks : List ℕ) : Type 0 where
  pub top : ℕ
  pub run : IsRunOf count top
  pub are : ranks ≡ top ∷ 0 ∷ 0 ∷ 0 ∷ 0 ∷ []

-- what is known of five cards of each category
abbrev pub IsRead : ℕ → (ℕ → ℕ) → Bool → List ℕ → Type 0
IsRead zero count flush ranks = IsRanked count (1 ∷ 1 ∷ 1 ∷ 1 ∷ 1 ∷ []) ranks
IsRead (suc zero) count flush ranks = IsRanked count (2 ∷ 1 ∷ 1 ∷ 1 ∷ []) ranks
IsRead (suc (suc zero)) count flush ranks = IsRanked count (2 ∷ 2 ∷ 1 ∷ []) ranks
IsRead (suc (suc (suc zero))) count flush ranks = IsRanked count (3 ∷ 1 ∷ 1 ∷ []) ranks
IsRead (suc (suc (suc (suc zero)))) count flush ranks = IsStraightRanked count ranks
IsRead (suc (suc (suc (suc (suc zero))))) count flush ranks = (flush ≡ true) × IsRanked count (1 ∷ 1 ∷ 1 ∷ 1 ∷ 1 ∷ []) ranks
IsRead (suc (suc (suc (suc (suc (suc zero)))))) count flush ranks = IsRanked count (3 ∷ 2 ∷ []) ranks
IsRead (suc (suc (suc (suc (suc (suc (suc zero))))))) count flush ranks = IsRanked count (4 ∷ 1 ∷ []) ranks
IsRead (suc (suc (suc (suc (suc (suc (suc (suc zero)))))))) count flush ranks = (flush ≡ true) × IsStraightRanked count ranks
IsRead (suc (suc (suc (suc (suc (suc (suc (suc (suc n))))))))) count flush ranks = ⊥

read_four : (count : ℕ → ℕ) (flush : Bool) (a b : ℕ) → IsPicked count (4 ∷ 1 ∷ []) (a ∷ b ∷ []) → IsRead (category_by flush false 1 0 0) count flush (a ∷ a ∷ a ∷ a ∷ b ∷ [])
read_four count true a b picked = record { picks = a ∷ b ∷ []; picked = picked; are = refl }
read_four count false a b picked = record { picks = a ∷ b ∷ []; picked = picked; are = refl }

read_full_house : (count : ℕ → ℕ) (flush : Bool) (a b : ℕ) → IsPicked count (3 ∷ 2 ∷ []) (a ∷ b ∷ []) → IsRead (category_by flush false 0 1 1) count flush (a ∷ a ∷ a ∷ b ∷ b ∷ [])
read_full_house count true a b picked = record { picks = a ∷ b ∷ []; picked = picked; are = refl }
read_full_house count false a b picked = record { picks = a ∷ b ∷ []; picked = picked; are = refl }

read_three : (count : ℕ → ℕ) (flush : Bool) (a b c : ℕ) → (flush ≡ true → ⊥) → IsPicked count (3 ∷ 1 ∷ 1 ∷ []) (a ∷ b ∷ c ∷ []) → IsRead (category_by flush false 0 1 0) count flush (a ∷ a ∷ a ∷ b ∷ c ∷ [])
read_three count true a b c none picked = absurd (none refl)
read_three count false a b c none picked = record { picks = a ∷ b ∷ c ∷ []; picked = picked; are = refl }

read_two_pairs : (count : ℕ → ℕ) (flush : Bool) (a b c : ℕ) → (flush ≡ true → ⊥) → IsPicked count (2 ∷ 2 ∷ 1 ∷ []) (a ∷ b ∷ c ∷ []) → IsRead (category_by flush false 0 0 2) count flush (a ∷ a ∷ b ∷ b ∷ c ∷ [])
read_two_pairs count true a b c none picked = absurd (none refl)
read_two_pairs count false a b c none picked = record { picks = a ∷ b ∷ c ∷ []; picked = picked; are = refl }

read_pair : (count : ℕ → ℕ) (flush : Bool) (a b c d : ℕ) → (flush ≡ true → ⊥) → IsPicked count (2 ∷ 1 ∷ 1 ∷ 1 ∷ []) (a ∷ b ∷ c ∷ d ∷ []) → IsRead (category_by flush false 0 0 1) count flush (a ∷ a ∷ b ∷ c ∷ d ∷ [])
read_pair count true a b c d none picked = absurd (none refl)
read_pair count false a b c d none picked = record { picks = a ∷ b ∷ c ∷ d ∷ []; picked = picked; are = refl }

read_singles : (count : ℕ → ℕ) (flush : Bool) (a b c d e : ℕ) → IsPicked count (1 ∷ 1 ∷ 1 ∷ 1 ∷ 1 ∷ []) (a ∷ b ∷ c ∷ d ∷ e ∷ []) → IsRead (category_by flush false 0 0 0) count flush (a ∷ b ∷ c ∷ d ∷ e ∷ [])
read_singles count true a b c d e picked = (refl, record { picks = a ∷ b ∷ c ∷ d ∷ e ∷ []; picked = picked; are = refl })
read_singles count false a b c d e picked = record { picks = a ∷ b ∷ c ∷ d ∷ e ∷ []; picked = picked; are = refl }

-- what is to be read of five cards by the ranks that come four times, three times, twice and once
abbrev pub IsReadBy : (ℕ → ℕ) → Bool → List ℕ → List ℕ → List ℕ → List ℕ → Type 0
IsReadBy count flush fours threes pairs singles =
    (flush ≡ true → length fours + (length threes + length pairs) ≡ 0) → 4 * length fours + 3 * length threes + 2 * length pairs + length singles ≡ 5 → IsPicked count (sizes_of fours threes pairs singles) (picks_of fours threes pairs singles)
    → IsRead (category_by flush false (length fours) (length threes) (length pairs)) count flush (in_order [] fours threes pairs singles)

with_singles : (count : ℕ → ℕ) (flush : Bool) (singles : List ℕ) → IsReadBy count flush [] [] [] singles
with_singles count flush (a ∷ b ∷ c ∷ d ∷ e ∷ []) none five picked = read_singles count flush a b c d e picked
with_singles count flush [] none five _ = absurd (omega arith)
with_singles count flush (a ∷ []) none five _ = absurd (omega arith)
with_singles count flush (a ∷ b ∷ []) none five _ = absurd (omega arith)
with_singles count flush (a ∷ b ∷ c ∷ []) none five _ = absurd (omega arith)
with_singles count flush (a ∷ b ∷ c ∷ d ∷ []) none five _ = absurd (omega arith)
with_singles count flush (a ∷ b ∷ c ∷ d ∷ e ∷ f ∷ rest) none five _ = absurd (omega arith)

with_pair : (count : ℕ → ℕ) (flush : Bool) (a : ℕ) (singles : List ℕ) → IsReadBy count flush [] [] (a ∷ []) singles
with_pair count flush a (b ∷ c ∷ d ∷ []) none five picked = read_pair count flush a b c d (λ e. let some : 1 ≡ 0 = none e in absurd (omega arith)) picked
with_pair count flush a [] none five _ = absurd (omega arith)
with_pair count flush a (b ∷ []) none five _ = absurd (omega arith)
with_pair count flush a (b ∷ c ∷ []) none five _ = absurd (omega arith)
with_pair count flush a (b ∷ c ∷ d ∷ e ∷ rest) none five _ = absurd (omega arith)

with_pairs : (count : ℕ → ℕ) (flush : Bool) (pairs singles : List ℕ) → IsReadBy count flush [] [] pairs singles
with_pairs count flush [] singles none five picked = with_singles count flush singles none five picked
with_pairs count flush (a ∷ []) singles none five picked = with_pair count flush a singles none five picked
with_pairs count flush (a ∷ b ∷ []) (c ∷ []) none five picked = read_two_pairs count flush a b c (λ e. let some : 2 ≡ 0 = none e in absurd (omega arith)) picked
with_pairs count flush (a ∷ b ∷ []) [] none five _ = absurd (omega arith)
with_pairs count flush (a ∷ b ∷ []) (c ∷ d ∷ rest) none five _ = absurd (omega arith)
with_pairs count flush (a ∷ b ∷ c ∷ rest) singles none five _ = absurd (omega arith)

with_three : (count : ℕ → ℕ) (flush : Bool) (a : ℕ) (pairs singles : List ℕ) → IsReadBy count flush [] (a ∷ []) pairs singles
with_three count flush a (b ∷ []) [] none five picked = read_full_house count flush a b picked
with_three count flush a [] (b ∷ c ∷ []) none five picked = read_three count flush a b c (λ e. let some : 1 ≡ 0 = none e in absurd (omega arith)) picked
with_three count flush a (b ∷ []) (c ∷ rest) none five _ = absurd (omega arith)
with_three count flush a (b ∷ c ∷ rest) singles none five _ = absurd (omega arith)
with_three count flush a [] [] none five _ = absurd (omega arith)
with_three count flush a [] (b ∷ []) none five _ = absurd (omega arith)
with_three count flush a [] (b ∷ c ∷ d ∷ rest) none five _ = absurd (omega arith)

with_threes : (count : ℕ → ℕ) (flush : Bool) (threes pairs singles : List ℕ) → IsReadBy count flush [] threes pairs singles
with_threes count flush [] pairs singles none five picked = with_pairs count flush pairs singles none five picked
with_threes count flush (a ∷ []) pairs singles none five picked = with_three count flush a pairs singles none five picked
with_threes count flush (a ∷ b ∷ rest) pairs singles none five _ = absurd (omega arith)

with_four : (count : ℕ → ℕ) (flush : Bool) (a : ℕ) (threes pairs singles : List ℕ) → IsReadBy count flush (a ∷ []) threes pairs singles
with_four count flush a [] [] (b ∷ []) none five picked = read_four count flush a b picked
with_four count flush a [] [] [] none five _ = absurd (omega arith)
with_four count flush a [] [] (b ∷ c ∷ rest) none five _ = absurd (omega arith)
with_four count flush a [] (b ∷ rest) singles none five _ = absurd (omega arith)
with_four count flush a (b ∷ rest) pairs singles none five _ = absurd (omega arith)

with_fours : (count : ℕ → ℕ) (flush : Bool) (fours threes pairs singles : List ℕ) → IsReadBy count flush fours threes pairs singles
with_fours count flush [] threes pairs singles none five picked = with_threes count flush threes pairs singles none five picked
with_fours count flush (a ∷ []) threes pairs singles none five picked = with_four count flush a threes pairs singles none five picked
with_fours count flush (a ∷ b ∷ rest) threes pairs singles none five _ = absurd (omega arith)

-- ---- five cards of a pack

none_there : (count : ℕ → ℕ) (n : ℕ) (ranks : List ℕ) → ((rank : ℕ) → rank < 13 → count rank < n) → those count n 13 ≡ ranks → length ranks ≡ 0
none_there count n [] few e = refl
none_there count n (p ∷ ranks) few e =
    let first : IsFirstThat count n 13 p ranks = those_first count n 13 p ranks e in
    absurd (omega (arith, few p first.low, first.comes))

-- five cards of which no rank comes five times, and none twice where they are of one suit
pub record IsOfPack (five : List ℕ) : Type 0 where
  pub count : length five ≡ 5
  pub ranks : All (λ card. rank_of card < 13) five
  pub most : (rank : ℕ) → rank_count five rank ≤ 4
  pub suited : is_flush five ≡ true → (rank : ℕ) → rank_count five rank ≤ 1

read_other : (five fives fours threes pairs singles : List ℕ) → IsOfPack five → those (at_rank (counts_of five)) 5 13 ≡ fives → those (at_rank (counts_of five)) 4 13 ≡ fours → those (at_rank (counts_of five)) 3 13 ≡ threes → those (at_rank (counts_of five)) 2 13 ≡ pairs → those (at_rank (counts_of five)) 1 13 ≡ singles → IsRead (category_by (is_flush five) false (length fours) (length threes) (length pairs)) (at_rank (counts_of five)) (is_flush five) (in_order fives fours threes pairs singles)
read_other five [] fours threes pairs singles pack e5 e4 e3 e2 e1 =
    let count = at_rank (counts_of five) in
    let all = sizes_together (at_rank (counts_of five)) (λ rank. omega (arith, at_rank-le five rank, pack.most rank)) in
    with_fours count (is_flush five) fours threes pairs singles
    (λ flush.
    let few : (n : ℕ) → 1 < n → (rank : ℕ) → rank < 13 → at_rank (counts_of five) rank < n = λ n more rank low. omega (arith, at_rank-le five rank, pack.suited flush rank) in
    omega (arith, none_there count 4 fours (few 4 (omega arith)) e4, none_there count 3 threes (few 3 (omega arith)) e3, none_there count 2 pairs (few 2 (omega arith)) e2))
    (omega (arith, all, ap length e5, ap length e4, ap length e3, ap length e2, ap length e1, at_rank-total five pack.ranks, pack.count))
    (all_picked count fours threes pairs singles e4 e3 e2 e1)
read_other five (p ∷ fives) fours threes pairs singles pack e5 e4 e3 e2 e1 =
    let first : IsFirstThat (at_rank (counts_of five)) 5 13 p fives = those_first (at_rank (counts_of five)) 5 13 p fives e5 in
    absurd (omega (arith, first.comes, at_rank-le five p, pack.most p))

abbrev pub IsReadOf : List ℕ → Worth → Type 0
IsReadOf five w = IsRead w.category (at_rank (counts_of five)) (is_flush five) w.ranks

read_straight : (five : List ℕ) (flush : Bool) (top : ℕ) → is_flush five ≡ flush → IsRunOf (at_rank (counts_of five)) top → IsRead (cond flush 8 4) (at_rank (counts_of five)) flush (top ∷ 0 ∷ 0 ∷ 0 ∷ 0 ∷ [])
read_straight five true top e run = (refl, record { top = top; run = run; are = refl })
read_straight five false top e run = record { top = top; run = run; are = refl }

read_by : (five : List ℕ) (top : Option ℕ) → IsOfPack five → straight_top (counts_of five) ≡ top → IsReadOf five (worth_of_five five)
read_by five (Some top) pack e =
    let straight = straight_five five top pack.count pack.ranks e in
    let P : Worth → Type 0 = λ w. IsReadOf five w in
    subst P (sym straight.is) (read_straight five (is_flush five) top refl straight.run)
read_by five None pack e =
    let count = at_rank (counts_of five) in
    let P : Worth → Type 0 = λ w. IsReadOf five w in
    subst P (sym (other_five five e))
    (read_other five (those (at_rank (counts_of five)) 5 13) (those (at_rank (counts_of five)) 4 13) (those (at_rank (counts_of five)) 3 13) (those (at_rank (counts_of five)) 2 13) (those (at_rank (counts_of five)) 1 13) pack refl refl refl refl refl)

-- what five cards of a pack are worth, read
pub read_five : (five : List ℕ) → IsOfPack five → IsReadOf five (worth_of_five five)
read_five five pack = read_by five (straight_top (counts_of five)) pack refl
