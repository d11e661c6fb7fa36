-- Five of seven cards that are worth what is said.
use Rattle.std.proofs.Common.{◌≡◌, ◌≢◌, ℕ, zero, suc, ◌+◌, ◌-◌, ◌<◌, ◌≤◌, Bool, true, false, cond, eqb, ◌==◌, ◌&&◌, List, [], ◌∷◌, ◌++◌, length, Option, Some, None, inl, inr, ◌⊎◌, refl, sym, ◌∙◌, ap, subst, arith}
use Rattle.std.specs.Int.{bit_at}
use Rattle.std.specs.List.{All, AllByRecursion, sum}
use Rattle.std.proofs.lemmas.Bool.{cases_eq, cases_lt, cases_Bool}
use Rattle.card_core.specs.Card.{rank_of, suit_of}
use Rattle.hand_rank.specs.Best.{IsFiveOf, IsReached}
use Rattle.hand_rank.specs.Five.{straight_top, straight_ranks, is_straight_from, counts_of, is_flush, worth_of_five, rank_count, suit_count}
use Rattle.hand_rank.specs.Profile.{IsSeven, IsNoneAbove, suited_count}
use Rattle.hand_rank.specs.Ranks.{IsAtLeast, IsRun, IsHighestRun}
use Rattle.hand_rank.specs.Worth.{Worth}
use Rattle.hand_rank.proofs.Bests.{flush_of_suit, low_rank, past_ranks, run_in_set, upto, flush_ranks}
use Rattle.hand_rank.proofs.Chosen.{IsWanted, IsOrdered, choose_wanted, passing_count, worth_of_wanted}
use Rattle.hand_rank.proofs.Groups.{at_rank, category_by, in_order, worth}
use Rattle.hand_rank.proofs.Picks.{IsIn, IsPicked, left_out, left_out-le, wanted, wanted-here, wanted_so_often, wanted_is_there, in_is_wanted}
use Rattle.hand_rank.proofs.Straights.{IsRunOf, IsTop, one_each, picked_apart, straight_apart, straight_five, straight_top_found, test_from_ones}
use Rattle.hand_rank.proofs.Totals.{suited_le}

wanted_of_ranks : (cards sizes ranks : List ℕ) → IsSeven cards → IsPicked (rank_count cards) sizes ranks → sum sizes ≡ 5 → IsWanted (λ card. true) cards sizes ranks
wanted_of_ranks cards sizes ranks seven picked five =
    choose_wanted (λ card. true) cards sizes ranks seven.ranks (λ rank. omega arith) (past_ranks cards seven) picked five

wanted_of_suit : (cards : List ℕ) (suit : ℕ) (sizes ranks : List ℕ) → IsSeven cards → IsPicked (suited_count cards suit) sizes ranks → sum sizes ≡ 5 → IsWanted (λ card. suit_of card == suit) cards sizes ranks
wanted_of_suit cards suit sizes ranks seven picked five =
    choose_wanted (λ card. suit_of card == suit) cards sizes ranks seven.ranks (λ rank. suited_le cards suit rank) (λ rank past. omega (arith, suited_le cards suit rank, past_ranks cards seven rank past)) picked five

none_of : (o : Option ℕ) → ((top : ℕ) → o ≡ Some top → ⊥) → o ≡ None
none_of None no_top = refl
none_of (Some top) no_top = absurd (no_top top refl)

straight_or_better : (flush : Bool) → 4 ≤ cond flush 8 4
straight_or_better true = omega arith
straight_or_better false = omega arith

category_along : (five : List ℕ) (category : ℕ) (ranks : List ℕ) → worth_of_five five ≡ worth category ranks → (worth_of_five five).category ≡ category
category_along five category ranks e = ap (λ (w : Worth). w.category) e

-- ---- four of a kind and full houses

four_category : (flush : Bool) → category_by flush false 1 0 0 ≡ 7
four_category true = refl
four_category false = refl

house_category : (flush : Bool) → category_by flush false 0 1 1 ≡ 6
house_category true = refl
house_category false = refl

pub reach_four : (cards : List ℕ) (a b : ℕ) → IsSeven cards → IsPicked (rank_count cards) (4 ∷ 1 ∷ []) (a ∷ b ∷ []) → IsReached cards (worth 7 (a ∷ a ∷ a ∷ a ∷ b ∷ []))
reach_four cards a b seven picked =
    let it = wanted_of_ranks cards (4 ∷ 1 ∷ []) (a ∷ b ∷ []) seven picked refl in
    let low : a < 13 = low_rank (rank_count cards) a (past_ranks cards seven) (omega (arith, picked.1)) in
    let low_b : b < 13 = low_rank (rank_count cards) b (past_ranks cards seven) (omega (arith, picked.2.1, left_out-le (rank_count cards) a b)) in
    let none = none_of (straight_top (counts_of it.five)) (λ top e.
    let straight = straight_five it.five top it.chosen.count it.low e in
    omega (arith, straight.once a low, it.come a low, wanted-here 4 a (1 ∷ []) (b ∷ []))) in
    let is = worth_of_wanted it.five (rank_count cards) (4 ∷ 1 ∷ []) (a ∷ b ∷ []) picked it.come (record { fives = tt; fours = (low, tt); threes = tt; pairs = tt; singles = (low_b, tt) }) none in
    record { five = it.five; chosen = it.chosen; worth_it = is ∙ ap (λ (c : ℕ). worth c (a ∷ a ∷ a ∷ a ∷ b ∷ [])) (four_category (is_flush it.five)) }

pub reach_house : (cards : List ℕ) (a b : ℕ) → IsSeven cards → IsPicked (rank_count cards) (3 ∷ 2 ∷ []) (a ∷ b ∷ []) → IsReached cards (worth 6 (a ∷ a ∷ a ∷ b ∷ b ∷ []))
reach_house cards a b seven picked =
    let it = wanted_of_ranks cards (3 ∷ 2 ∷ []) (a ∷ b ∷ []) seven picked refl in
    let low : a < 13 = low_rank (rank_count cards) a (past_ranks cards seven) (omega (arith, picked.1)) in
    let low_b : b < 13 = low_rank (rank_count cards) b (past_ranks cards seven) (omega (arith, picked.2.1, left_out-le (rank_count cards) a b)) in
    let none = none_of (straight_top (counts_of it.five)) (λ top e.
    let straight = straight_five it.five top it.chosen.count it.low e in
    omega (arith, straight.once a low, it.come a low, wanted-here 3 a (2 ∷ []) (b ∷ []))) in
    let is = worth_of_wanted it.five (rank_count cards) (3 ∷ 2 ∷ []) (a ∷ b ∷ []) picked it.come (record { fives = tt; fours = tt; threes = (low, tt); pairs = (low_b, tt); singles = tt }) none in
    record { five = it.five; chosen = it.chosen; worth_it = is ∙ ap (λ (c : ℕ). worth c (a ∷ a ∷ a ∷ b ∷ b ∷ [])) (house_category (is_flush it.five)) }

-- ---- hands below a straight

pub reach_low : (cards sizes ranks : List ℕ) (category : ℕ) → IsSeven cards → category ≤ 3 → IsNoneAbove cards category → IsPicked (rank_count cards) sizes ranks → sum sizes ≡ 5 → IsOrdered sizes ranks
    → category_by true false (length (wanted_so_often 4 sizes ranks)) (length (wanted_so_often 3 sizes ranks)) (length (wanted_so_often 2 sizes ranks)) ≡ 5
    → category_by false false (length (wanted_so_often 4 sizes ranks)) (length (wanted_so_often 3 sizes ranks)) (length (wanted_so_often 2 sizes ranks)) ≡ category
    → IsReached cards (worth category (in_order (wanted_so_often 5 sizes ranks) (wanted_so_often 4 sizes ranks) (wanted_so_often 3 sizes ranks) (wanted_so_often 2 sizes ranks) (wanted_so_often 1 sizes ranks)))
reach_low cards sizes ranks category seven small above picked five ordered high own =
    let it = wanted_of_ranks cards sizes ranks seven picked five in
    let most : (worth_of_five it.five).category ≤ category = above it.five it.chosen in
    let none = none_of (straight_top (counts_of it.five)) (λ top e.
    let straight = straight_five it.five top it.chosen.count it.low e in
    omega (arith, category_along it.five (cond (is_flush it.five) 8 4) (top ∷ 0 ∷ 0 ∷ 0 ∷ 0 ∷ []) straight.is, straight_or_better (is_flush it.five))) in
    let by : Bool → ℕ = λ flush. category_by flush false (length (wanted_so_often 4 sizes ranks)) (length (wanted_so_often 3 sizes ranks)) (length (wanted_so_often 2 sizes ranks)) in
    let deciding : List ℕ = in_order (wanted_so_often 5 sizes ranks) (wanted_so_often 4 sizes ranks) (wanted_so_often 3 sizes ranks) (wanted_so_often 2 sizes ranks) (wanted_so_often 1 sizes ranks) in
    let is = worth_of_wanted it.five (rank_count cards) sizes ranks picked it.come ordered none in
    elim (cases_Bool (is_flush it.five)) [
      | inl flush ↦ absurd (let five_it : by (is_flush it.five) ≡ 5 = ap by flush ∙ high in omega (arith, category_along it.five (by (is_flush it.five)) deciding is))
      | inr plain ↦ record { five = it.five; chosen = it.chosen; worth_it = is ∙ ap (λ (c : ℕ). worth c deciding) (ap by plain ∙ own) }
    ]

-- ---- flushes and straights

pub reach_flush : (cards : List ℕ) (suit a b c d e : ℕ) → IsSeven cards → suit < 4 → IsNoneAbove cards 5 → IsPicked (suited_count cards suit) (1 ∷ 1 ∷ 1 ∷ 1 ∷ 1 ∷ []) (a ∷ b ∷ c ∷ d ∷ e ∷ []) → IsOrdered (1 ∷ 1 ∷ 1 ∷ 1 ∷ 1 ∷ []) (a ∷ b ∷ c ∷ d ∷ e ∷ []) → IsReached cards (worth 5 (a ∷ b ∷ c ∷ d ∷ e ∷ []))
reach_flush cards suit a b c d e seven low above picked ordered =
    let it = wanted_of_suit cards suit (1 ∷ 1 ∷ 1 ∷ 1 ∷ 1 ∷ []) (a ∷ b ∷ c ∷ d ∷ e ∷ []) seven picked refl in
    let flush : is_flush it.five ≡ true = flush_of_suit it.five suit low it.pass in
    let most : (worth_of_five it.five).category ≤ 5 = above it.five it.chosen in
    let none = none_of (straight_top (counts_of it.five)) (λ top found.
    let straight = straight_five it.five top it.chosen.count it.low found in
    let eight : cond {A = ℕ} (is_flush it.five) 8 4 ≡ 8 = ap (λ (f : Bool). cond {A = ℕ} f 8 4) flush in
    omega (arith, category_along it.five (cond (is_flush it.five) 8 4) (top ∷ 0 ∷ 0 ∷ 0 ∷ 0 ∷ []) straight.is, eight)) in
    let is = worth_of_wanted it.five (suited_count cards suit) (1 ∷ 1 ∷ 1 ∷ 1 ∷ 1 ∷ []) (a ∷ b ∷ c ∷ d ∷ e ∷ []) picked it.come ordered none in
    record { five = it.five; chosen = it.chosen; worth_it = is ∙ ap (λ (f : Bool). worth (category_by f false 0 0 0) (a ∷ b ∷ c ∷ d ∷ e ∷ [])) flush }

each_of : (P : ℕ → Type 0) (xs : List ℕ) → ((x : ℕ) → IsIn x xs → P x) → AllByRecursion P xs
each_of P [] all = tt
each_of P (x ∷ xs) all = (all x (inl refl), each_of P xs (λ y within. all y (inr within)))

all_come : (bits : ℕ) (more : ℕ → ℕ) (ranks : List ℕ) → IsAtLeast bits 1 more → AllByRecursion (λ rank. bit_at bits rank ≡ 1) ranks → AllByRecursion (λ rank. 1 ≤ more rank) ranks
all_come bits more [] set all = tt
all_come bits more (rank ∷ ranks) set all =
    (elim (cases_lt (more rank) 1) [ inl few ↦ absurd (omega (arith, set.absent rank few, all.0)) | inr some ↦ some ], all_come bits more ranks set all.1)

run_picked : (bits top : ℕ) (more : ℕ → ℕ) → IsAtLeast bits 1 more → IsRun bits top → IsPicked more (one_each (straight_ranks top)) (straight_ranks top)
run_picked bits top more set run = picked_apart more (straight_ranks top) (all_come bits more (straight_ranks top) set run.present) (straight_apart top run.least run.most)

-- five in a row are worth their own top, where no higher one is among them
worth_of_run : (passes : ℕ → Bool) (cards : List ℕ) (top : ℕ) (more : ℕ → ℕ) (it : IsWanted passes cards (one_each (straight_ranks top)) (straight_ranks top)) → 3 ≤ top → top ≤ 12 → ((rank : ℕ) → 13 ≤ rank → more rank ≡ 0) → IsPicked more (one_each (straight_ranks top)) (straight_ranks top) → ((other : ℕ) → IsRunOf (at_rank (counts_of it.five)) other → other ≤ top) → worth_of_five it.five ≡ worth (cond (is_flush it.five) 8 4) (top ∷ 0 ∷ 0 ∷ 0 ∷ 0 ∷ [])
worth_of_run passes cards top more it least most past picked greatest =
    let counts : List ℕ = counts_of it.five in
    let ones : AllByRecursion (λ rank. at_rank (counts_of it.five) rank ≡ 1) (straight_ranks top) =
    each_of (λ rank. at_rank (counts_of it.five) rank ≡ 1) (straight_ranks top) (λ rank within.
    let one : wanted (one_each (straight_ranks top)) (straight_ranks top) rank ≡ 1 = in_is_wanted more 0 (one_each (straight_ranks top)) (straight_ranks top) rank picked within in
    let low : rank < 13 = low_rank more rank past (omega (arith, wanted_is_there more (one_each (straight_ranks top)) (straight_ranks top) picked rank)) in
    it.come rank low ∙ one) in
    let passing : is_straight_from (counts_of it.five) top ≡ true = test_from_ones (at_rank (counts_of it.five)) (straight_ranks top) ones in
    let found = straight_top_found (counts_of it.five) top (record { passes = passing; least = least; most = omega arith }) in
    let straight = straight_five it.five found.0 it.chosen.count it.low found.1 in
    let same : found.0 ≡ top = omega (arith, greatest found.0 straight.run, found.2) in
    straight.is ∙ ap (λ (n : ℕ). worth (cond (is_flush it.five) 8 4) (n ∷ 0 ∷ 0 ∷ 0 ∷ 0 ∷ [])) same

pub reach_straight : (cards : List ℕ) (bits top : ℕ) → IsSeven cards → IsNoneAbove cards 4 → IsAtLeast bits 1 (rank_count cards) → IsHighestRun bits top → IsReached cards (worth 4 (top ∷ 0 ∷ 0 ∷ 0 ∷ 0 ∷ []))
reach_straight cards bits top seven above set highest =
    let picked = run_picked bits top (rank_count cards) set highest.run in
    let it = wanted_of_ranks cards (one_each (straight_ranks top)) (straight_ranks top) seven picked refl in
    let is = worth_of_run (λ card. true) cards top (rank_count cards) it highest.run.least highest.run.most (past_ranks cards seven) picked
    (λ other run. highest.greatest other (run_in_set bits other (at_rank (counts_of it.five)) (rank_count cards) set (upto cards it.five it.chosen) run)) in
    let most : (worth_of_five it.five).category ≤ 4 = above it.five it.chosen in
    elim (cases_Bool (is_flush it.five)) [
      | inl flush ↦
          let eight : cond {A = ℕ} (is_flush it.five) 8 4 ≡ 8 = ap (λ (f : Bool). cond {A = ℕ} f 8 4) flush in
          absurd (omega (arith, category_along it.five (cond (is_flush it.five) 8 4) (top ∷ 0 ∷ 0 ∷ 0 ∷ 0 ∷ []) is, eight))
      | inr plain ↦ record { five = it.five; chosen = it.chosen; worth_it = is ∙ ap (λ (f : Bool). worth (cond f 8 4) (top ∷ 0 ∷ 0 ∷ 0 ∷ 0 ∷ [])) plain }
    ]

pub reach_straight_flush : (cards : List ℕ) (suit bits top : ℕ) → IsSeven cards → suit < 4 → 5 ≤ suit_count cards suit → IsAtLeast bits 1 (suited_count cards suit) → IsHighestRun bits top → IsReached cards (worth 8 (top ∷ 0 ∷ 0 ∷ 0 ∷ 0 ∷ []))
reach_straight_flush cards suit bits top seven low many set highest =
    let picked = run_picked bits top (suited_count cards suit) set highest.run in
    let it = wanted_of_suit cards suit (one_each (straight_ranks top)) (straight_ranks top) seven picked refl in
    let flush : is_flush it.five ≡ true = flush_of_suit it.five suit low it.pass in
    let is = worth_of_run (λ card. suit_of card == suit) cards top (suited_count cards suit) it highest.run.least highest.run.most
    (λ rank past. omega (arith, suited_le cards suit rank, past_ranks cards seven rank past)) picked
    (λ other run. highest.greatest other (run_in_set bits other (at_rank (counts_of it.five)) (suited_count cards suit) set (flush_ranks cards it.five suit seven many it.chosen flush) run)) in
    record { five = it.five; chosen = it.chosen; worth_it = is ∙ ap (λ (f : Bool). worth (cond f 8 4) (top ∷ 0 ∷ 0 ∷ 0 ∷ 0 ∷ [])) flush }
