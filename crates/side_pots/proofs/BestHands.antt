-- In each set that isn't empty somebody has the best hand.
use Rattle.std.proofs.Common.{inl, inr, ◌⊎◌, ◌≡◌, ℕ, ◌+◌, ◌<◌, ◌≤◌, Bool, true, false, not, cond, ◌&&◌, List, [], length, get_or, zero, suc, refl, sym, ◌∙◌, ap, arith}
use Rattle.std.specs.List.{list_all, range_with_len}
use Rattle.std.specs.Ordering.{is_gt, ordering_reverse}
use Rattle.std.specs.declared.cmp.Ordering.{Ordering}
use Rattle.std.specs.declared.cmp.Ordering.TheVariants.{Less, Equal, Greater}
use Rattle.std.proofs.lemmas.Bool.{and_from, and_left, and_right, cases_Bool, cases_eq, cases_lt, cond-true, cond-false}
use Rattle.std.proofs.lemmas.Cmp.{upto, tied_itself}
use Rattle.std.proofs.lemmas.List.{get_or_past, get_or_read}
use Rattle.std.proofs.lemmas.List.Folds.{list_all-append}
use Rattle.std.proofs.lemmas.List.FromFn.{get_or-map-range_with_len, length-map-range_with_len}
use Rattle.std.proofs.lemmas.List.Sums.{get_or-le-sum_by}
use Rattle.hand_rank.specs.Worth.{Worth, worth_cmp}
use Rattle.side_pots.specs.Pots.{is_winner, value_at, winners_of, wins, share}
use Rattle.hand_rank.proofs.Greatest.{worth_total}
use Rattle.side_pots.proofs.Ranges.{range-append, all_range, not_all_range}

-- the first is better than the second
abbrev pub is_better : Worth → Worth → Bool
is_better one other = is_gt (worth_cmp one other)

pub not_better_itself : (w : Worth) → is_better w w ≡ false
not_better_itself w = ap is_gt (tied_itself worth_total w)

turned_round : (o : Ordering) → is_gt o ≡ true → is_gt (ordering_reverse o) ≡ false
turned_round Less e = absurd (cc)
turned_round Equal e = absurd (cc)
turned_round Greater e = refl

not_better_back : (one other : Worth) → is_better one other ≡ true → is_better other one ≡ false
not_better_back one other better = ap is_gt (worth_total.antisymm other one) ∙ turned_round (worth_cmp one other) better

-- of the first so many players, this one belongs to the set and no other there is better
pub record IsBestAmong (values : List Worth) (set : ℕ → Bool) (players : ℕ) : Type 0 where
  pub player : ℕ
  pub within : player < players
  pub belongs : set player ≡ true
  pub best : (other : ℕ) → other < players → set other ≡ true → is_better (value_at values other) (value_at values player) ≡ false

abbrev pub IsEmptyBelow : (ℕ → Bool) → ℕ → Type 0
IsEmptyBelow set players = (q : ℕ) → q < players → set q ≡ false

empty_more : (set : ℕ → Bool) (k : ℕ) → IsEmptyBelow set k → set k ≡ false → IsEmptyBelow set (suc k)
empty_more set k empty lacks =
    λ q below. elim (cases_eq q k) [ inl same ↦ ap set same ∙ lacks | inr differ ↦ empty q (omega arith) ]

first_best : (values : List Worth) (set : ℕ → Bool) (k : ℕ) → IsEmptyBelow set k → set k ≡ true → IsBestAmong values set (suc k)
first_best values set k empty belongs = record {
  player = k;
  within = omega arith;
  belongs = belongs;
  best = λ other below in_set.
      elim (cases_eq other k) [
        | inl same ↦ ap (λ (q : ℕ). is_better (value_at values q) (value_at values k)) same ∙ not_better_itself (value_at values k)
        | inr differ ↦ absurd (let out = empty other (omega arith) in cc)
      ];
}

kept_best : (values : List Worth) (set : ℕ → Bool) (k : ℕ) (was : IsBestAmong values set k) → (set k ≡ true → is_better (value_at values k) (value_at values was.player) ≡ false) → IsBestAmong values set (suc k)
kept_best values set k was not_better = record {
  player = was.player;
  within = let h : was.player < k = was.within in omega arith;
  belongs = was.belongs;
  best = λ other below in_set.
      elim (cases_eq other k) [
        | inl same ↦ ap (λ (q : ℕ). is_better (value_at values q) (value_at values was.player)) same ∙ not_better (ap set (sym same) ∙ in_set)
        | inr differ ↦ was.best other (omega arith) in_set
      ];
}

new_best : (values : List Worth) (set : ℕ → Bool) (k : ℕ) (was : IsBestAmong values set k) → set k ≡ true → is_better (value_at values k) (value_at values was.player) ≡ true → IsBestAmong values set (suc k)
new_best values set k was belongs better = record {
  player = k;
  within = omega arith;
  belongs = belongs;
  best = λ other below in_set.
      elim (cases_eq other k) [
        | inl same ↦ ap (λ (q : ℕ). is_better (value_at values q) (value_at values k)) same ∙ not_better_itself (value_at values k)
        | inr differ ↦
            upto worth_total (value_at values other) (value_at values was.player) (value_at values k) (was.best other (omega arith) in_set)
            (not_better_back (value_at values k) (value_at values was.player) better)
      ];
}

one_more : (values : List Worth) (set : ℕ → Bool) (k : ℕ) → IsEmptyBelow set k ⊎ IsBestAmong values set k → (set k ≡ true) ⊎ (set k ≡ false) → IsEmptyBelow set (suc k) ⊎ IsBestAmong values set (suc k)
one_more values set k (inl empty) (inl belongs) = inr (first_best values set k empty belongs)
one_more values set k (inl empty) (inr lacks) = inl (empty_more set k empty lacks)
one_more values set k (inr was) (inr lacks) = inr (kept_best values set k was (λ belongs. absurd (let h : true ≡ false = sym belongs ∙ lacks in cc)))
one_more values set k (inr was) (inl belongs) =
    elim (cases_Bool (is_better (value_at values k) (value_at values was.player))) [
      | inl better ↦ inr (new_best values set k was belongs better)
      | inr not_better ↦ inr (kept_best values set k was (λ _. not_better))
    ]

best_among : (values : List Worth) (set : ℕ → Bool) (players : ℕ) → IsEmptyBelow set players ⊎ IsBestAmong values set players
best_among values set zero = inl (λ q below. absurd (omega arith))
best_among values set (suc k) = one_more values set k (best_among values set k) (cases_Bool (set k))

-- ---- who wins

-- another of the set who is better
abbrev pub is_beaten_by : List Worth → (ℕ → Bool) → ℕ → ℕ → Bool
is_beaten_by values set position other = set other && is_better (value_at values other) (value_at values position)

pub wins_when_best : (values : List Worth) (set : ℕ → Bool) (position : ℕ) → set position ≡ true → list_all (λ other. not (is_beaten_by values set position other)) (range_with_len 0 (length values)) ≡ true → is_winner values set position ≡ true
unfolding is_winner
wins_when_best values set position belongs unbeaten = and_from (set position) (list_all (λ other. not (is_beaten_by values set position other)) (range_with_len 0 (length values))) belongs unbeaten

pub no_winner_outside : (values : List Worth) (set : ℕ → Bool) (position : ℕ) → set position ≡ false → is_winner values set position ≡ false
unfolding is_winner
no_winner_outside values set position lacks = and_left (set position) (list_all (λ other. not (is_beaten_by values set position other)) (range_with_len 0 (length values))) lacks

pub no_winner_beaten : (values : List Worth) (set : ℕ → Bool) (position other : ℕ) → other < length values → set other ≡ true → is_better (value_at values other) (value_at values position) ≡ true → is_winner values set position ≡ false
unfolding is_winner
no_winner_beaten values set position other within belongs better =
    and_right (set position) (list_all (λ q. not (is_beaten_by values set position q)) (range_with_len 0 (length values)))
    (not_all_range (λ q. not (is_beaten_by values set position q)) 0 (length values) other (omega arith) (omega arith)
    (ap not (and_from (set other) (is_better (value_at values other) (value_at values position)) belongs better)))

not_beaten : (values : List Worth) (set : ℕ → Bool) (best : IsBestAmong values set (length values)) (other : ℕ) → other < length values → not (is_beaten_by values set best.player other) ≡ true
not_beaten values set best other within =
    elim (cases_Bool (set other)) [
      | inl belongs ↦ ap not (and_right (set other) (is_better (value_at values other) (value_at values best.player)) (best.best other within belongs))
      | inr lacks ↦ ap not (and_left (set other) (is_better (value_at values other) (value_at values best.player)) lacks)
    ]

one_wins : (values : List Worth) (set : ℕ → Bool) → IsBestAmong values set (length values) → 0 < wins (winners_of values set)
one_wins values set best =
    let p : ℕ = best.player in
    let within : p < length values = best.within in
    let winner : is_winner values set p ≡ true =
    wins_when_best values set p best.belongs (all_range (λ other. not (is_beaten_by values set p other)) 0 (length values) (λ other from to. not_beaten values set best other (omega arith))) in
    let at : get_or (winners_of values set) p false ≡ true = get_or-map-range_with_len (is_winner values set) 0 (length values) p p false within (omega arith) ∙ winner in
    let counted : cond {A = ℕ} (get_or (winners_of values set) p false) 1 0 ≤ wins (winners_of values set) =
    get_or-le-sum_by (λ (w : Bool). cond w 1 0) (winners_of values set) p false (omega (arith, length-map-range_with_len (is_winner values set) 0 (length values))) in
    let one : ◌≡◌ {A = ℕ} (cond (get_or (winners_of values set) p false) 1 0) 1 = cond-true (get_or (winners_of values set) p false) 1 0 at in
    omega (arith, counted, one)

-- where somebody belongs to the set, somebody wins
pub some_winner : (values : List Worth) (set : ℕ → Bool) (p : ℕ) → p < length values → set p ≡ true → 0 < wins (winners_of values set)
some_winner values set p within belongs =
    elim (best_among values set (length values)) [
      | inl empty ↦ absurd (let h : true ≡ false = sym belongs ∙ empty p within in cc)
      | inr best ↦ one_wins values set best
    ]

-- who isn't in the set gets nothing of its pot
pub no_share_outside : (pot : ℕ) (values : List Worth) (set : ℕ → Bool) (position : ℕ) → set position ≡ false → share pot (winners_of values set) position ≡ 0
unfolding share
no_share_outside pot values set position lacks =
    let loses : get_or (winners_of values set) position false ≡ false =
    elim (cases_lt position (length values)) [
      | inl within ↦ get_or-map-range_with_len (is_winner values set) 0 (length values) position position false within (omega arith) ∙ no_winner_outside values set position lacks
      | inr past ↦ get_or_past (winners_of values set) position false (omega (arith, length-map-range_with_len (is_winner values set) 0 (length values)))
    ] in
    cond-false (get_or (winners_of values set) position false) _ 0 loses

-- ---- as players are looked at one by one

pub better_read : (values : List Worth) (i j : ℕ) (v w : Worth) (better : Bool) → i < length values → j < length values → v ≡ get_or values i v → w ≡ get_or values j w → better ≡ is_better v w → is_better (value_at values i) (value_at values j) ≡ better
better_read values i j v w better i_within j_within v_read w_read e =
    let v_at : v ≡ value_at values i = get_or_read values i v i_within v_read (record { category = 0; ranks = [] }) in
    let w_at : w ≡ value_at values j = get_or_read values j w j_within w_read (record { category = 0; ranks = [] }) in
    sym (e ∙ (ap (λ (x : Worth). is_better x w) v_at ∙ ap (λ (y : Worth). is_better (value_at values i) y) w_at))

all_more : (p : ℕ → Bool) (i : ℕ) → p i ≡ true → list_all p (range_with_len 0 i) ≡ true → list_all p (range_with_len 0 (i + 1)) ≡ true
all_more p i here below =
    ap (list_all p) (range-append 0 i 1)
    ∙ (list_all-append p (range_with_len 0 i) (range_with_len (0 + i) 1)
    ∙ and_from (list_all p (range_with_len 0 i)) (list_all p (range_with_len (0 + i) 1)) below (all_range p (0 + i) 1 (λ v from to. let same : i ≡ v = omega arith in ap p (sym same) ∙ here)))

pub unbeaten_outside : (values : List Worth) (set : ℕ → Bool) (position i : ℕ) → set i ≡ false → list_all (λ other. not (is_beaten_by values set position other)) (range_with_len 0 i) ≡ true → list_all (λ other. not (is_beaten_by values set position other)) (range_with_len 0 (i + 1)) ≡ true
unbeaten_outside values set position i lacks so_far =
    all_more (λ other. not (is_beaten_by values set position other)) i (ap not (and_left (set i) (is_better (value_at values i) (value_at values position)) lacks)) so_far

pub unbeaten_not_better : (values : List Worth) (set : ℕ → Bool) (position i : ℕ) → is_better (value_at values i) (value_at values position) ≡ false → list_all (λ other. not (is_beaten_by values set position other)) (range_with_len 0 i) ≡ true → list_all (λ other. not (is_beaten_by values set position other)) (range_with_len 0 (i + 1)) ≡ true
unbeaten_not_better values set position i not_better so_far =
    all_more (λ other. not (is_beaten_by values set position other)) i (ap not (and_right (set i) (is_better (value_at values i) (value_at values position)) not_better)) so_far

pub unbeaten_by_all : (values : List Worth) (set : ℕ → Bool) (position i : ℕ) → i ≡ length values → list_all (λ other. not (is_beaten_by values set position other)) (range_with_len 0 i) ≡ true → list_all (λ other. not (is_beaten_by values set position other)) (range_with_len 0 (length values)) ≡ true
unbeaten_by_all values set position i whole so_far = ap (λ (n : ℕ). list_all (λ other. not (is_beaten_by values set position other)) (range_with_len 0 n)) (sym whole) ∙ so_far
