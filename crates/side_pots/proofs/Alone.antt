-- Where at most one player hasn't folded, nobody's hand is compared with another's.
use Rattle.std.proofs.Common.{inl, inr, ◌≡◌, ℕ, pos, ◌-ℤ◌, Bool, true, false, not, cond, List, length, get_or, map, sym, ◌∙◌, ap}
use Rattle.std.specs.List.{range_with_len, sum_by}
use Rattle.std.proofs.lemmas.Bool.{and_left, and_right, cases_Bool}
use Rattle.hand_rank.specs.Worth.{Worth}
use Rattle.side_pots.specs.Pots.{is_eligible, is_winner, value_at, winners_of, opens_pot, pot_of, share, levels, won_at, won}
use Rattle.side_pots.specs.Laws.{AtMostOneUnfolded, LonePlayerNeedsNoShowdown}
use Rattle.side_pots.proofs.Ranges.{all_range}
use Rattle.side_pots.proofs.Levels.{eligible_folded}
use Rattle.side_pots.proofs.BestHands.{is_better, not_better_itself, is_beaten_by, wins_when_best, no_winner_outside}

-- any two players of a set are the same
abbrev pub HasAtMostOne : (ℕ → Bool) → Type 0
HasAtMostOne set = (first second : ℕ) → set first ≡ true → set second ≡ true → first ≡ second

-- ---- winners

not_beaten : (values : List Worth) (set : ℕ → Bool) → HasAtMostOne set → (position : ℕ) → set position ≡ true → (other : ℕ) → not (is_beaten_by values set position other) ≡ true
not_beaten values set alone position belongs other =
    elim (cases_Bool (set other)) [
      | inl too ↦
          let itself : is_better (value_at values other) (value_at values position) ≡ false =
          ap (λ (q : ℕ). is_better (value_at values q) (value_at values position)) (alone other position too belongs) ∙ not_better_itself (value_at values position) in
          ap not (and_right (set other) (is_better (value_at values other) (value_at values position)) itself)
      | inr lacks ↦ ap not (and_left (set other) (is_better (value_at values other) (value_at values position)) lacks)
    ]

alone_wins : (values : List Worth) (set : ℕ → Bool) → HasAtMostOne set → (position : ℕ) → is_winner values set position ≡ set position
alone_wins values set alone position =
    elim (cases_Bool (set position)) [
      | inl belongs ↦
          wins_when_best values set position belongs
          (all_range (λ other. not (is_beaten_by values set position other)) 0 (length values) (λ other from to. not_beaten values set alone position belongs other))
          ∙ sym belongs
      | inr lacks ↦ no_winner_outside values set position lacks ∙ sym lacks
    ]

winners_alone : (values : List Worth) (set : ℕ → Bool) → HasAtMostOne set → winners_of values set ≡ map set (range_with_len 0 (length values))
winners_alone values set alone =
    let same : is_winner values set ≡ set = λ i position. alone_wins values set alone position i in
    ap (λ (wins : ℕ → Bool). map wins (range_with_len 0 (length values))) same

same_winners : (values others : List Worth) (set : ℕ → Bool) → length values ≡ length others → HasAtMostOne set → winners_of values set ≡ winners_of others set
same_winners values others set one_length alone =
    winners_alone values set alone ∙ ap (λ (n : ℕ). map set (range_with_len 0 n)) one_length ∙ sym (winners_alone others set alone)

-- ---- payoffs

eligible_alone : (spent : List ℕ) (folded : List Bool) (level : ℕ) → AtMostOneUnfolded folded → HasAtMostOne (is_eligible spent folded level)
eligible_alone spent folded level alone first second one two = alone first second (unfolded first one) (unfolded second two)
  where
    unfolded : (position : ℕ) → is_eligible spent folded level position ≡ true → get_or folded position true ≡ false
    unfolded position eligible =
        elim (cases_Bool (get_or folded position true)) [
          | inl is_folded ↦ absurd (let out = eligible_folded spent folded level position is_folded in cc)
          | inr is ↦ is
        ]

module _ (spent : List ℕ) (folded : List Bool) (values others : List Worth) (one_length : length values ≡ length others) (alone : AtMostOneUnfolded folded) where
  same_won_at : (position level : ℕ) → won_at spent folded values position level ≡ won_at spent folded others position level
  unfolding won_at
  same_won_at position level =
      let set : ℕ → Bool = is_eligible spent folded level in
      ap (λ (winners : List Bool). cond (opens_pot spent folded level) (share (pot_of spent folded set) winners position) 0)
      (same_winners values others set one_length (eligible_alone spent folded level alone))

  same_won : (position : ℕ) → won spent folded values position ≡ won spent folded others position
  unfolding won
  same_won position =
      let same : won_at spent folded values position ≡ won_at spent folded others position = λ i level. same_won_at position level i in
      ap (λ (gain : ℕ → ℕ). sum_by gain (levels spent)) same

pub lone_player_needs_no_showdown : LonePlayerNeedsNoShowdown
lone_player_needs_no_showdown spent folded values others one_length alone =
    let same : won spent folded values ≡ won spent folded others = λ i position. same_won spent folded values others one_length alone position i in
    ap (λ (gain : ℕ → ℕ). map (λ position. pos (gain position) -ℤ pos (get_or spent position 0)) (range_with_len 0 (length spent))) same
