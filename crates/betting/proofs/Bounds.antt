-- What holds of the numbers of every game.
use Rattle.std.proofs.Common.{◌≡◌, ℕ, zero, suc, ◌<◌, ◌≤◌, max, List, [], ◌∷◌, length, Option, Some, None, refl, sym, ◌∙◌, arith, inl, inr, ◌⊎◌}
use Rattle.std.specs.Prelude.{slice_index, fold, IfSome, option_map}
use Rattle.std.proofs.lemmas.Bool.{cases_lt}
use Rattle.std.specs.List.{AllByRecursion}
use Rattle.game_def.specs.Game.{Game, IsGame, stack_of, blind_of, big_blind, most_chips, raise_size_of}
use Rattle.game_def.proofs.Amounts.{blind_within}

pub all_at : (P : ℕ → Type 0) (xs : List ℕ) (i : ℕ) → AllByRecursion P xs → i < length xs → P (slice_index xs i)
all_at P [] i all b = absurd (omega arith)
all_at P (x ∷ xs) zero all b = all.0
all_at P (x ∷ xs) (suc i) all b = all_at P xs i all.1 (omega arith)

fold_max-some : (xs : List ℕ) (a : ℕ) → (fold max a xs ≡ a) ⊎ ((i : ℕ) × (i < length xs) × (slice_index xs i ≡ fold max a xs))
fold_max-some [] a = inl refl
fold_max-some (x ∷ xs) a = elim (fold_max-some xs (max a x)) [
  | inl kept ↦ elim (larger a x) [
    | inl first ↦ inl (kept ∙ first)
    | inr second ↦ inr (0, omega arith, sym (kept ∙ second))
  ]
  | inr some ↦ inr (suc some.0, omega (arith, some.1), some.2)
]
  where
    larger : (m n : ℕ) → (max m n ≡ m) ⊎ (max m n ≡ n)
    larger m n = elim (cases_lt m n) [ inl less ↦ inr (omega arith) | inr more ↦ inl (omega arith) ]

module _ (game : Game) (is_game : IsGame game) where
  pub blind_fits : (q : ℕ) → q < game.players → blind_of game q ≤ big_blind game
  blind_fits q b = blind_within game q

  pub top_blind : (q : ℕ) × (q < game.players) × (blind_of game q ≡ big_blind game)
  top_blind = elim (fold_max-some game.blinds 0) [
    | inl none ↦ absurd (omega (arith, is_game.some_blind, none))
    | inr some ↦ (some.0, omega (arith, some.1, is_game.blind_each), some.2)
  ]

  pub stack_above : (q : ℕ) → q < game.players → big_blind game < stack_of game q
  stack_above q b = all_at (λ stack. big_blind game < stack) game.stacks q is_game.stacks_above (omega (arith, is_game.stack_each))

  pub stack_fits : (q : ℕ) → q < game.players → stack_of game q ≤ most_chips
  stack_fits q b = all_at (λ stack. stack ≤ most_chips) game.stacks q is_game.stacks_fit (omega (arith, is_game.stack_each))

  pub big_blind_fits : big_blind game ≤ most_chips
  big_blind_fits =
      let two : 2 ≤ game.players = is_game.least_players in
      let above : big_blind game < stack_of game 0 = stack_above 0 (omega arith) in
      let fits : stack_of game 0 ≤ most_chips = stack_fits 0 (omega arith) in
      omega arith

  pub first_fits : (round : ℕ) → round < 4 → slice_index game.first_players round < game.players
  first_fits round b = all_at (λ first. first < game.players) game.first_players round is_game.firsts_play (omega (arith, is_game.first_each))

  pub size_positive : (size round : ℕ) → raise_size_of game round ≡ Some size → round < 4 → 1 ≤ size
  size_positive size round e b = in_limit game.raise_sizes is_game.four_sizes is_game.some_size e
    where
      in_limit : (o : Option (List ℕ)) → IfSome o (λ sizes. length sizes ≡ 4) → IfSome o (AllByRecursion (λ size. 1 ≤ size)) → option_map (λ sizes. slice_index sizes round) o ≡ Some size → 1 ≤ size
      in_limit None four each e = cc
      in_limit (Some sizes) four each e =
          let positive : 1 ≤ slice_index sizes round = all_at (λ size. 1 ≤ size) sizes round each (omega (arith, four)) in
          let same : slice_index sizes round ≡ size = cc in
          omega arith
