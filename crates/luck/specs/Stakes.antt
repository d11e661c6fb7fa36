-- What the players have in and who has folded, as far as the pots ask.
use Rattle.std.specs.Prelude.{◌≡◌, ℕ, ◌≤◌, max, Bool, List, length}
use Rattle.std.specs.List.{All, fold}
use Rattle.side_pots.specs.Amounts.{IsAmount}

-- amounts in chips over the whole hand, and folds, by position
pub record AtStake : Type 0 where
  pub spent : List ℕ
  pub folded : List Bool

-- two to ten amounts of chips, a fold or none for each, and the greatest amount is of one who hasn't folded
pub record AreStakes (spent : List ℕ) (folded : List Bool) : Type 0 where
  pub least : 2 ≤ length spent
  pub most : length spent ≤ 10
  pub folds : length folded ≡ length spent
  pub amounts : All (λ amount. amount ≤ 2147483647) spent
  pub greatest : IsAmount spent folded (fold max 0 spent)
