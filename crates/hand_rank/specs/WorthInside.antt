-- What the fields of a value keep.
use Rattle.std.specs.Prelude.{◌<◌, ◌≤◌}
use Rattle.std.specs.List.{All}
use Rattle.hand_rank.specs.declared.hand_value.HandValue.TheInside.{Inside}

-- one of the nine categories, and ranks from the two to the ace
pub record IsKept (value : Inside) : Type 0 where
  pub category : value.category ≤ 8
  pub ranks : All (λ rank. rank < 13) value.ranks
