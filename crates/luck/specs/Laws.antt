-- What holds of the deals that are counted.
use Rattle.std.specs.Prelude.{◌≡◌, ℕ, ◌≤◌, ◌%◌, List, take, length}
use Rattle.std.specs.List.{AllByRecursion}
use Rattle.card_core.specs.Deal.{IsDeal}
use Rattle.luck.specs.Deals.{known_at}
use Rattle.luck.specs.Lucks.{deals_at}
use Rattle.luck.specs.Means.{parts_of}

-- a deal, so different cards of the pack, that begins with the known ones
pub record IsDealFrom (players : ℕ) (known cards : List ℕ) : Type 0 where
  pub is_deal : IsDeal players cards
  pub begins : take (length known) cards ≡ known

-- what is counted, or drawn and counted, are deals that begin with the known cards
abbrev pub CountedAreDeals : Type 0
CountedAreDeals = (key : List ℕ) (number players : ℕ) (deal : List ℕ) (street : ℕ) → players ≤ 10 → street ≤ 3 → IsDeal players deal → AllByRecursion (IsDealFrom players (known_at players deal street)) (deals_at key number players deal street)

-- the number of deals that are counted divides that of a chip's parts, so each mean is a whole number of parts
abbrev pub DealsDivideParts : Type 0
DealsDivideParts = (key : List ℕ) (number players : ℕ) (deal : List ℕ) (street : ℕ) → players ≤ 10 → street ≤ 3 → IsDeal players deal → parts_of players % length (deals_at key number players deal street) ≡ 0
