-- What a look at seven cards keeps of them: the ranks that come once, twice, three and four times.
use Rattle.std.specs.Prelude.{◌≡◌, ℕ, ◌<◌, ◌≤◌, ◌&&◌, ◌==◌, List, length, nat_eq}
use Rattle.std.specs.List.{count_by, All, IsDistinct}
use Rattle.card_core.specs.Card.{rank_of, suit_of}
use Rattle.hand_rank.specs.Best.{IsFiveOf}
use Rattle.hand_rank.specs.Five.{rank_count, worth_of_five}
use Rattle.hand_rank.specs.Ranks.{IsAtLeast}
use Rattle.hand_rank.specs.declared.profile.Profile.{Profile}

-- seven cards of one pack
pub record IsSeven (cards : List ℕ) : Type 0 where
  pub count : length cards ≡ 7
  pub distinct : IsDistinct nat_eq cards
  pub ranks : All (λ card. rank_of card < 13) cards

-- the sets of a profile are those of the cards' ranks
pub record IsProfileOf (profile : Profile) (cards : List ℕ) : Type 0 where
  pub once : IsAtLeast profile.once.bits 1 (rank_count cards)
  pub twice : IsAtLeast profile.twice.bits 2 (rank_count cards)
  pub thrice : IsAtLeast profile.thrice.bits 3 (rank_count cards)
  pub four : IsAtLeast profile.four.bits 4 (rank_count cards)

-- how many of the cards have this suit and this rank
abbrev pub suited_count : List ℕ → ℕ → ℕ → ℕ
suited_count cards suit rank = count_by (λ card. (suit_of card == suit) && (rank_of card == rank)) cards

-- no five of the cards are of a higher category
abbrev pub IsNoneAbove : List ℕ → ℕ → Type 0
IsNoneAbove cards category = (five : List ℕ) → IsFiveOf cards five → (worth_of_five five).category ≤ category
