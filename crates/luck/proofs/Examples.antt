-- What is known, what is left, and what is drawn: figures that are known from elsewhere.
use Rattle.std.proofs.Common.{◌≡◌, [], ◌∷◌, refl, replicate, length}
use Rattle.rand_chacha.specs.Block.{block_word, double_rounds, column_round, diagonal_round, quarter_round}
use Rattle.rand_core.specs.Steps.{u32_at, stream_of}
use Rattle.rand_core.specs.Stream.{next_u32}
use Rattle.rand.specs.Shuffle.{narrow_swaps, rising, grow}
use Rattle.rand.specs.Uniform.{canon}
use Rattle.match_log.specs.BestFive.{choices}
use Rattle.luck.specs.Deals.{known_at, completions}
use Rattle.luck.specs.Draws.{stream_of_hand, drawn}
use Rattle.luck.specs.Left.{left_of}
use Rattle.luck.specs.Means.{parts_of}

pub parts_of_two_players : parts_of 2 ≡ 1980
parts_of_two_players = refl

pub parts_of_ten_players : parts_of 10 ≡ 812
parts_of_ten_players = refl

-- before the flop the hole cards of all players
pub known_before_the_flop : known_at 2 (0 ∷ 1 ∷ 2 ∷ 3 ∷ 4 ∷ 5 ∷ 6 ∷ 7 ∷ 8 ∷ []) 0 ≡ 0 ∷ 1 ∷ 2 ∷ 3 ∷ []
known_before_the_flop = refl

-- behind the turn four cards of the board too
pub known_behind_the_turn : known_at 2 (0 ∷ 1 ∷ 2 ∷ 3 ∷ 4 ∷ 5 ∷ 6 ∷ 7 ∷ 8 ∷ []) 2 ≡ 0 ∷ 1 ∷ 2 ∷ 3 ∷ 4 ∷ 5 ∷ 6 ∷ 7 ∷ []
known_behind_the_turn = refl

-- two players see eight cards behind the turn: 44 rivers are left
pub rivers_of_two_players : length (completions 2 (0 ∷ 1 ∷ 2 ∷ 3 ∷ 4 ∷ 5 ∷ 6 ∷ 7 ∷ [])) ≡ 44
unfolding completions choices left_of
rivers_of_two_players = refl

-- behind the river there is one deal
pub one_deal_behind_the_river : completions 2 (0 ∷ 1 ∷ 2 ∷ 3 ∷ 4 ∷ 5 ∷ 6 ∷ 7 ∷ 8 ∷ []) ≡ (0 ∷ 1 ∷ 2 ∷ 3 ∷ 4 ∷ 5 ∷ 6 ∷ 7 ∷ 8 ∷ []) ∷ []
unfolding completions choices left_of
one_deal_behind_the_river = refl

-- the first board of hand 0 under a key of zeros, where two players hold the deuces
pub first_board : (drawn (0 ∷ 1 ∷ 2 ∷ 3 ∷ []) (stream_of_hand (replicate 32 0) 0) 1).0 ≡ (0 ∷ 1 ∷ 2 ∷ 3 ∷ 19 ∷ 36 ∷ 17 ∷ 32 ∷ 48 ∷ []) ∷ []
unfolding drawn left_of narrow_swaps rising grow canon next_u32 stream_of u32_at block_word double_rounds column_round diagonal_round quarter_round
first_board = refl
