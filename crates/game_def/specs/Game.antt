-- A game of 52-card Texas hold'em, as a game file defines it.
use Rattle.std.specs.Prelude.{◌≡◌, ℕ, ◌≤◌, ◌<◌, List, length, Option, fold, max, slice_index, IfSome}
use Rattle.std.specs.List.{AllByRecursion}
use Rattle.std.specs.Option.{option_map}

-- a game; amounts are whole chips, positions and rounds count from 0
pub record Game : Type 0 where
  pub players : ℕ
  -- of each position
  pub stacks : List ℕ
  pub blinds : List ℕ
  -- of each of the four rounds; none in a no-limit game
  pub raise_sizes : Option (List ℕ)
  -- of each round
  pub first_players : List ℕ
  pub max_raises : List ℕ

-- the greatest amount of a stack, a blind or a raise
abbrev pub most_chips : ℕ
most_chips = 2147483647

-- the stack of a position at the start of each hand
abbrev pub stack_of : Game → ℕ → ℕ
stack_of game position = slice_index game.stacks position

-- the blind of a position
abbrev pub blind_of : Game → ℕ → ℕ
blind_of game position = slice_index game.blinds position

-- the size of a round's raises in a limit game
abbrev pub raise_size_of : Game → ℕ → Option ℕ
raise_size_of game round = option_map (λ sizes. slice_index sizes round) game.raise_sizes

-- the greatest blind, the size of the smallest bet of a no-limit game
abbrev pub big_blind : Game → ℕ
big_blind game = fold max 0 game.blinds

-- what holds of every game
pub record IsGame (game : Game) : Type 0 where
  pub least_players : 2 ≤ game.players
  pub most_players : game.players ≤ 10
  pub stack_each : length game.stacks ≡ game.players
  pub blind_each : length game.blinds ≡ game.players
  pub stacks_fit : AllByRecursion (λ stack. stack ≤ most_chips) game.stacks
  pub stacks_above : AllByRecursion (λ stack. big_blind game < stack) game.stacks
  pub some_blind : 1 ≤ big_blind game
  pub four_sizes : IfSome game.raise_sizes (λ sizes. length sizes ≡ 4)
  pub sizes_fit : IfSome game.raise_sizes (AllByRecursion (λ size. size ≤ most_chips))
  pub some_size : IfSome game.raise_sizes (AllByRecursion (λ size. 1 ≤ size))
  pub first_each : length game.first_players ≡ 4
  pub firsts_play : AllByRecursion (λ first. first < game.players) game.first_players
  pub raises_each : length game.max_raises ≡ 4
  pub raises_fit : AllByRecursion (λ raises. raises ≤ 255) game.max_raises
