-- How blinds and stacks bound one another.
use Rattle.std.proofs.Common.{ℕ, ◌<◌, ◌≤◌, zero, suc, List, [], ◌∷◌, length, get_or, fold, max, arith}
use Rattle.std.specs.List.{AllByRecursion}
use Rattle.std.proofs.lemmas.List.Elements.{All-from_recursion, recursion_from_All, All-get_or, All-from_get_or}
use Rattle.game_def.specs.Game.{Game, IsGame, big_blind, blind_of, most_chips}

pub start_within : (start : ℕ) (xs : List ℕ) → start ≤ fold max start xs
start_within start [] = omega arith
start_within start (x ∷ xs) = omega (arith, start_within (max start x) xs)

pub each_within : (start : ℕ) (xs : List ℕ) (place : ℕ) → get_or xs place 0 ≤ fold max start xs
each_within start [] place = omega arith
each_within start (x ∷ xs) zero = omega (arith, start_within (max start x) xs)
each_within start (x ∷ xs) (suc place) = each_within (max start x) xs place

-- no blind is above the greatest
pub blind_within : (game : Game) (position : ℕ) → blind_of game position ≤ big_blind game
blind_within game position = each_within 0 game.blinds position

-- the greatest blind is below a stack, and so below the most chips
pub big_blind_within : (game : Game) → IsGame game → big_blind game < most_chips
big_blind_within game is =
    let first : 0 < length game.stacks = omega (arith, is.least_players, is.stack_each) in
    let above : big_blind game < get_or game.stacks 0 0 =
    All-get_or (λ stack. big_blind game < stack) game.stacks 0 0 first (All-from_recursion (λ stack. big_blind game < stack) game.stacks is.stacks_above) in
    let fits : get_or game.stacks 0 0 ≤ most_chips =
    All-get_or (λ stack. stack ≤ most_chips) game.stacks 0 0 first (All-from_recursion (λ stack. stack ≤ most_chips) game.stacks is.stacks_fit) in
    omega (arith, above, fits)

-- no blind is above the most chips
pub blinds_fit : (game : Game) → IsGame game → AllByRecursion (λ amount. amount ≤ most_chips) game.blinds
blinds_fit game is =
    recursion_from_All (λ amount. amount ≤ most_chips) game.blinds
    (All-from_get_or (λ amount. amount ≤ most_chips) game.blinds 0 (λ position within. omega (arith, blind_within game position, big_blind_within game is)))
