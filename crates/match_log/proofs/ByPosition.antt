-- Lists made by position, one more each time.
use Rattle.std.proofs.Common.{◌≡◌, ℕ, ◌+◌, ◌<◌, ◌≤◌, List, [], ◌∷◌, ◌++◌, length, map, set, take, ◌∙◌, ap, arith}
use Rattle.std.specs.List.{All, range_with_len}
use Rattle.std.proofs.lemmas.List.{take_more_set}
use Rattle.std.proofs.lemmas.List.Elements.{All-append, All-from_recursion, All-get_or}
use Rattle.game_def.specs.Game.{Game, IsGame, stack_of, most_chips}
use Rattle.side_pots.proofs.OddChips.{push_range}

-- the next place of an array filled by position
pub fill_range : {X : Type 0} (f : ℕ → X) (xs : List X) (i : ℕ) (x : X) → i < length xs → take i xs ≡ map f (range_with_len 0 i) → x ≡ f i → take (i + 1) (set xs i x) ≡ map f (range_with_len 0 (i + 1))
fill_range f xs i x within so_far read = take_more_set xs i x within ∙ push_range f (take i xs) i x so_far read

-- what holds of all and of one more
pub all_and_one : {X : Type 0} (P : X → Type 0) (xs : List X) (x : X) → All P xs → P x → All P (xs ++ x ∷ [])
all_and_one {X} P xs x all one = All-append P xs (x ∷ []) all (All-from_recursion P (x ∷ []) (one, tt))

pub stack_fits : (game : Game) (position : ℕ) → IsGame game → position < game.players → stack_of game position ≤ most_chips
stack_fits game position is within =
    All-get_or (λ stack. stack ≤ most_chips) game.stacks position 0 (omega (arith, is.stack_each)) (All-from_recursion (λ stack. stack ≤ most_chips) game.stacks is.stacks_fit)

-- a list made for all positions
pub whole_range : {X : Type 0} (f : ℕ → X) (items : List X) (i n : ℕ) → items ≡ map f (range_with_len 0 i) → i ≡ n → items ≡ map f (range_with_len 0 n)
whole_range f items i n so_far same = so_far ∙ ap (λ k. map f (range_with_len 0 k)) same
