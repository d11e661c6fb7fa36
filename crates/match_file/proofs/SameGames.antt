-- Games that their readers answer alike are the same.
use Rattle.std.proofs.Common.{◌≡◌, ℕ, zero, suc, ◌<◌, List, [], ◌∷◌, length, get_or, Option, Some, None, refl, ap, ◌∙◌, arith}
use Rattle.std.specs.Prelude.{slice_index, IfSome}
use Rattle.std.specs.Option.{option_map}
use Rattle.game_def.specs.Game.{Game}

-- lists of one length that have the same at each place
pub lists_same : {A : Type 0} (xs ys : List A) → length xs ≡ length ys → ((k : ℕ) (d : A) → k < length xs → get_or xs k d ≡ get_or ys k d) → xs ≡ ys
lists_same [] [] long each = refl
lists_same [] (y ∷ ys) long each = absurd (omega (arith, long))
lists_same (x ∷ xs) [] long each = absurd (omega (arith, long))
lists_same (x ∷ xs) (y ∷ ys) long each =
    let head : x ≡ y = each 0 x (omega arith) in
    let tail : xs ≡ ys = lists_same xs ys (omega (arith, long)) (λ k d within. each (suc k) d (omega (arith, within))) in
    cc

-- numbers
pub numbers_same : (xs ys : List ℕ) (n : ℕ) → length xs ≡ n → length ys ≡ n → ((k : ℕ) → k < n → slice_index xs k ≡ slice_index ys k) → xs ≡ ys
numbers_same [] [] n one other each = refl
numbers_same [] (y ∷ ys) n one other each = absurd (omega (arith, one, other))
numbers_same (x ∷ xs) [] n one other each = absurd (omega (arith, one, other))
numbers_same (x ∷ xs) (y ∷ ys) zero one other each = absurd (omega (arith, one))
numbers_same (x ∷ xs) (y ∷ ys) (suc n) one other each =
    let head : x ≡ y = each 0 (omega arith) in
    let tail : xs ≡ ys = numbers_same xs ys n (omega (arith, one)) (omega (arith, other)) (λ k within. each (suc k) (omega (arith, within))) in
    cc

-- sizes of raises, of a game that has them or hasn't
pub sizes_same : (xs ys : Option (List ℕ)) → IfSome xs (λ sizes. length sizes ≡ 4) → IfSome ys (λ sizes. length sizes ≡ 4) → ((k : ℕ) → k < 4 → option_map (λ sizes. slice_index sizes k) xs ≡ option_map (λ sizes. slice_index sizes k) ys) → xs ≡ ys
sizes_same None None one other each = refl
sizes_same None (Some ys) one other each = absurd (let e : None ≡ Some (slice_index ys 0) = each 0 (omega arith) in cc)
sizes_same (Some xs) None one other each = absurd (let e : Some (slice_index xs 0) ≡ None = each 0 (omega arith) in cc)
sizes_same (Some xs) (Some ys) one other each =
    ap Some (numbers_same xs ys 4 one other (λ k within. let e : Some (slice_index xs k) ≡ Some (slice_index ys k) = each k within in cc))

abbrev made : ℕ → List ℕ → List ℕ → Option (List ℕ) → List ℕ → List ℕ → Game
made players stacks blinds sizes first raises = record { players = players; stacks = stacks; blinds = blinds; raise_sizes = sizes; first_players = first; max_raises = raises }

pub games_same : (a b : Game) → a.players ≡ b.players → (a.stacks ≡ b.stacks) × (a.blinds ≡ b.blinds) → (a.raise_sizes ≡ b.raise_sizes) × (a.first_players ≡ b.first_players) × (a.max_raises ≡ b.max_raises) → a ≡ b
games_same a b players chips rounds =
    ap (λ (n : ℕ). made n a.stacks a.blinds a.raise_sizes a.first_players a.max_raises) players
    ∙ (ap (λ (xs : List ℕ). made b.players xs a.blinds a.raise_sizes a.first_players a.max_raises) chips.0
    ∙ (ap (λ (xs : List ℕ). made b.players b.stacks xs a.raise_sizes a.first_players a.max_raises) chips.1
    ∙ (ap (λ (xs : Option (List ℕ)). made b.players b.stacks b.blinds xs a.first_players a.max_raises) rounds.0
    ∙ (ap (λ (xs : List ℕ). made b.players b.stacks b.blinds b.raise_sizes xs a.max_raises) rounds.1
    ∙ ap (λ (xs : List ℕ). made b.players b.stacks b.blinds b.raise_sizes b.first_players xs) rounds.2))))
