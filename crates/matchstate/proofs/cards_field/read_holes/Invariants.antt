use Rattle.std.proofs.Common.{◌≡◌, ℕ, ◌<◌, ◌≤◌, List, ◌++◌, cond, map, length, take, drop}
use Rattle.std.specs.List.{AllByRecursion, concat, range_with_len}
use Rattle.matchstate.specs.SeenCards.{hole_in, seen_at}
use Rattle.matchstate.proofs.Joined.{joined}
use Rattle.matchstate.proofs.cards_field.read_holes.Given as goal

abbrev pub invariant-loop-position : goal.invariant-loop-position
invariant-loop-position l =
    (length l.holes ≡ 10)
    × (l.position ≤ l.players)
    × (l.bytes ≡ joined 0 (map hole_in (take l.position l.holes)) ++ l.rest)
    × (map length (map hole_in (take l.position l.holes)) ≡ map (λ p. cond (seen_at l.sees p) 2 0) (range_with_len 0 l.position))
    × AllByRecursion (λ card. card < 52) (concat (map hole_in (take l.position l.holes)))
    × ((holes : List (List ℕ)) (behind : List ℕ) → map length holes ≡ map (λ p. cond (seen_at l.sees p) 2 0) (range_with_len 0 l.players) → AllByRecursion (λ card. card < 52) (concat holes) → l.bytes ≡ joined 0 holes ++ behind
    → (l.rest ≡ joined l.position (drop l.position holes) ++ behind) × (map hole_in (take l.position l.holes) ≡ take l.position holes))
