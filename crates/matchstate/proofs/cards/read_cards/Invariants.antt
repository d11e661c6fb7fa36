use Rattle.std.proofs.Common.{◌≡◌, ℕ, ◌*◌, ◌<◌, ◌≤◌, List, ◌++◌, length, take, drop}
use Rattle.std.specs.List.{AllByRecursion}
use Rattle.matchstate.specs.Cards.{cards_text}
use Rattle.matchstate.proofs.cards.read_cards.Given as goal

abbrev pub invariant-loop-place : goal.invariant-loop-place
invariant-loop-place g l =
    (length l.cards ≡ g.row.N)
    × (l.place ≤ g.row.N)
    × (l.rest ≡ drop (2 * l.place) l.bytes)
    × (l.bytes ≡ cards_text (take l.place l.cards) ++ l.rest)
    × AllByRecursion (λ card. card < 52) (take l.place l.cards)
    × ((cards behind : List ℕ) → length cards ≡ g.row.N → AllByRecursion (λ card. card < 52) cards → l.bytes ≡ cards_text cards ++ behind → (l.rest ≡ cards_text (drop l.place cards) ++ behind) × (take l.place l.cards ≡ take l.place cards))
