use Rattle.std.proofs.Common.{◌≡◌, ◌<◌, ℕ, true, nat_eq}
use Rattle.std.specs.List.{list_any}
use Rattle.matchstate.proofs.unused_cards.unused_number.Given as goal

abbrev pub invariant-loop-number : goal.invariant-loop-number
invariant-loop-number l = (k : ℕ) → k < l.number → list_any (λ card. nat_eq k card) l.cards ≡ true
