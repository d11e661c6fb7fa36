use Rattle.std.proofs.Common.{◌≡◌, ◌<◌, ◌≤◌, ℕ, true, nat_eq, take}
use Rattle.std.specs.List.{IsDistinct, list_any}
use Rattle.matchstate.proofs.unused_cards.fill_up.Given as goal

abbrev pub invariant-loop-place : goal.invariant-loop-place
invariant-loop-place l = record {
  low : l.count ≤ l.place;
  high : l.place ≤ l.end;
  kept : take l.count l.cards ≡ take l.count l.initial.cards;
  distinct : IsDistinct nat_eq (take l.count l.initial.cards) → IsDistinct nat_eq (take l.place l.cards);
  least : l.least ≤ 52;
  used : (number : ℕ) → number < l.least → list_any (λ card. nat_eq number card) (take l.place l.cards) ≡ true;
}
