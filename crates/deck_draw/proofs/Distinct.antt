-- The pack has each card once, and so has a beginning of it in any order.
use Rattle.std.proofs.Common.{◌≡◌, ◌≤◌, ℕ, List, [], length, take, nat_eq, arith, rules}
use Rattle.std.specs.List.{IsDistinct}
use Rattle.std.specs.Prelude.{IsPermutation}
use Rattle.std.proofs.lemmas.Map.Keys.{IsDistinct-IsPermutation}
use Rattle.std.proofs.lemmas.Cmp.{nat_eq_equiv}
use Rattle.std.proofs.lemmas.List.Sorted.{length_permutation}
use Rattle.std.proofs.lemmas.List.{length-take-le}
use Rattle.deck_draw.specs.Deck.{pack}
use Rattle.card_core.proofs.Distinct.{IsDistinct-take}

IsDistinct-empty : IsDistinct nat_eq []
unfolding IsDistinct
IsDistinct-empty = tt

pack-distinct : IsDistinct nat_eq pack
unfolding IsDistinct
pack-distinct = search rules

pub drawn_cards :
    (n : ℕ) (deck : List ℕ) → IsPermutation pack deck → n ≤ 52 →
    (length (take n deck) ≡ n) × IsDistinct nat_eq (take n deck)
drawn_cards n deck moved h =
    let count : length deck ≡ 52 = length_permutation pack deck moved in (
      length-take-le n deck (omega arith),
      IsDistinct-take nat_eq n deck (IsDistinct-IsPermutation nat_eq nat_eq_equiv.symm pack deck moved pack-distinct),
    )
