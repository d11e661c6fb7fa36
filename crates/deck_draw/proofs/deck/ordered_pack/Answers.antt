use Rattle.std.proofs.Common.{◌≡◌, ◌<◌, ◌∙◌, get_or, arith, sym}
use Rattle.std.proofs.lemmas.Grind.{same_number_lists}
use Rattle.std.proofs.lemmas.List.FromFn.{get_or-range_with_len}
use Rattle.deck_draw.proofs.deck.ordered_pack.Goals as goal
use Rattle.deck_draw.specs.Deck.{pack}

pub returns : goal.returns
returns c =
    same_number_lists _ _ c.loop-number.invariant.full
    (λ k h.
    let below : k < 52 = omega arith in
    let ordered : get_or pack k 0 ≡ k = get_or-range_with_len 0 52 k 0 below ∙ omega arith in
    c.loop-number.invariant.so_far k (omega arith) ∙ sym ordered)
