use Rattle.std.proofs.Common.{◌≡◌, ◌<◌, false, nat_eq, length, take, arith, ap, ◌∙◌}
use Rattle.std.specs.List.{list_any}
use Rattle.std.proofs.lemmas.List.{take-set-le}
use Rattle.matchstate.proofs.Filled.{distinct_more, used_more}
use Rattle.matchstate.proofs.unused_cards.fill_up.Goals as goal

pub loop-place-preserved : goal.loop-place-preserved
loop-place-preserved c =
    let cards = c.loop-place.cards in
    let place = c.loop-place.place in
    let card = c.from_number.result in
    let is : card ≡ c.unused_number-number.result = c.from_number.ensures in
    let so_far = c.loop-place.invariant in
    let below : place < length cards = omega arith in
    let unused : list_any (λ other. nat_eq card other) (take place cards) ≡ false = ap (λ n. list_any (λ other. nat_eq n other) (take place cards)) is ∙ c.unused_number-number.ensures.unused in record {
      low = omega (arith, so_far.low);
      high = omega arith;
      kept = take-set-le c.args.count cards place card so_far.low ∙ so_far.kept;
      distinct = λ first. distinct_more cards place card below unused (so_far.distinct first);
      least = omega (arith, c.unused_number-number.ensures.within);
      used = used_more cards place card c.unused_number-number.result below is c.unused_number-number.ensures.used;
    }
