use Rattle.std.proofs.Common.{◌<◌, ℕ, List, [], get_or, length, ap, ◌∙◌, arith}
use Rattle.std.proofs.lemmas.List.{get_or_default, length-set}
use Rattle.matchstate.specs.View.{position_of}
use Rattle.match_log.proofs.ByPosition.{fill_range}
use Rattle.match_log.proofs.seats.by_seat.Goals as goal

pub loop-seat-preserved : goal.loop-seat-preserved
loop-seat-preserved c =
    let names : List (List ℕ) = c.args.by_position.now in
    let within : c.position_of.result < length names = omega (arith, c.position_of.ensures.below, c.requires.most, c.type_inv.by_position) in
    let place : c.loop-seat.seat < length c.loop-seat.seats = omega (arith, c.loop-seat.invariant.places, c.requires.most) in
    record {
      places = length-set c.loop-seat.seats c.loop-seat.seat _ ∙ c.loop-seat.invariant.places;
      so_far =
          fill_range (λ seat. get_or names (position_of c.args.players c.args.hand seat) []) c.loop-seat.seats c.loop-seat.seat _ place c.loop-seat.invariant.so_far
          (get_or_default names c.position_of.result c.index-by_position-position_of.result [] within ∙ ap (λ p. get_or names p []) c.position_of.ensures.value);
    }
