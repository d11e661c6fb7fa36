use Rattle.dealer_kind.proofs.Ordering.{orders_play_for_the_next}
use Rattle.dealer_kind.proofs.laws.orders_play_for_the_next.Goals as goal

pub returns : goal.returns
returns c =
    orders_play_for_the_next c.fits_without_reason.ensures c.commands_make_hands.ensures c.away_is_legal.ensures.next c.away_is_legal.ensures.only
