use Rattle.std.proofs.Common.{◌≡◌, ◌<◌, Some, None, refl, sym, ap, ◌∙◌, subst}
use Rattle.game_def.specs.Game.{Game}
use Rattle.card_core.specs.Deal.{IsDeal}
use Rattle.matchstate.specs.SeatHand.{view_in_hand}
use Rattle.matchstate.proofs.seating.seat_view.Goals as goal

pub view_of_hand-requires-clause-below : goal.view_of_hand-requires-clause-below
view_of_hand-requires-clause-below c = let at = c.in_ok-at.at in subst (λ (g : Game). at.position < g.players) (sym c.in_ok-at.ensures.some.same_game) c.in_ok-at.ensures.some.below

pub view_of_hand-requires-clause-number : goal.view_of_hand-requires-clause-number
view_of_hand-requires-clause-number c = c.in_ok-at.ensures.some.number

pub view_of_hand-requires-clause-dealt : goal.view_of_hand-requires-clause-dealt
view_of_hand-requires-clause-dealt c = let at = c.in_ok-at.at in subst (λ (g : Game). IsDeal g.players at.deal.now) (sym c.in_ok-at.ensures.some.same_game) c.in_ok-at.ensures.some.dealt

pub returns-in_err-at : goal.returns-in_err-at
returns-in_err-at c =
    let none : c.from_residual.result ≡ None = let e = c.from_residual.ensures in let f = c.in_err-at.is in cc in
    none ∙ sym (c.in_err-at.ensures.none refl)

pub returns : goal.returns
returns c =
    let at = c.in_ok-at.at in
    let some = c.in_ok-at.ensures.some in
    ap Some (c.view_of_hand.ensures ∙ ap (λ (g : Game). view_in_hand g at) some.same_game) ∙ sym some.current
