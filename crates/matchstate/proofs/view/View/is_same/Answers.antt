use Rattle.std.proofs.Common.{◌≡◌, take, reverse, sym, ap, ◌∙◌, subst}
use Rattle.std.proofs.lemmas.List.{reverse-reverse}
use Rattle.matchstate.specs.Cards.{all_cards}
use Rattle.matchstate.specs.SeenCards.{holes_in, boards_in}
use Rattle.matchstate.specs.View.{View, IsView}
use Rattle.matchstate.proofs.SameView.{same_view}
use Rattle.matchstate.proofs.view.View.is_same.Goals as goal

pub returns : goal.returns
returns c =
    let first = c.args.self.now in
    let second = c.args.other.now in
    let is : IsView first = subst IsView c.self.view_is c.self.invariant.is_view in
    let other : IsView second = subst IsView c.other.view_is c.other.invariant.is_view in
    let positions : first.position ≡ second.position = sym (ap (λ (view : View). view.position) c.self.view_is) ∙ c.if-self-other.false ∙ ap (λ (view : View). view.position) c.other.view_is in
    let hands : first.hand ≡ second.hand = sym (ap (λ (view : View). view.hand) c.self.view_is) ∙ c.if-self-other-2.false ∙ ap (λ (view : View). view.hand) c.other.view_is in
    let taken : reverse first.past ≡ reverse second.past = sym c.actions.ensures ∙ c.are_same_actions.ensures.0 c.if-not-are_same_actions.false ∙ c.actions-2.ensures in
    let pasts : first.past ≡ second.past = sym (reverse-reverse first.past) ∙ ap reverse taken ∙ reverse-reverse second.past in
    let cards : take c.gather-cards.result.1 c.gather-cards.result.0 ≡ all_cards first.holes first.boards =
    c.gather-cards.ensures.value ∙ ap (λ k. all_cards (holes_in k c.self.inside.seen) (boards_in c.self.inside.seen)) c.players.ensures.value ∙ ap (λ (view : View). all_cards view.holes view.boards) c.self.view_is in
    let others : take c.gather-others.result.1 c.gather-others.result.0 ≡ all_cards second.holes second.boards =
    c.gather-others.ensures.value ∙ ap (λ k. all_cards (holes_in k c.other.inside.seen) (boards_in c.other.inside.seen)) c.players-2.ensures.value ∙ ap (λ (view : View). all_cards view.holes view.boards) c.other.view_is in (
      λ passed. same_view first second is other c.requires positions hands pasts (sym cards ∙ c.are_same_cards.ensures.0 passed ∙ others),
      λ same. c.are_same_cards.ensures.1 (cards ∙ ap (λ (view : View). all_cards view.holes view.boards) same ∙ sym others),
    )
