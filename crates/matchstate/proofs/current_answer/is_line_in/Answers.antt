use Rattle.std.proofs.Common.{◌≡◌, ℕ, List, refl, sym, ap, ◌∙◌, subst}
use Rattle.std.proofs.lemmas.Bool.{false≢true}
use Rattle.game_def.specs.Game.{IsGame}
use Rattle.matchstate.specs.Cards.{all_cards, holes_seen}
use Rattle.matchstate.specs.Line.{IsLine}
use Rattle.matchstate.specs.SeatHand.{view_in_hand}
use Rattle.matchstate.specs.SeenCards.{holes_in, boards_in}
use Rattle.matchstate.specs.View.{View, sees}
use Rattle.matchstate.proofs.OneLine.{lines_say_one_view}
use Rattle.matchstate.proofs.OneSight.{seat_sight, line_of_seat, cards_of_seat}
use Rattle.matchstate.proofs.current_answer.is_line_in.Goals.{then-line-at-via-then-line-at, then-line-at-via-else-line-at+then-line-at-2}
use Rattle.matchstate.proofs.current_answer.is_line_in.Goals as goal

pub returns-in_default : goal.returns-in_default
returns-in_default c =
    let at = c.args.at.now in (
      λ t. absurd (false≢true t),
      λ line. absurd (c.in_default.ensures.missing refl (view_in_hand at.play.now.game at) refl line),
    )

pub returns-then-line-at : goal.returns-then-line-at
returns-then-line-at c =
    let at = c.args.at.now in
    let game = at.play.now.game in
    let line = c.in-Some.line in
    let own : View = record { game = game; position = line.position; hand = line.hand; past = at.play.now.past; holes = holes_in game.players line.seen; boards = boards_in line.seen } in
    let seat : View = view_in_hand game at in
    let found : IsLine game c.args.bytes.now own = c.in-Some.ensures.found in
    let is : IsGame game = subst IsGame c.game.ensures c.limits.ensures in (
      λ t. absurd (false≢true t),
      λ other.
          let one : own ≡ seat = lines_say_one_view game c.args.bytes.now own seat is found other in
          absurd (
          elim c.then-line-at.branch [
            | then-line-at-via-then-line-at w ↦ w.if-line-at.true (ap (λ (v : View). v.position) one)
            | then-line-at-via-else-line-at+then-line-at-2 w ↦ w.if-line-at-2.true (ap (λ (v : View). v.hand) one)
          ]
          ),
    )

pub returns : goal.returns
returns c =
    let at = c.args.at.now in
    let game = at.play.now.game in
    let line = c.in-Some.line in
    let own : View = record { game = game; position = line.position; hand = line.hand; past = at.play.now.past; holes = holes_in game.players line.seen; boards = boards_in line.seen } in
    let seat : View = view_in_hand game at in
    let found : IsLine game c.args.bytes.now own = c.in-Some.ensures.found in
    let sight = seat_sight game at c.requires.below c.requires.number c.requires.dealt found.betting.legal in
    let is : IsGame game = subst IsGame c.game.ensures c.limits.ensures in
    let seen = c.sight-seen.result in
    let mine : all_cards (holes_in c.players.result line.seen) (boards_in line.seen) ≡ all_cards own.holes own.boards =
    ap (λ k. all_cards (holes_in k line.seen) (boards_in line.seen)) c.players.ensures.value in
    let theirs : all_cards (holes_in c.players.result seen) (boards_in seen) ≡ all_cards seat.holes seat.boards =
    ap (λ k. all_cards (holes_in k seen) (boards_in seen)) c.players.ensures.value
    ∙ ap (λ (hs : List (List ℕ)). all_cards hs (boards_in seen)) c.sight-seen.ensures.holes
    ∙ ap (all_cards (holes_seen game.players (sees game at.play.now.past at.position) at.deal.now)) c.sight-seen.ensures.boards in (
      λ t. line_of_seat game c.args.bytes.now own seat found sight refl c.if-line-at.false c.if-line-at-2.false refl (sym mine ∙ c.are_same_seen.ensures.0 t ∙ theirs),
      λ other. c.are_same_seen.ensures.1 (mine ∙ cards_of_seat game c.args.bytes.now own seat is found other ∙ sym theirs),
    )
