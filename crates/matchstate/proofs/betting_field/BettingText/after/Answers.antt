use Rattle.std.proofs.Common.{◌≡◌, ◌≤◌, ◌++◌, length, reverse, take, ap, sym, ◌∙◌}
use Rattle.std.proofs.lemmas.List.{drop_all, take_all}
use Rattle.betting.specs.Text.{text}
use Rattle.matchstate.proofs.Behind.{later_text, text_later}
use Rattle.matchstate.proofs.Missing.{missing}
use Rattle.matchstate.proofs.Texts.{text_none}
use Rattle.matchstate.proofs.Turns.{count_is, front_more, next_first}
use Rattle.matchstate.proofs.betting_field.BettingText.after.Goals as goal

pub loop-place-init : goal.loop-place-init
loop-place-init c = record {
  found = ap (λ t. t ++ c.args.bytes.now) (sym (text_none c.self.inside.game.now));
  only = λ behind is. is ∙ ap (λ t. t ++ behind) (text_later c.self.inside.game.now c.self.inside.actions.now);
}

pub returns-in_err-rest-clause-only : goal.returns-in_err-rest-clause-only
returns-in_err-rest-clause-only c =
    λ behind is.
    let game = c.self.inside.game.now in
    let actions = c.self.inside.actions.now in
    let place = c.loop-place.place in
    let test = c.loop-place-test.true in
    let count = count_is game actions c.self.inside.slashes.now place c.self.invariant.slashes c.slashes_stand_behind_actions.ensures test in
    let whole : c.args.bytes.now ≡ text game (reverse actions) ++ behind = is ∙ ap (λ t. t ++ behind) (sym c.self.view_is) in
    absurd (missing _ c.in_err-rest.was (c.after_turn.ensures.only _ (next_first game actions place c.loop-place.rest.now behind _ test count (c.loop-place.invariant.only behind whole))))

pub loop-place-preserved : goal.loop-place-preserved
loop-place-preserved c =
    let game = c.self.inside.game.now in
    let actions = c.self.inside.actions.now in
    let place = c.loop-place.place in
    let test = c.loop-place-test.true in
    let count = count_is game actions c.self.inside.slashes.now place c.self.invariant.slashes c.slashes_stand_behind_actions.ensures test in
    record {
      found = front_more game actions place c.args.bytes.now c.loop-place.rest.now c.in_ok-rest.rest.now _ test count c.loop-place.invariant.found c.in_ok-rest.ensures.found;
      only = λ behind is. c.in_ok-rest.ensures.only _ (next_first game actions place c.loop-place.rest.now behind _ test count (c.loop-place.invariant.only behind is));
    }

pub returns-clause-found : goal.returns-clause-found
returns-clause-found c =
    let game = c.self.inside.game.now in
    let actions = c.self.inside.actions.now in
    let high : length actions ≤ c.loop-place.place = c.loop-place-test.false in
    c.loop-place.invariant.found ∙ ap (λ taken. text game (reverse taken) ++ c.loop-place.rest.now) (take_all c.loop-place.place actions high) ∙ ap (λ t. t ++ c.loop-place.rest.now) c.self.view_is

pub returns-clause-only : goal.returns-clause-only
returns-clause-only c =
    λ behind is.
    let game = c.self.inside.game.now in
    let actions = c.self.inside.actions.now in
    let high : length actions ≤ c.loop-place.place = c.loop-place-test.false in
    let whole : c.args.bytes.now ≡ text game (reverse actions) ++ behind = is ∙ ap (λ t. t ++ behind) (sym c.self.view_is) in
    c.loop-place.invariant.only behind whole ∙ ap (λ left. later_text game (reverse (take c.loop-place.place actions)) left ++ behind) (drop_all c.loop-place.place actions high)
