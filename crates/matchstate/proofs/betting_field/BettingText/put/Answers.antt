use Rattle.std.proofs.Common.{◌≤◌, ◌++◌, length, reverse, get_or, ap, sym, ◌∙◌, arith}
use Rattle.std.proofs.lemmas.List.{append-nil, take_all}
use Rattle.betting.specs.Text.{text}
use Rattle.matchstate.proofs.Texts.{text_none}
use Rattle.matchstate.proofs.Turns.{count_is, turn_more}
use Rattle.matchstate.proofs.betting_field.BettingText.put.Goals as goal

pub loop-place-init : goal.loop-place-init
loop-place-init c = record {
  items = sym (ap (λ t. c.args.out.now.items ++ t) (text_none c.self.inside.game.now) ∙ append-nil c.args.out.now.items);
  len = omega arith;
  capacity = omega arith;
}

pub loop-place-preserved : goal.loop-place-preserved
loop-place-preserved c =
    let game = c.self.inside.game.now in
    let actions = c.self.inside.actions.now in
    let place = c.loop-place.place in
    let test = c.loop-place-test.true in
    let count = count_is game actions c.self.inside.slashes.now place c.self.invariant.slashes c.slashes_stand_behind_actions.ensures test in
    record {
      items = turn_more game actions place c.args.out.now.items c.loop-place.out.items c.put_action.new.out.items (get_or c.self.inside.slashes.now place 0) test count c.loop-place.invariant.items c.put_action.ensures.items;
      len = omega (arith, c.put_action.ensures.len, c.loop-place.invariant.len);
      capacity = omega (arith, c.put_action.ensures.capacity, c.loop-place.invariant.capacity);
    }

pub returns-clause-items : goal.returns-clause-items
returns-clause-items c =
    let game = c.self.inside.game.now in
    let actions = c.self.inside.actions.now in
    let high : length actions ≤ c.loop-place.place = c.loop-place-test.false in
    c.loop-place.invariant.items ∙ ap (λ taken. c.args.out.now.items ++ text game (reverse taken)) (take_all c.loop-place.place actions high) ∙ ap (λ t. c.args.out.now.items ++ t) c.self.view_is
