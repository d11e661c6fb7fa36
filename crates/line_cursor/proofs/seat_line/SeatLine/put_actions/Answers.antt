use Rattle.std.proofs.Common.{◌≤◌, ◌++◌, length, reverse, get_or, ap, sym, ◌∙◌, arith}
use Rattle.std.proofs.lemmas.List.{append-nil, take_all}
use Rattle.betting.specs.Text.{text}
use Rattle.matchstate.proofs.Texts.{text_none}
use Rattle.matchstate.proofs.Turns.{count_is, turn_more}
use Rattle.line_cursor.proofs.seat_line.SeatLine.put_actions.Goals as goal

pub loop-place-init : goal.loop-place-init
loop-place-init c = record {
  text = sym (ap (λ t. c.args.self.now ++ t) (text_none c.args.game.now) ∙ append-nil c.args.self.now);
  len = omega arith;
}

pub loop-place-preserved : goal.loop-place-preserved
loop-place-preserved c =
    let game = c.args.game.now in
    let actions = c.args.actions.now in
    let slashes = c.args.slashes.now in
    let place = c.loop-place.place in
    let test = c.loop-place-test.true in
    let count = count_is game actions slashes place c.requires.slashes c.slashes_stand_behind_actions.ensures test in
    record {
      text = turn_more game actions place c.args.self.now c.loop-place.self c.put_action.new.self (get_or slashes place 0) test count c.loop-place.invariant.text c.put_action.ensures.text;
      len = omega (arith, c.put_action.ensures.len, c.loop-place.invariant.len);
    }

pub returns-clause-text : goal.returns-clause-text
returns-clause-text c =
    let game = c.args.game.now in
    let actions = c.args.actions.now in
    let high : length actions ≤ c.loop-place.place = c.loop-place-test.false in
    c.loop-place.invariant.text ∙ ap (λ taken. c.args.self.now ++ text game (reverse taken)) (take_all c.loop-place.place actions high)
