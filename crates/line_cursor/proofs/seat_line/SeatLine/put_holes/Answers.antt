use Rattle.std.proofs.Common.{ℕ, ◌++◌, cond, Bool, List, [], ap, ◌∙◌, arith}
use Rattle.card_core.specs.Deal.{hole_of}
use Rattle.matchstate.specs.Cards.{cards_text}
use Rattle.matchstate.specs.View.{sees}
use Rattle.line_cursor.proofs.HoleTexts.{holes_more}
use Rattle.line_cursor.proofs.seat_line.SeatLine.put_holes.Goals as goal

pub loop-position-preserved : goal.loop-position-preserved
loop-position-preserved c =
    let play = c.args.play.now in
    let deal = c.args.deal.now in
    let position = c.loop-position.position in
    let hole : ℕ → List ℕ = λ p. cond (sees play.game play.past c.args.viewer p) (hole_of deal p) [] in
    let shown = c.put_hole.ensures.text ∙ ap (λ (b : Bool). c.put_separator.new.self ++ cards_text (cond b (hole_of deal position) [])) c.is_in_sight.ensures in
    let test = c.loop-position-test.true in
    let most = c.players-position-end.ensures.most in
    record {
      text = holes_more hole position c.args.self.now c.loop-position.self c.put_separator.new.self c.put_hole.new.self c.loop-position.invariant.text c.put_separator.ensures.text shown;
      len = omega (arith, c.put_hole.ensures.len, c.put_separator.ensures.len, c.loop-position.invariant.len);
      few = omega (arith, test, most);
    }
