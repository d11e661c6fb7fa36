use Rattle.std.proofs.Common.{length, ap, sym, arith}
use Rattle.matchstate.specs.Line.{IsLine, line_text}
use Rattle.seat_relay.proofs.laws.lines_of_views_are_placed.Goals as goal

pub returns : goal.returns
returns c = λ view game is.
    let line : IsLine view.game (line_text view) view = c.a_view_has_one_line.ensures.text view game is in
    let most = line.numbers.hand_most in
    record { fields = line.fields; has_fields = line.has_fields; hand_text = line.numbers.hand_text; hand_below = omega arith; betting_len = ap length (sym line.betting.betting_text) }
