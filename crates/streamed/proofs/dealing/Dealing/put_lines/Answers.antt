use Rattle.std.proofs.Common.{ap, sym, ◌∙◌, ◌++◌, append_assoc, rules}
use Rattle.std.specs.List.{flat_map, range_with_len}
use Rattle.streamed.specs.Answer.{line_for}
use Rattle.streamed.proofs.Telling.{one_more}
use Rattle.streamed.proofs.dealing.Dealing.put_lines.Goals as goal

pub loop-seat-preserved : goal.loop-seat-preserved
loop-seat-preserved c =
    let f = line_for c.args.self.now.table.game c.args.self.now.table.hands in
    let before = flat_map f (range_with_len 0 c.loop-seat.seat) in
    c.in_ok-put_line.ensures ∙ ap (λ z. z ++ f c.loop-seat.seat) c.loop-seat.invariant
    ∙ append_assoc c.args.out.now.items before (f c.loop-seat.seat)
    ∙ ap (λ z. c.args.out.now.items ++ z) (sym (one_more f c.loop-seat.seat))

pub loop-seat-init : goal.loop-seat-init
loop-seat-init c = search rules
