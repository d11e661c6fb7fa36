use Rattle.std.proofs.Common.{◌++◌, arith, ◌∙◌, ap}
use Rattle.dealer_node.specs.Texts.{Written}
use Rattle.dealer_node.specs.declared.reader.Reader.{Reader}
use Rattle.dealer_node.specs.declared.reader.Reader.TheVariants.{Seat}
use Rattle.dealer_node.proofs.Cutting.{HoldsAlso, put, added}
use Rattle.matchstate.specs.Line.{seat_text}
use Rattle.dealer_node.proofs.Printed.{line_printed}
use Rattle.dealer_node.proofs.lines.show_line.Goals as goal

put_line : (c : goal.After-push_reserved) → HoldsAlso c.push_reserved.new.self.items c.seat_line_reserved.new.out c.args.shown.now.texts (record { mark = Seat c.args.seat; text = seat_text c.args.table.now.game c.args.table.now.hands c.args.seat })
put_line c =
    let inside = c.shown.inside in
    put inside.runs.items c.push_reserved.new.self.items inside.bytes c.seat_line_reserved.new.out (seat_text c.args.table.now.game c.args.table.now.hands c.args.seat) (Seat c.args.seat) c.len-start.result c.len.result c.args.shown.now.texts
    c.shown.invariant (omega (arith, c.len-start.ensures)) (omega (arith, c.len.ensures)) c.push_reserved.ensures.items c.seat_line_reserved.ensures.items (ap (λ (w : Written Reader). w.texts) c.shown.view_is)

pub invariant_of-shown : goal.invariant_of-shown
invariant_of-shown c = (put_line c).0

pub returns-clause-texts : goal.returns-clause-texts
returns-clause-texts c = λ setting same.
    (put_line c).1 ∙ ap (λ p. c.args.shown.now.texts ++ p) (line_printed setting c.args.table.now.game c.args.table.now.hands c.args.seat same (omega (arith, c.dealt.ensures.value, c.if-dealt-eq0.false)))

pub returns-clause-grows : goal.returns-clause-grows
returns-clause-grows c = record {
  text_room = omega (arith, ap (λ (w : Written Reader). w.text_room) c.shown.view_is);
  byte_room = omega (arith, ap (λ (w : Written Reader). w.byte_room) c.shown.view_is);
  len = omega (arith, (put_line c).2);
  size = omega (arith, (put_line c).3, added c.shown.inside.bytes c.seat_line_reserved.new.out _ 4096 c.seat_line_reserved.ensures.items c.seat_line_reserved.ensures.len);
}
