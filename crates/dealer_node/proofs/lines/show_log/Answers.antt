use Rattle.std.proofs.Common.{◌++◌, arith, sym, ◌∙◌, ap}
use Rattle.dealer_node.specs.Texts.{Written}
use Rattle.dealer_node.specs.declared.reader.Reader.{Reader}
use Rattle.dealer_node.specs.declared.reader.Reader.TheVariants.{Log}
use Rattle.dealer_node.proofs.Cutting.{HoldsAlso, put, added}
use Rattle.match_log.specs.Further.{further_lines}
use Rattle.dealer_node.proofs.Printed.{log_printed}
use Rattle.dealer_node.proofs.lines.show_log.Goals as goal

put_log : (c : goal.After-push_reserved) → HoldsAlso c.push_reserved.new.self.items c.further_lines_reserved.new.out c.args.shown.now.texts (record { mark = Log; text = further_lines c.args.table.now.game c.args.table.now.count c.names.result.now c.args.table.now.hands })
put_log c =
    let inside = c.shown.inside in
    put inside.runs.items c.push_reserved.new.self.items inside.bytes c.further_lines_reserved.new.out (further_lines c.args.table.now.game c.args.table.now.count c.names.result.now c.args.table.now.hands) Log c.len-start.result c.len.result c.args.shown.now.texts
    c.shown.invariant (omega (arith, c.len-start.ensures)) (omega (arith, c.len.ensures)) c.push_reserved.ensures.items c.further_lines_reserved.ensures.items (ap (λ (w : Written Reader). w.texts) c.shown.view_is)

pub invariant_of-shown : goal.invariant_of-shown
invariant_of-shown c = (put_log c).0

pub returns-clause-texts : goal.returns-clause-texts
returns-clause-texts c =
    (put_log c).1 ∙ ap (λ p. c.args.shown.now.texts ++ p) (log_printed c.args.member.now.setting c.args.table.now.game c.args.table.now.count c.names.result.now c.args.table.now.hands c.requires.game c.requires.count c.names.ensures.value (sym c.running.ensures ∙ c.if-running.false))

pub returns-clause-grows : goal.returns-clause-grows
returns-clause-grows c = record {
  text_room = omega (arith, ap (λ (w : Written Reader). w.text_room) c.shown.view_is);
  byte_room = omega (arith, ap (λ (w : Written Reader). w.byte_room) c.shown.view_is);
  len = omega (arith, (put_log c).2);
  size = omega (arith, (put_log c).3, added c.shown.inside.bytes c.further_lines_reserved.new.out _ 4756 c.further_lines_reserved.ensures.items c.further_lines_reserved.ensures.len);
}
