use Rattle.std.proofs.Common.{◌++◌, arith, ◌∙◌, ap}
use Rattle.dealer_node.specs.Texts.{Written}
use Rattle.dealer_node.specs.declared.reader.Reader.{Reader}
use Rattle.dealer_node.specs.declared.reader.Reader.TheVariants.{Log}
use Rattle.dealer_node.proofs.Cutting.{HoldsAlso, put, added}
use Rattle.match_log.specs.Lines.{header_line}
use Rattle.dealer_node.proofs.Printed.{header_printed}
use Rattle.dealer_node.proofs.lines.show_header.Goals as goal

put_header : (c : goal.After-push_reserved) → HoldsAlso c.push_reserved.new.self.items c.header_reserved.new.out c.args.shown.now.texts (record { mark = Log; text = header_line c.as_bytes.result.now c.game_word.result.now c.hands.result })
put_header c =
    let inside = c.shown.inside in
    put inside.runs.items c.push_reserved.new.self.items inside.bytes c.header_reserved.new.out (header_line c.as_bytes.result.now c.game_word.result.now c.hands.result) Log c.len-start.result c.len.result c.args.shown.now.texts
    c.shown.invariant (omega (arith, c.len-start.ensures)) (omega (arith, c.len.ensures)) c.push_reserved.ensures.items c.header_reserved.ensures.items (ap (λ (w : Written Reader). w.texts) c.shown.view_is)

pub invariant_of-shown : goal.invariant_of-shown
invariant_of-shown c = (put_header c).0

pub returns-clause-texts : goal.returns-clause-texts
returns-clause-texts c =
    (put_header c).1 ∙ ap (λ p. c.args.shown.now.texts ++ p) (header_printed c.args.member.now.setting c.as_bytes.result.now c.game_word.result.now c.hands.result (c.as_bytes.ensures.value ∙ c.name.ensures) c.game_word.ensures c.hands.ensures.value)

pub returns-clause-len : goal.returns-clause-len
returns-clause-len c = omega (arith, (put_header c).2)

pub returns-clause-size : goal.returns-clause-size
returns-clause-size c =
    omega (arith, (put_header c).3, added c.shown.inside.bytes c.header_reserved.new.out _ 263 c.header_reserved.ensures.items c.header_reserved.ensures.len)
