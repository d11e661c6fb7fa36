use Rattle.std.proofs.Common.{ℕ, arith, ap}
use Rattle.dealer_node.specs.Texts.{Written}
use Rattle.dealer_node.proofs.Cutting.{HoldsAlso, put}
use Rattle.paxos_wire.specs.Spelling.{frame}
use Rattle.dealer_node.proofs.sending.send.Goals as goal

put_frame : (c : goal.After-push_reserved) → HoldsAlso c.push_reserved.new.self.items c.encode_reserved.new.out c.args.frames.now.texts (record { mark = c.args.to; text = frame c.args.message.now })
put_frame c =
    let inside = c.frames.inside in
    put inside.runs.items c.push_reserved.new.self.items inside.bytes c.encode_reserved.new.out (frame c.args.message.now) c.args.to c.len-start.result c.len.result c.args.frames.now.texts
    c.frames.invariant (omega (arith, c.len-start.ensures)) (omega (arith, c.len.ensures)) c.push_reserved.ensures.items c.encode_reserved.ensures.frame (ap (λ (w : Written ℕ). w.texts) c.frames.view_is)

pub invariant_of-frames : goal.invariant_of-frames
invariant_of-frames c = (put_frame c).0

pub returns-clause-texts : goal.returns-clause-texts
returns-clause-texts c = (put_frame c).1

pub returns-clause-grows : goal.returns-clause-grows
returns-clause-grows c = record { text_room = omega (arith, ap (λ (w : Written ℕ). w.text_room) c.frames.view_is); byte_room = omega (arith, ap (λ (w : Written ℕ). w.byte_room) c.frames.view_is); len = omega (arith, (put_frame c).2); size = omega (arith, (put_frame c).3) }
