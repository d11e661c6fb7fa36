use Rattle.std.proofs.Common.{arith}
use Rattle.node_links.proofs.Fronting.{has_frame}
use Rattle.node_links.proofs.front.front_of.Goals as goal

pub returns-then-is_frame : goal.returns-then-is_frame
returns-then-is_frame c =
    let is = c.is_frame.ensures c.if-is_frame.true in
    has_frame c.args.bytes.now c.in-Some.end (λ i. omega (arith, c.type_inv.bytes i)) c.in-Some.ensures.end c.in-Some.ensures.there is.0 is.1
