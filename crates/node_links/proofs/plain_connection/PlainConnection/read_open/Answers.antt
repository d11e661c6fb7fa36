use Rattle.std.proofs.Common.{ℕ, List, subst}
use Rattle.node_links.specs.Fronts.{HasFrame}
use Rattle.node_links.proofs.Fronting.{reads_frame}
use Rattle.node_links.proofs.plain_connection.PlainConnection.read_open.Goals as goal

pub returns-in-Frame : goal.returns-in-Frame
returns-in-Frame c = λ other at.
    reads_frame c.args.self.now c.take_frame.new.self c.in-Frame.end c.take_frame.new.frame other (subst (λ (w : List ℕ). HasFrame w c.in-Frame.end) c.waiting.ensures c.in-Frame.ensures) c.take_frame.ensures.waiting c.take_frame.ensures.others
    c.take_frame.ensures.frame at
