use Rattle.std.proofs.Common.{refl}
use Rattle.node_wires.specs.declared.line.Line.TheVariants.{Peer}
use Rattle.node_peers.specs.Lines.{node_over}
use Rattle.node_peers.proofs.Fitting.{fresh_dialled}
use Rattle.node_peers.proofs.lines.Lines.dial.Goals as goal

pub begin-requires-clause-fresh : goal.begin-requires-clause-fresh
begin-requires-clause-fresh g c =
    let own = c.args.self.now.own in
    fresh_dialled own (Peer c.args.place) c.new-link.result c.call.result c.args.own c.new-link.ensures c.requires.ours (c.call.ensures.goes own (node_over c.args.place) refl) (c.call.ensures.speaks own (node_over c.args.place) refl)
