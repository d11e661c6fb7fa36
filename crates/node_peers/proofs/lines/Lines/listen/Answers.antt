use Rattle.std.proofs.Common.{refl}
use Rattle.node_wires.specs.declared.line.Line.TheVariants.{Caller}
use Rattle.node_peers.proofs.Fitting.{fresh_caller}
use Rattle.node_peers.proofs.lines.Lines.listen.Goals as goal

pub begin-requires-clause-fresh : goal.begin-requires-clause-fresh
begin-requires-clause-fresh c =
    fresh_caller c.count_unheard.new.self.own (Caller c.args.number) c.new-link.result c.listen.result c.new-link.ensures (c.listen.ensures.goes c.count_unheard.new.self.own refl) (c.listen.ensures.speaks c.count_unheard.new.self.own refl)
