use Rattle.std.proofs.Common.{List, ap, subst, sym}
use Rattle.node_wires.specs.Passages.{Passage, wrote_over}
use Rattle.node_peers.specs.declared.notice.Notice.{Notice}
use Rattle.node_peers.specs.Lines.{line_at}
use Rattle.node_peers.specs.Hearing.{talk_over, AreTold}
use Rattle.node_peers.proofs.Fitting.{none_aside}
use Rattle.node_peers.proofs.lines.Lines.new.Goals as goal

pub invariant_of-result : goal.invariant_of-result
invariant_of-result c = record {
  fits = c.in_ok-links.ensures c.args.own _ (λ place. talk_over c.new-passed.result.items (line_at place)) (λ place. ap (λ (ps : List Passage). wrote_over ps (line_at place)) c.new-passed.ensures);
  told = subst (λ (ns : List Notice). AreTold c.args.own c.new-passed.result.items ns) (sym c.new-notices.ensures.items) tt;
  late = none_aside c.args.own c.new-passed.result.items c.in_ok-aside.aside.frames.items c.in_ok-aside.ensures;
}
