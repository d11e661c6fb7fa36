use Rattle.node_wires.specs.Passages.{Closed}
use Rattle.std.proofs.Common.{[], ◌∷◌}
use Rattle.node_peers.specs.Hearing.{talk_over}
use Rattle.node_peers.specs.Lines.{line_at}
use Rattle.node_peers.proofs.Fitting.{fits_behind, are_told_behind, are_aside_behind}
use Rattle.node_peers.proofs.lines.Lines.close.Goals as goal

pub invariant_of-self : goal.invariant_of-self
invariant_of-self g c = record {
  fits = fits_behind c.count_unheard.new.self.own c.count_unheard.new.self.sent.items c.line_at-2.result _ c.count_unheard.new.self.passed.items c.closed.new.self.items c.closed.ensures
      (c.clear.ensures c.count_unheard.new.self.own c.count_unheard.new.self.sent.items (λ place. talk_over c.count_unheard.new.self.passed.items (line_at place)) c.count_unheard.new.self.fits);
  told = are_told_behind c.count_unheard.new.self.own c.count_unheard.new.self.passed.items c.closed.new.self.items (Closed c.line_at-2.result ∷ []) _ c.closed.ensures c.count_unheard.new.self.told;
  late = are_aside_behind c.count_unheard.new.self.own c.count_unheard.new.self.passed.items c.closed.new.self.items (Closed c.line_at-2.result ∷ []) _ c.closed.ensures c.count_unheard.new.self.late;
}
