use Rattle.std.proofs.Common.{List, [], ◌∷◌, sym, subst}
use Rattle.node_wires.specs.declared.line.Line.TheVariants.{Peer}
use Rattle.node_wires.specs.Passages.{Passage, Wrote}
use Rattle.node_peers.specs.Hearing.{Fits}
use Rattle.node_peers.proofs.Fitting.{fits_sent}
use Rattle.node_peers.proofs.lines.Lines.note_sent.Goals as goal

pub invariant_of-self : goal.invariant_of-self
invariant_of-self c =
    let self = c.args.self.now in
    record {
      fits =
          subst (λ (ps : List Passage). Fits self.own ps self.passed.items self.links.items) (sym c.wrote.ensures)
          (fits_sent self.own self.sent.items (Wrote (Peer c.args.to) c.args.frame.now ∷ []) self.passed.items self.links.items self.fits);
      told = self.told;
      late = self.late;
    }
