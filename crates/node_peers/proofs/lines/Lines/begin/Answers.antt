use Rattle.std.proofs.Common.{◌≡◌, List, ◌∷◌, ◌++◌, [], Some, subst, sym}
use Rattle.node_wires.specs.declared.line.Line.{Line}
use Rattle.node_wires.specs.Passages.{Passage, Began}
use Rattle.node_peers.specs.Hearing.{AreTold, AreAside, IsFresh}
use Rattle.node_peers.proofs.Fitting.{are_told_on, are_aside_on}
use Rattle.node_peers.proofs.lines.Lines.begin.Goals as goal

pub invariant_of-self : goal.invariant_of-self
invariant_of-self c = record {
  fits =
      c.put.ensures c.args.self.now.own c.args.self.now.sent.items c.args.self.now.passed.items c.began.new.self.items (subst (λ (l : Line). IsFresh c.args.self.now.own l (Some c.args.link)) c.requires.line c.requires.fresh) (subst (λ (l : Line). c.began.new.self.items ≡ c.args.self.now.passed.items ++ Began l ∷ []) c.requires.line c.began.ensures) c.args.self.now.fits;
  told =
      subst (λ (ps : List Passage). AreTold c.args.self.now.own ps c.args.self.now.notices.items) (sym c.began.ensures) (are_told_on c.args.self.now.own c.args.self.now.passed.items (Began c.args.line ∷ []) c.args.self.now.notices.items c.args.self.now.told);
  late =
      subst (λ (ps : List Passage). AreAside c.args.self.now.own ps c.args.self.now.aside.frames.items) (sym c.began.ensures) (are_aside_on c.args.self.now.own c.args.self.now.passed.items (Began c.args.line ∷ []) c.args.self.now.aside.frames.items c.args.self.now.late);
}
