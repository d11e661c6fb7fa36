use Rattle.std.proofs.Common.{List, Option, None, sym, subst}
use Rattle.peer_codes.specs.declared.frame.Frame.{Frame}
use Rattle.node_peers.specs.Hearing.{AreAside}
use Rattle.node_peers.proofs.Fitting.{aside_set, aside_taken}
use Rattle.node_peers.proofs.lines.Lines.take_aside.Goals as goal

pub invariant_of-self : goal.invariant_of-self
invariant_of-self c =
    let self = c.args.self.now in
    record {
      fits = self.fits;
      told = self.told;
      late = subst (λ (fs : List (Option Frame)). AreAside self.own self.passed.items fs) (sym c.take.ensures.frames) (aside_set self.own self.passed.items self.aside.frames.items c.args.from None self.late tt);
    }

pub returns-clause-told : goal.returns-clause-told
returns-clause-told c =
    let self = c.args.self.now in
    aside_taken self.own self.passed.items self.aside.frames.items c.args.from c.take.result c.take.ensures.taken self.late
