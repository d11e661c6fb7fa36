use Rattle.std.proofs.Common.{List, Option, Some, sym, subst}
use Rattle.peer_codes.specs.declared.frame.Frame.{Frame}
use Rattle.node_peers.specs.Hearing.{AreAside}
use Rattle.node_peers.proofs.Fitting.{aside_set}
use Rattle.node_peers.proofs.lines.Lines.set_aside.Goals as goal

pub invariant_of-self : goal.invariant_of-self
invariant_of-self c =
    let self = c.args.self.now in
    record {
      fits = self.fits;
      told = self.told;
      late = subst (λ (fs : List (Option Frame)). AreAside self.own self.passed.items fs) (sym c.put.ensures.frames) (aside_set self.own self.passed.items self.aside.frames.items c.args.from (Some c.args.frame) self.late c.requires);
    }
