use Rattle.node_peers.specs.Hearing.{talk_over}
use Rattle.node_peers.specs.Lines.{line_at}
use Rattle.node_peers.proofs.Fitting.{told_now}
use Rattle.node_peers.proofs.lines.Lines.next.Goals as goal

pub invariant_of-self : goal.invariant_of-self
invariant_of-self c = record { fits = c.next_at.ensures.fits c.args.self.now.own c.args.self.now.sent.items (λ place. talk_over c.args.self.now.passed.items (line_at place)) c.args.self.now.fits; told = c.args.self.now.told; late = c.args.self.now.late }

pub note_frame-requires : goal.note_frame-requires
note_frame-requires c = told_now c.args.self.now.own c.args.self.now.passed.items c.args.place c.in-Frame.from _ (c.in-Frame.ensures.says c.args.self.now.own (λ place. talk_over c.args.self.now.passed.items (line_at place)) (λ other. (c.args.self.now.fits other).0))
