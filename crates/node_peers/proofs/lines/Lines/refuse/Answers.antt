use Rattle.node_peers.specs.Hearing.{talk_over}
use Rattle.node_peers.specs.Lines.{line_at}
use Rattle.node_peers.proofs.lines.Lines.refuse.Goals as goal

pub invariant_of-self : goal.invariant_of-self
invariant_of-self c = record { fits = c.refuse_at.ensures c.args.self.now.own c.args.self.now.sent.items (λ place. talk_over c.args.self.now.passed.items (line_at place)) c.args.self.now.fits; told = c.args.self.now.told; late = c.args.self.now.late }
