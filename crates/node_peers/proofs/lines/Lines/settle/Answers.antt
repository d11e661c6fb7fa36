use Rattle.std.proofs.Common.{refl}
use Rattle.node_peers.specs.Hearing.{talk_over, Fits}
use Rattle.node_peers.specs.Lines.{line_at}
use Rattle.node_peers.proofs.Fitting.{opened_now}
use Rattle.node_peers.proofs.lines.Lines.settle.Goals as goal

pub invariant_of-self : goal.invariant_of-self
invariant_of-self c = record { fits = c.settle_at.ensures.fits c.args.self.now.sent.items (λ place. talk_over c.args.self.now.passed.items (line_at place)) refl c.args.self.now.fits; told = c.args.self.now.told; late = c.args.self.now.late }

pub returns-clause-opened : goal.returns-clause-opened
returns-clause-opened c =
    let self = c.args.self.now in
    let fits : Fits self.own self.sent.items self.passed.items c.settle_at.new.links.items = c.settle_at.ensures.fits self.sent.items (λ place. talk_over self.passed.items (line_at place)) refl self.fits in
    opened_now self.own self.sent.items self.passed.items c.args.place c.settle_at.new.links.items c.settle_at.result fits c.settle_at.ensures.opens
