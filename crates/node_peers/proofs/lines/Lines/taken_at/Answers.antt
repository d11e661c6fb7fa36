use Rattle.std.proofs.Common.{List, Option, subst}
use Rattle.node_peers.specs.declared.link.Link.{Link}
use Rattle.node_peers.specs.Hearing.{OpensAt}
use Rattle.node_peers.proofs.Fitting.{opened_now}
use Rattle.node_peers.proofs.lines.Lines.taken_at.Goals as goal

pub returns : goal.returns
returns c =
    opened_now c.args.self.now.own c.args.self.now.sent.items c.args.self.now.passed.items c.args.place c.args.self.now.links.items c.taken_at.result c.args.self.now.fits
    (subst (λ (links : List (Option Link)). OpensAt c.args.self.now.own c.taken_at.result c.args.place links) c.deref.ensures.value (c.taken_at.ensures c.args.self.now.own))
