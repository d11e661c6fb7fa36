use Rattle.std.proofs.Common.{sym, subst}
use Rattle.node_peers.specs.declared.notice.Notice.{Notice}
use Rattle.node_peers.specs.Leaving.{PassesOne, aside_of, newest_of}
use Rattle.node_peers.specs.Peering.{own_of}
use Rattle.node_peers.proofs.peers.Peers.pass.Goals as goal

pub returns-in-Frame-clause-passes : goal.returns-in-Frame-clause-passes
returns-in-Frame-clause-passes c =
    let self = c.args.self.now in
    subst (λ (n : Notice). PassesOne (own_of self) self.peers.items (newest_of self) self.own_front.front n c.pass_frame.result (aside_of self) (aside_of c.pass_frame.new.self)) (sym c.in-Frame.is) c.pass_frame.ensures.passes
