use Rattle.std.proofs.Common.{subst, sym}
use Rattle.node_links.specs.declared.own.Own.{Own}
use Rattle.node_peers.specs.Hearing.{IsOpened}
use Rattle.node_peers.specs.Peering.{own_of, passed_of}
use Rattle.node_peers.proofs.Fitting.{opened_through}
use Rattle.node_peers.proofs.peers.Peers.join.Goals as goal

pub meet-requires : goal.meet-requires
meet-requires g c =
    subst (λ (o : Own). IsOpened o (passed_of c.end_earlier.new.self) c.args.hello.now) (sym c.end_earlier.ensures.0)
    (opened_through (own_of c.args.self.now) (passed_of c.args.self.now) (passed_of c.end_earlier.new.self) _ _ c.args.hello.now c.end_earlier.ensures.1.0 c.requires)
