use Rattle.node_peers.specs.Leaving.{MayBeTold, aside_of, newest_of}
use Rattle.node_peers.specs.Peering.{own_of}
use Rattle.node_peers.proofs.Leaving.{none_more, of_one}
use Rattle.node_peers.proofs.peers.Peers.first_aside.Goals as goal

pub loop-number-preserved : goal.loop-number-preserved
loop-number-preserved c =
    let self = c.args.self.now in
    record {
      may = of_one (MayBeTold (own_of self) self.peers.items (aside_of self)) c.loop-number.first c.ready_at.result c.first_of-first.result c.first_of-first.ensures.one c.loop-number.invariant.may c.ready_at.ensures.may;
      none =
          λ none stood.
          let both = c.first_of-first.ensures.none none in
          none_more (own_of self) self.peers.items (newest_of self) (aside_of self) c.loop-number.number (c.loop-number.invariant.none both.0 stood) (c.ready_at.ensures.none both.1 stood);
    }
