use Rattle.std.proofs.Common.{sym, subst}
use Rattle.node_peers.specs.Peering.{passed_of}
use Rattle.node_peers.specs.declared.peers.Peers.{Peers}
use Rattle.node_service.specs.Crossing.{IsCarried}
use Rattle.node_service.proofs.Crossing.{carried_rested, rests_saw}
use Rattle.node_service.proofs.Seated.{nobody_sits}
use Rattle.node_service.proofs.server.NodeServer.new.Goals as goal

pub returns-clause-somebody : goal.returns-clause-somebody
returns-clause-somebody g c = λ none. nobody_sits c.args.seats.seats.items _ none

pub returns-clause-carried : goal.returns-clause-carried
returns-clause-carried g c =
    λ is.
    let before = g.W.Wire.passed c.args.wire in
    let after = g.W.Wire.passed c.now-now.new.self in
    subst (λ (p : Peers). IsCarried after (passed_of p) c.args.seats.seats.items c.args.askers.askers.items) (sym c.new-company.ensures.peers)
    (carried_rested before after (passed_of c.args.peers) c.args.seats.seats.items c.args.askers.askers.items (rests_saw before after c.now-now.result c.now-now.ensures.saw) is)
