use Rattle.std.proofs.Common.{◌<◌, length, arith}
use Rattle.std.proofs.lemmas.Grind.{common_steps}
use Rattle.node_peers.proofs.Sending.{sent_at}
use Rattle.node_peers.proofs.peers.Peers.send.Goals as goal

pub returns-in-Some-clause-sends : goal.returns-in-Some-clause-sends
returns-in-Some-clause-sends c =
    let within : c.args.to < length c.args.self.now.peers.items = grind (arith, common_steps) in
    sent_at c.args.to c.args.frame.now c.args.self.now.peers.items c.in-Some.peer.now c.send.new.self within c.in-Some.ensures.value c.send.ensures.sent
