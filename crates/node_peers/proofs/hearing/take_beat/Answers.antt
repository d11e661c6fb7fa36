use Rattle.std.proofs.Common.{◌<◌, length, arith}
use Rattle.std.proofs.lemmas.Grind.{common_steps}
use Rattle.node_peers.proofs.Handing.{back_at}
use Rattle.node_peers.proofs.hearing.take_beat.Goals as goal

pub returns-then-eq : goal.returns-then-eq
returns-then-eq c =
    let within : c.args.from < length c.args.peers.now.items = grind (arith, common_steps) in
    back_at c.args.from c.args.peers.now.items c.in-Some.peer.now c.take_beat.new.self within c.in-Some.ensures.value c.take_beat.ensures
