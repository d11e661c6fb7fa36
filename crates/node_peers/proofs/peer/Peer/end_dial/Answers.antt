use Rattle.std.proofs.Common.{refl}
use Rattle.node_peers.proofs.Handing.{goes_on, goes_same}
use Rattle.node_peers.proofs.peer.Peer.end_dial.Goals as goal

pub returns-clause-back : goal.returns-clause-back
returns-clause-back c =
    goes_on c.args.self.now c.note_missed.new.self _ c.note_missed.ensures.back
    (goes_on c.note_missed.new.self c.turn_down.new.self _ c.turn_down.ensures.back
    (goes_on c.turn_down.new.self c.end_pause-pause.new.self _ c.end_pause-pause.ensures.back (goes_same c.end_pause-pause.new.self _ refl refl refl refl refl)))
