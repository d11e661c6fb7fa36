use Rattle.node_peers.proofs.Handing.{goes_on}
use Rattle.node_peers.proofs.peer.Peer.tell.Goals as goal

pub returns : goal.returns
returns c =
    goes_on c.args.self.now c.note_front.new.self c.say_again.new.self c.note_front.ensures
    (goes_on c.note_front.new.self c.tell_beat.new.self c.say_again.new.self c.tell_beat.ensures (goes_on c.tell_beat.new.self c.lead_on.new.self c.say_again.new.self c.lead_on.ensures c.say_again.ensures))
