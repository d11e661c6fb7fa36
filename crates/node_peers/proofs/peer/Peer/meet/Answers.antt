use Rattle.node_peers.proofs.Handing.{goes_on}
use Rattle.node_peers.proofs.peer.Peer.meet.Goals as goal

pub returns-clause-goes : goal.returns-clause-goes
returns-clause-goes c =
    goes_on c.args.self.now c.keep.new.self c.begin_telling.new.self c.keep.ensures.goes
    (goes_on c.keep.new.self c.join.new.self c.begin_telling.new.self c.join.ensures.goes
    (goes_on c.join.new.self c.tell_older.new.self c.begin_telling.new.self c.tell_older.ensures.goes
    (goes_on c.tell_older.new.self c.note_promise.new.self c.begin_telling.new.self c.note_promise.ensures.goes c.begin_telling.ensures.goes)))
