use Rattle.node_seats.proofs.Telling.{said_flushed}
use Rattle.node_seats.proofs.Writing.{no_guest_told}
use Rattle.node_seats.proofs.seats.Seats.flush.Goals as goal

pub returns-clause-said : goal.returns-clause-said
returns-clause-said g c =
    said_flushed c.flush_all.result (g.W.Wire.passed c.args.wire.now) (g.W.Wire.passed c.flush_all.new.wire) c.args.self.now.seats.items c.flush_all.new.self.seats.items c.flush_all.ensures.nothing
    c.flush_all.ensures.said c.flush_all.ensures.sits c.flush_all.ensures.loses c.flush_all.ensures.wrote

pub returns-clause-unsaid : goal.returns-clause-unsaid
returns-clause-unsaid g c = no_guest_told (g.W.Wire.passed c.args.wire.now) (g.W.Wire.passed c.flush_all.new.wire) c.flush_all.ensures.wrote
