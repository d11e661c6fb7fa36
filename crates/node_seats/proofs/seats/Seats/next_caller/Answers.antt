use Rattle.node_seats.proofs.Coming.{seats_come, log_stays}
use Rattle.node_seats.proofs.Others.{keeps_coming, no_guest_told_coming}
use Rattle.node_seats.proofs.Telling.{said_coming}
use Rattle.node_seats.proofs.seats.Seats.next_caller.Goals as goal

pub returns-clause-seats : goal.returns-clause-seats
returns-clause-seats g c = seats_come c.take_caller.result.notice c.args.self.now c.take_caller.new.self (g.W.Wire.passed c.args.wire.now) (g.W.Wire.passed c.take_caller.new.wire) c.take_caller.ensures.comes

pub returns-clause-log : goal.returns-clause-log
returns-clause-log g c = log_stays c.take_caller.result.notice c.args.self.now c.take_caller.new.self (g.W.Wire.passed c.args.wire.now) (g.W.Wire.passed c.take_caller.new.wire) c.take_caller.ensures.comes

pub returns-clause-others : goal.returns-clause-others
returns-clause-others g c = keeps_coming c.take_caller.result.notice c.args.self.now c.take_caller.new.self (g.W.Wire.passed c.args.wire.now) (g.W.Wire.passed c.take_caller.new.wire) c.take_caller.ensures.comes

pub returns-clause-said : goal.returns-clause-said
returns-clause-said g c = said_coming c.take_caller.result.notice c.args.self.now c.take_caller.new.self (g.W.Wire.passed c.args.wire.now) (g.W.Wire.passed c.take_caller.new.wire) c.take_caller.ensures.comes

pub returns-clause-unsaid : goal.returns-clause-unsaid
returns-clause-unsaid g c = no_guest_told_coming c.take_caller.result.notice c.args.self.now c.take_caller.new.self (g.W.Wire.passed c.args.wire.now) (g.W.Wire.passed c.take_caller.new.wire) c.take_caller.ensures.comes
