use Rattle.std.specs.Prelude.{Some}
use Rattle.node_seats.proofs.Coming.{changes_on}
use Rattle.node_seats.proofs.seats.Seats.flush_all.Goals as goal

pub returns-in-Some-clause-sits : goal.returns-in-Some-clause-sits
returns-in-Some-clause-sits g c =
    changes_on (Some c.in-Some.notice) c.args.self.now.seats.items c.loop-number.self.seats.items c.flush_one.new.self.seats.items c.loop-number.invariant.sits c.in-Some.ensures.sits
