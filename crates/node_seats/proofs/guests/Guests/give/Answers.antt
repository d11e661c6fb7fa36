use Rattle.node_seats.proofs.guests.Guests.give.Goals as goal

pub invariant_of-self : goal.invariant_of-self
invariant_of-self g c = record { heard = c.clear.ensures.given c.args.self.now.passed.items c.gave.new.self.items c.args.seat c.gave.ensures c.args.self.now.heard }
