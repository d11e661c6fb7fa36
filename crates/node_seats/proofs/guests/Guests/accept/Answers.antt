use Rattle.node_seats.proofs.guests.Guests.accept.Goals as goal

pub invariant_of-self : goal.invariant_of-self
invariant_of-self g c = record { heard = c.put.ensures.heard c.args.self.now.passed.items c.began.new.self.items c.began.ensures c.args.self.now.heard }
