use Rattle.node_seats.proofs.Keeping.{all_fit, are_fit}
use Rattle.node_seats.proofs.seats.Seats.look_at_guest.Goals as goal

pub returns-in-Some-clause-kept : goal.returns-in-Some-clause-kept
returns-in-Some-clause-kept g c =
    are_fit c.args.self.now.guests c.in-Some.guests c.hear_guest.new.guests c.in-Some.is
    (all_fit c.in-Some.guests.tokens.items c.in-Some.guests.guests.items c.hear_guest.new.guests.guests.items c.args.place c.hear_guest.ensures.kept c.hear_guest.ensures.fit c.hear_guest.ensures.newest)
