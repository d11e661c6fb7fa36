use Rattle.std.proofs.Common.{refl}
use Rattle.node_seats.proofs.Coming.{given_passes}
use Rattle.node_seats.proofs.seat.Seat.welcome.Goals as goal

pub returns-clause-passes : goal.returns-clause-passes
returns-clause-passes g c =
    given_passes c.args.guests.now.tokens.items c.args.number c.args.place c.args.guests.now.passed.items c.give.new.self.passed.items (g.W.Wire.passed c.args.wire.now) (g.W.Wire.passed c.give.new.wire) c.requires (c.if-not-give.ensures.given refl)
    (c.if-not-give.ensures.wired refl)
