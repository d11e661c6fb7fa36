use Rattle.std.proofs.Common.{refl}
use Rattle.betting.specs.Betting.{history}
use Rattle.seat_relay.proofs.Nearest.{nearest_is_mended, other_is_mended}
use Rattle.seat_relay.proofs.mending.mended.Goals as goal

pub returns-in-Some : goal.returns-in-Some
returns-in-Some c = nearest_is_mended c.args.play.now.game (history c.args.play.now) c.args.field.now c.in-Some.amount c.in-Some.ensures.found

pub returns-in-None : goal.returns-in-None
returns-in-None c = other_is_mended c.args.play.now.game (history c.args.play.now) c.args.field.now c.own_or_call.result (c.in-None.ensures.none refl) c.own_or_call.ensures.allowed c.own_or_call.ensures.own c.own_or_call.ensures.else_call
