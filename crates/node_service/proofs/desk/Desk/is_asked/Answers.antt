use Rattle.std.proofs.Common.{refl}
use Rattle.node_service.proofs.Crossing.{none_given}
use Rattle.node_service.proofs.Keeping.{kept_asked}
use Rattle.node_service.proofs.desk.Desk.is_asked.Goals as goal

pub returns : goal.returns
returns g c =
    kept_asked g.W.Wire refl refl refl refl refl refl c.accept.ensures.accepts.others c.accept.ensures.accepts.answered
    (none_given c.args.now c.accept.ensures.accepts.places c.args.self.now.askers.askers.items c.accept.new.self.askers.items (g.W.Wire.passed c.args.self.now.wire) (g.W.Wire.passed c.accept.new.wire) c.accept.ensures.accepts.arrivals)
