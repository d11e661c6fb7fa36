use Rattle.std.proofs.Common.{refl}
use Rattle.node_service.proofs.Crossing.{line_alone, others_same}
use Rattle.node_service.proofs.Keeping.{kept_asked}
use Rattle.node_service.proofs.desk.Desk.answer.Goals as goal

pub returns : goal.returns
returns g c =
    let passed = g.W.Wire.passed c.args.self.now.wire in
    kept_asked g.W.Wire refl refl refl refl refl refl (others_same passed) (c.answer.ensures.answered passed) (line_alone c.args.line.now c.answer.result c.args.self.now.askers.askers.items c.answer.new.self.askers.items c.answer.ensures)
