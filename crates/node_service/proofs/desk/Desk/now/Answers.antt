use Rattle.std.proofs.Common.{[], ◌∷◌, refl}
use Rattle.node_wires.specs.Passages.{Saw}
use Rattle.node_service.proofs.Calls.{calls_kept}
use Rattle.node_service.proofs.Crossing.{rests_saw}
use Rattle.node_service.proofs.Keeping.{kept_rested}
use Rattle.node_service.proofs.desk.Desk.now.Goals as goal

pub returns-clause-kept : goal.returns-clause-kept
returns-clause-kept g c =
    let before = g.W.Wire.passed c.args.self.now.wire in
    let after = g.W.Wire.passed c.now.new.self in
    kept_rested g.W.Wire c.args.self.now c.now.new.self (rests_saw before after c.now.result c.now.ensures.saw) (calls_kept before after (Saw c.now.result ∷ []) c.now.ensures.saw refl)
