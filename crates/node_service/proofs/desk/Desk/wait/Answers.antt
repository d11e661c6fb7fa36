use Rattle.std.proofs.Common.{[], ◌∷◌, refl}
use Rattle.node_wires.specs.Passages.{Waited}
use Rattle.node_service.proofs.Calls.{calls_kept}
use Rattle.node_service.proofs.Crossing.{rests_waited}
use Rattle.node_service.proofs.Keeping.{kept_rested}
use Rattle.node_service.proofs.desk.Desk.wait.Goals as goal

pub returns-clause-kept : goal.returns-clause-kept
returns-clause-kept g c =
    let before = g.W.Wire.passed c.args.self.now.wire in
    let after = g.W.Wire.passed c.wait.new.self in
    kept_rested g.W.Wire c.args.self.now c.wait.new.self (rests_waited before after c.args.most c.wait.ensures) (calls_kept before after (Waited c.args.most ∷ []) c.wait.ensures refl)
