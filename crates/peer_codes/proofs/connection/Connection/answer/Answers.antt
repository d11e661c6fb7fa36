use Rattle.std.proofs.Common.{◌≡◌, sym, ◌∙◌}
use Rattle.peer_codes.specs.declared.phase.Phase.TheVariants as phases
use Rattle.peer_codes.proofs.StepParts.{met_where}
use Rattle.peer_codes.proofs.connection.Connection.answer.Goals as goal

pub returns-then-is_same : goal.returns-then-is_same
returns-then-is_same c =
    let asked : c.args.self.now.phase ≡ phases.Asked c.in-Asked.caller = cc in
    met_where c.args.self.now c.meet.new.self c.in-Asked.caller c.args.own asked (sym c.is_same.ensures ∙ c.if-is_same.true) c.meet.ensures
