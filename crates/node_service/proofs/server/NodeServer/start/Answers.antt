use Rattle.std.proofs.Common.{refl}
use Rattle.node_service.specs.Desks.{IsKept}
use Rattle.node_service.specs.Serving.{served_of, fault_in}
use Rattle.node_service.proofs.Keeping.{goes_kept, as_it_was}
use Rattle.node_service.proofs.Starting.{begun, unbegun, not_refused}
use Rattle.node_service.proofs.server.NodeServer.start.Goals as goal

pub returns-then-ne-clause-goes : goal.returns-then-ne-clause-goes
returns-then-ne-clause-goes g c =
    let desk = c.args.self.now.desk in
    let kept : IsKept g.W.Wire desk desk = as_it_was g.W.Wire refl in
    goes_kept g.W.Wire kept

pub returns-then-is_started-clause-goes : goal.returns-then-is_started-clause-goes
returns-then-is_started-clause-goes g c =
    let desk = c.args.self.now.desk in
    let kept : IsKept g.W.Wire desk desk = as_it_was g.W.Wire refl in
    goes_kept g.W.Wire kept

pub returns-then-ne-clause-begun : goal.returns-then-ne-clause-begun
returns-then-ne-clause-begun g c = unbegun c.outcome.result (served_of c.args.self.now) c.outcome.ensures.runs

pub returns-then-is_started-clause-begun : goal.returns-then-is_started-clause-begun
returns-then-is_started-clause-begun g c = unbegun c.outcome-then-is_started.result (served_of c.args.self.now) c.outcome-then-is_started.ensures.runs

pub returns-clause-begun : goal.returns-clause-begun
returns-clause-begun g c =
    begun c.number-node.result c.call.result c.left_to_do.result c.args.self.now.desk.member c.call.new.self.desk.member (served_of c.call.new.self) c.call.ensures.calls c.left_to_do.ensures.runs
    (λ refused well. not_refused c.number-node.result c.call.result (fault_in c.call.new.self) c.call.ensures.calls.ends (c.left_to_do.ensures.answered well) refused) refl refl
