use Rattle.std.proofs.Common.{ℕ, List, subst, sym}
use Rattle.stations.specs.Looking.{look_of}
use Rattle.node_service.specs.Asking.{IsStatusLine}
use Rattle.node_service.proofs.Keeping.{goes_kept, goes_answered, kept_then}
use Rattle.node_service.proofs.server.NodeServer.answer_askers.Goals as goal

pub returns-then-not-is_asked : goal.returns-then-not-is_asked
returns-then-not-is_asked g c = goes_kept g.W.Wire c.is_asked.ensures

pub returns-in-Ok : goal.returns-in-Ok
returns-in-Ok g c =
    kept_then g.W.Wire c.is_asked.ensures
    (goes_answered g.W.Wire c.deref.result.now c.is_asked.new.self c.answer.new.self
    (subst (λ (l : List ℕ). IsStatusLine (look_of c.is_asked.new.self.member.station) l) (sym c.deref.ensures.value) c.in-Ok.ensures) c.answer.ensures)

pub returns : goal.returns
returns g c = goes_kept g.W.Wire c.is_asked.ensures
