use Rattle.std.proofs.Common.{List, inl, refl, ap, subst}
use Rattle.dealer_node.specs.Nodes.{Node}
use Rattle.match_links.specs.Passages.{Passage}
use Rattle.serving.specs.Served.{Served}
use Rattle.serving.specs.Serving.{served_of}
use Rattle.serving.specs.Turned.{Turned}
use Rattle.serving.proofs.server.Server.turn.Goals as goal

-- the links may have room more, and nothing passed
pub returns-then-is_err-clause-turned : goal.returns-then-is_err-clause-turned
returns-then-is_err-clause-turned g c =
    let now = served_of c.args.self.now in
    inl (ap (λ (ps : List Passage). record now { passed = ps }) c.reserve.ensures, inl refl)

pub returns-clause-turned : goal.returns-clause-turned
returns-clause-turned g c =
    let now = served_of c.args.self.now in
    subst (λ (before : Served (Node g.row.D.Denot)). Turned g.D.Disk before c.take_turn.result (served_of c.take_turn.new.self)) (ap (λ (ps : List Passage). record now { passed = ps }) c.reserve.ensures)
    c.take_turn.ensures.turned

pub returns-clause-unforged : goal.returns-clause-unforged
returns-clause-unforged g c = c.take_turn.ensures.promise.unforged

pub returns-clause-begun : goal.returns-clause-begun
returns-clause-begun g c = c.take_turn.ensures.promise.begun
