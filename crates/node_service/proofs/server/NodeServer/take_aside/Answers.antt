use Rattle.std.proofs.Common.{refl}
use Rattle.node_service.specs.Desks.{IsKept}
use Rattle.node_service.specs.Turns.{IsLate}
use Rattle.node_service.proofs.Going.{does_such, does_with, taken_with, nothing_taken}
use Rattle.node_service.proofs.Keeping.{goes_kept, as_it_was}
use Rattle.node_service.proofs.Turns.{nothing_late, one_late}
use Rattle.node_service.proofs.server.NodeServer.take_aside.Goals as goal

pub returns-then-not-is_read : goal.returns-then-not-is_read
returns-then-not-is_read g c =
    let desk = c.args.self.now.desk in
    let kept : IsKept g.W.Wire desk desk = as_it_was g.W.Wire refl in
    does_such (IsLate c.args.is_read) (nothing_late c.args.is_read) (goes_kept g.W.Wire kept)

pub returns-then-ne : goal.returns-then-ne
returns-then-ne g c =
    let desk = c.args.self.now.desk in
    let kept : IsKept g.W.Wire desk desk = as_it_was g.W.Wire refl in
    does_such (IsLate c.args.is_read) (nothing_late c.args.is_read) (goes_kept g.W.Wire kept)

pub returns-in-None : goal.returns-in-None
returns-in-None g c = does_with (IsLate c.args.is_read) (goes_kept g.W.Wire c.now-now.ensures.kept) (nothing_taken (IsLate c.args.is_read) (nothing_late c.args.is_read) c.in-None.ensures.takes)

pub returns-in-Some : goal.returns-in-Some
returns-in-Some g c =
    does_with (IsLate c.args.is_read) (goes_kept g.W.Wire c.now-now.ensures.kept)
    (taken_with (IsLate c.args.is_read) c.in-Some.ensures.takes c.take_notice.ensures.goes (one_late c.args.is_read c.in-Some.notice c.if-not-is_read.false c.in-Some.ensures.frame))
