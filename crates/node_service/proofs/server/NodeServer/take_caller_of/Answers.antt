use Rattle.std.proofs.Common.{refl}
use Rattle.node_service.specs.Desks.{IsKept}
use Rattle.node_service.specs.Turns.{AreCallersBut}
use Rattle.node_service.proofs.Going.{does_such}
use Rattle.node_service.proofs.Keeping.{goes_kept, as_it_was}
use Rattle.node_service.proofs.Turns.{no_callers}
use Rattle.node_service.proofs.server.NodeServer.take_caller_of.Goals as goal

pub returns-then-has_bit : goal.returns-then-has_bit
returns-then-has_bit g c =
    let desk = c.args.self.now.desk in
    let kept : IsKept g.W.Wire desk desk = as_it_was g.W.Wire refl in
    let taken = c.args.taken.now in
    does_such (AreCallersBut c.args.closed taken taken) (no_callers c.args.closed taken) (goes_kept g.W.Wire kept)
