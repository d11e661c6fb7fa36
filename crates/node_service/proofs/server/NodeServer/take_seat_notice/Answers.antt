use Rattle.std.proofs.Common.{refl, sym, ◌∙◌}
use Rattle.node_service.specs.Desks.{IsKept}
use Rattle.node_service.proofs.Keeping.{goes_kept, as_it_was}
use Rattle.node_service.proofs.server.NodeServer.take_seat_notice.Goals as goal

pub returns-in-Refused-clause-goes : goal.returns-in-Refused-clause-goes
returns-in-Refused-clause-goes g c =
    let desk = c.args.self.now.desk in
    let kept : IsKept g.W.Wire desk desk = as_it_was g.W.Wire refl in
    rw c.in-Refused.is (goes_kept g.W.Wire kept)

pub returns-in-Unread-clause-goes : goal.returns-in-Unread-clause-goes
returns-in-Unread-clause-goes g c =
    let desk = c.args.self.now.desk in
    let kept : IsKept g.W.Wire desk desk = as_it_was g.W.Wire refl in
    rw c.in-Unread.is (goes_kept g.W.Wire kept)

pub returns-in-Came-clause-goes : goal.returns-in-Came-clause-goes
returns-in-Came-clause-goes g c = rw c.in-Came.is c.seat_bot.ensures

pub returns-in-Piece-clause-goes : goal.returns-in-Piece-clause-goes
returns-in-Piece-clause-goes g c = rw c.in-Piece.is c.take_piece.ensures

pub returns-in-Gone-clause-goes : goal.returns-in-Gone-clause-goes
returns-in-Gone-clause-goes g c = rw c.in-Gone.is c.leave.ensures

pub returns-in-Refused-clause-unread : goal.returns-in-Refused-clause-unread
returns-in-Refused-clause-unread g c = λ seat same. let never = sym c.in-Refused.is ∙ same in absurd cc

pub returns-in-Came-clause-unread : goal.returns-in-Came-clause-unread
returns-in-Came-clause-unread g c = λ seat same. let never = sym c.in-Came.is ∙ same in absurd cc

pub returns-in-Piece-clause-unread : goal.returns-in-Piece-clause-unread
returns-in-Piece-clause-unread g c = λ seat same. let never = sym c.in-Piece.is ∙ same in absurd cc

pub returns-in-Gone-clause-unread : goal.returns-in-Gone-clause-unread
returns-in-Gone-clause-unread g c = λ seat same. let never = sym c.in-Gone.is ∙ same in absurd cc
