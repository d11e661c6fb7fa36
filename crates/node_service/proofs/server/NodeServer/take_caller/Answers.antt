use Rattle.std.proofs.Common.{ℕ, bit_or, subst}
use Rattle.std.specs.Prelude.{Option, Some, None}
use Rattle.node_seats.specs.declared.seat_notice.SeatNotice.{SeatNotice}
use Rattle.node_seats.specs.Pieces.{IsPieceOf}
use Rattle.node_seats.specs.Seating.{KeepsClosed}
use Rattle.node_service.specs.Desks.{served_by}
use Rattle.node_service.specs.Going.{Takes}
use Rattle.node_service.specs.Telling.{incoming_by}
use Rattle.node_service.specs.Turns.{AreCallersBut}
use Rattle.node_service.proofs.Going.{does_on, taken_with, nothing_taken}
use Rattle.node_service.proofs.Turns.{no_callers, caller_first, caller_but}
use Rattle.node_service.proofs.server.NodeServer.take_caller.Goals as goal

pub returns-in-Some : goal.returns-in-Some
returns-in-Some g c =
    let closed = c.args.closed in
    let taken = c.args.taken.now in
    let told = c.in-Some.told in
    let free : KeepsClosed (bit_or closed taken) (Some told) = subst (λ (n : Option SeatNotice). KeepsClosed (bit_or closed taken) n) c.in-Some.is c.next_caller-was_there.ensures.closed in
    let piece : (number most : ℕ) → IsPieceOf number most (Some told) = λ number most. subst (λ (n : Option SeatNotice). IsPieceOf number most n) c.in-Some.is (c.next_caller-was_there.ensures.piece number most) in
    let takes : Takes g.D.Disk (incoming_by (Some told)) (served_by g.W.Wire c.args.self.now.desk) (served_by g.W.Wire c.next_caller-was_there.new.self) =
    subst (λ (n : Option SeatNotice). Takes g.D.Disk (incoming_by n) (served_by g.W.Wire c.args.self.now.desk) (served_by g.W.Wire c.next_caller-was_there.new.self)) c.in-Some.is c.next_caller-was_there.ensures.takes in
    let first = caller_first closed taken told free piece in
    taken_with (AreCallersBut closed taken c.with_thing.result) takes (does_on c.take_seat_notice.ensures.goes c.leave_all.ensures) (caller_but closed taken c.with_thing.result told free piece (c.with_thing.ensures first))

pub returns-in-None : goal.returns-in-None
returns-in-None g c =
    let taken = c.args.taken.now in
    let takes : Takes g.D.Disk (incoming_by None) (served_by g.W.Wire c.args.self.now.desk) (served_by g.W.Wire c.next_caller-was_there.new.self) =
    subst (λ (n : Option SeatNotice). Takes g.D.Disk (incoming_by n) (served_by g.W.Wire c.args.self.now.desk) (served_by g.W.Wire c.next_caller-was_there.new.self)) c.in-None.is c.next_caller-was_there.ensures.takes in
    nothing_taken (AreCallersBut c.args.closed taken taken) (no_callers c.args.closed taken) takes

pub returns-in-None-2 : goal.returns-in-None-2
returns-in-None-2 g c =
    let taken = c.args.taken.now in
    let takes : Takes g.D.Disk (incoming_by None) (served_by g.W.Wire c.args.self.now.desk) (served_by g.W.Wire c.next_caller-was_there.new.self) =
    subst (λ (n : Option SeatNotice). Takes g.D.Disk (incoming_by n) (served_by g.W.Wire c.args.self.now.desk) (served_by g.W.Wire c.next_caller-was_there.new.self)) c.in-None-2.is c.next_caller-was_there.ensures.takes in
    nothing_taken (AreCallersBut c.args.closed taken taken) (no_callers c.args.closed taken) takes
