use Rattle.std.proofs.Common.{sym, subst}
use Rattle.stations.specs.Looking.{look_of}
use Rattle.node_service.specs.declared.desk.Desk.{Desk}
use Rattle.node_service.specs.Bots.{AreServed}
use Rattle.node_service.specs.Turns.{IsBegunOf, IsLate, IsTurnBut, IsTurnOf}
use Rattle.node_service.proofs.Going.{does_with, with_does, with_on, with_so, does_on}
use Rattle.node_service.proofs.Keeping.{goes_kept, kept_on, then_kept, as_it_was}
use Rattle.node_service.proofs.Turns.{then_late, turn_alone, turn_of}
use Rattle.node_service.proofs.server.NodeServer.take_turn.Goals as goal

pub returns-then-ne-clause-takes : goal.returns-then-ne-clause-takes
returns-then-ne-clause-takes g c =
    let first = kept_on g.W.Wire c.wait-begun.ensures.kept (kept_on g.W.Wire c.hear_peers.ensures (kept_on g.W.Wire (as_it_was g.W.Wire c.look.ensures) c.now-taking.ensures.kept)) in
    let bots = c.args.self.now.desk.seats.seats.items in
    let closed = c.taken_bits-closed.result in
    let read = c.take_all-is_read.result.0 in
    let early = with_so (IsTurnBut closed read) (IsBegunOf bots read) (turn_of closed read bots c.taken_bits-closed.ensures) (does_with (IsTurnBut closed read) (goes_kept g.W.Wire first) c.take_all-is_read.ensures) in
    let taken = with_so (IsBegunOf bots read) (IsTurnOf bots) (turn_alone bots read) early in
    with_does (IsTurnOf bots) taken (goes_kept g.W.Wire (kept_on g.W.Wire c.note_callers.ensures c.part.ensures.kept))

pub returns-clause-takes : goal.returns-clause-takes
returns-clause-takes g c =
    let first = kept_on g.W.Wire c.wait-begun.ensures.kept (kept_on g.W.Wire c.hear_peers.ensures (kept_on g.W.Wire (as_it_was g.W.Wire c.look.ensures) c.now-taking.ensures.kept)) in
    let bots = c.args.self.now.desk.seats.seats.items in
    let closed = c.taken_bits-closed.result in
    let read = c.take_all-is_read.result.0 in
    let early = with_so (IsTurnBut closed read) (IsBegunOf bots read) (turn_of closed read bots c.taken_bits-closed.ensures) (does_with (IsTurnBut closed read) (goes_kept g.W.Wire first) c.take_all-is_read.ensures) in
    let due = with_does (IsBegunOf bots read) early (does_on (goes_kept g.W.Wire c.note_callers.ensures) c.keep_time-until_due.ensures) in
    let taken = with_on (IsBegunOf bots read) (IsLate read) (IsTurnOf bots) (then_late bots read) due c.take_aside-is_late.ensures in
    let noted = kept_on g.W.Wire c.now-now.ensures.kept (kept_on g.W.Wire c.note_waiting.ensures (kept_on g.W.Wire c.note_missing.ensures (kept_on g.W.Wire c.note_behind.ensures c.look_at_lines.ensures))) in
    let last = then_kept g.W.Wire c.answer_askers-is_asked.ensures (kept_on g.W.Wire c.finish-over.ensures (kept_on g.W.Wire c.speak.ensures (kept_on g.W.Wire c.tell_seats.ensures.kept (as_it_was g.W.Wire c.note_read.ensures.kept)))) in
    with_does (IsTurnOf bots) taken (does_on (goes_kept g.W.Wire noted) last)

pub returns-clause-served : goal.returns-clause-served
returns-clause-served g c =
    subst (λ (d : Desk g.row.D.Denot g.row.W.Denot g.D.Disk). AreServed (look_of d.member.station) d.seats.seats.items) (sym c.note_read.ensures.kept) c.tell_seats.ensures.served
