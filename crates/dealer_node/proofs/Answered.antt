-- One answer of a session is taken.
use Rattle.std.proofs.Common.{◌≡◌, ℕ, ◌+◌, ◌≤◌, List, [], ◌∷◌, ◌++◌, refl, ap, sym, ◌∙◌, subst, arith, length}
use Rattle.std.specs.Prelude.{map, Option, Some, is_none, Ok, Err, ◌&&◌, if◌then◌else◌}
use Rattle.paxos_wire.specs.declared.ballot.Ballot.{Ballot}
use Rattle.paxos_wire.specs.declared.message.Message.TheVariants.{Forward}
use Rattle.paxos_wire.specs.declared.limits.TheConstants.{MOST_SINGLE_FRAME}
use Rattle.slot_log.specs.Hand.{Match}
use Rattle.slot_log.specs.Dealer.{reason_of}
use Rattle.slot_log.specs.declared.command.Command.{Command}
use Rattle.seat_session.specs.declared.said.Said.TheVariants.{Ready}
use Rattle.seat_session.specs.declared.session_fault.SessionFault.{SessionFault}
use Rattle.dealer_kind.specs.Kind.{fits}
use Rattle.node_rules.specs.Standings.{Place, applied, hands_at}
use Rattle.node_rules.specs.Sending.{one}
use Rattle.node_rules.specs.Showing.{seat_line}
use Rattle.node_rules.specs.Turns.{sending}
use Rattle.node_rules.specs.Seats.{answering, is_others, pending_act, forwarding}
use Rattle.dealer_node.specs.declared.reader.Reader.{Reader}
use Rattle.dealer_node.specs.declared.seat_fault.SeatFault.{SeatFault}
use Rattle.dealer_node.specs.declared.made.Made.{Made}
use Rattle.dealer_node.specs.Texts.{Marked, Written}
use Rattle.dealer_node.specs.Rooms.{Grows, Tells, Makes, piece_need}
use Rattle.dealer_node.specs.Outs.{Told}
use Rattle.dealer_node.specs.Turned.{framed, printed}
use Rattle.dealer_node.specs.Fitting.{AreMessages}
use Rattle.dealer_node.specs.Hearing.{TakesAct, TakesAnswer}
use Rattle.dealer_node.proofs.Applied.{fits_by_table}
use Rattle.dealer_node.proofs.Messages.{no_messages}
use Rattle.dealer_node.proofs.Telling.{told_with, heard_more, frames_more, shown_more, faults_more}

pub ready_taken : (place : Place) (table : Match) (promised : Ballot) (seat : ℕ) (pending : Option Command) (told : Told) (shown : List (Marked Reader))
    → shown ≡ told.shown ++ map printed (seat_line place.setting table.hands seat)
    → TakesAnswer place table promised seat (Ok Ready) pending pending told (told_with told.frames shown told.faults)
ready_taken place table promised seat pending told shown e = λ turn before is.
    let all : shown ≡ told.shown ++ map printed (seat_line place.setting (hands_at place turn.after) seat) =
    e ∙ ap (λ h. told.shown ++ map printed (seat_line place.setting h seat)) is.hands.hands in
    heard_more place table promised turn (answering place seat (Ok Ready) turn.after) pending pending before told (told_with told.frames shown told.faults) is is.hands is.promise is.waits
    (shown_more told shown (map printed (seat_line place.setting (hands_at place turn.after) seat)) all) no_messages

pub act_taken : (place : Place) (table : Match) (promised : Ballot) (act : Command) (old new : Option Command) (told : Told) (frames : List (Marked ℕ))
    → new ≡ (if is_none old && is_none (reason_of table.game table.count table.hands act) then Some act else old)
    → frames ≡ told.frames ++ map framed (if is_others place promised then one promised.node (Forward act) else [])
    → AreMessages (if is_others place promised then one promised.node (Forward act) else [])
    → TakesAct place table promised act old new told (told_with frames told.shown told.faults)
act_taken place table promised act old new told frames waits e messages = λ turn before is.
    let fitting : is_none (reason_of table.game table.count table.hands act) ≡ fits place.setting (applied turn.after) act = fits_by_table place.setting (applied turn.after) table act is.hands in
    let kept : new ≡ (if is_none turn.after.pending && fits place.setting (applied turn.after) act then Some act else turn.after.pending) =
    waits ∙ ap (λ b. if is_none old && b then Some act else old) fitting ∙ ap (λ o. if is_none o && fits place.setting (applied turn.after) act then Some act else o) is.waits in
    let all : frames ≡ told.frames ++ map framed (forwarding place act turn.after) =
    e ∙ ap (λ (p : Ballot). told.frames ++ map framed (if is_others place p then one p.node (Forward act) else [])) (sym is.promise) in
    heard_more place table promised turn (sending (forwarding place act turn.after) (pending_act place act turn.after)) old new before told (told_with frames told.shown told.faults) is is.hands is.promise kept
    (frames_more told frames (map framed (forwarding place act turn.after)) all)
    (subst (λ (p : Ballot). AreMessages (if is_others place p then one p.node (Forward act) else [])) (sym is.promise) messages)

pub fault_taken : (place : Place) (table : Match) (promised : Ballot) (seat : ℕ) (fault : SessionFault) (pending : Option Command) (told : Told) (faults : List SeatFault)
    → faults ≡ told.faults ++ (record { seat = seat; fault = fault }) ∷ []
    → TakesAnswer place table promised seat (Err fault) pending pending told (told_with told.frames told.shown faults)
fault_taken place table promised seat fault pending told faults e = λ turn before is.
    let one : SeatFault = record { seat = seat; fault = fault } in
    heard_more place table promised turn (answering place seat (Err fault) turn.after) pending pending before told (told_with told.frames told.shown faults) is is.hands is.promise is.waits
    (faults_more told faults (one ∷ []) e) no_messages

-- ---- what it makes

same_grows : {T : Type 0} (old : Written T) (texts bytes : ℕ) → Grows old old texts bytes
same_grows old texts bytes = record { text_room = omega arith; byte_room = omega arith; len = omega arith; size = omega arith }

pub ready_makes : (old new : Made) → Grows old.shown new.shown 1 4096 → new ≡ record old { shown = new.shown } → Makes old new (piece_need 1)
ready_makes old new shown rest =
    subst (λ (m : Made). Makes old m (piece_need 1)) (sym rest)
    (record { frames = same_grows old.frames 1 MOST_SINGLE_FRAME; shown = shown; faults = record { len = omega arith; capacity = refl } })

pub act_makes : (old new : Made) → Grows old.frames new.frames 1 MOST_SINGLE_FRAME → new ≡ record old { frames = new.frames } → Makes old new (piece_need 1)
act_makes old new frames rest =
    subst (λ (m : Made). Makes old m (piece_need 1)) (sym rest)
    (record { frames = frames; shown = same_grows old.shown 1 4096; faults = record { len = omega arith; capacity = refl } })

pub fault_makes : (old new : Made) → Tells old new 1 → new ≡ record old { faults = new.faults } → Makes old new (piece_need 1)
fault_makes old new faults rest =
    subst (λ (m : Made). Makes old m (piece_need 1)) (sym rest)
    (record { frames = same_grows old.frames 1 MOST_SINGLE_FRAME; shown = same_grows old.shown 1 4096; faults = record { len = faults.len; capacity = faults.capacity } })
