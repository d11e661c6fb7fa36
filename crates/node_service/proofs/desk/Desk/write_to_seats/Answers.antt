use Rattle.std.proofs.Common.{inl, refl, sym, ap, subst, ◌∙◌}
use Rattle.std.specs.Prelude.{Option, Some}
use Rattle.node_seats.specs.declared.seat_notice.SeatNotice.{SeatNotice}
use Rattle.node_seats.specs.Seating.{Changes}
use Rattle.node_seats.proofs.Others.{keeps_on}
use Rattle.node_service.proofs.Apartness.{waits_changed, waits_on}
use Rattle.node_service.proofs.Bots.{bots_changed, keep_here}
use Rattle.node_service.proofs.Keeping.{kept_seated}
use Rattle.node_service.proofs.Seated.{sat_changed, sat_came}
use Rattle.node_service.proofs.desk.Desk.write_to_seats.Goals as goal

pub returns-in-Some-Gone : goal.returns-in-Some-Gone
returns-in-Some-Gone g c = kept_seated g.W.Wire (waits_changed c.args.self.now.apart c.flush.result _ _ c.flush.ensures.sits) refl refl refl refl c.let_go.ensures.loosened (bots_changed _ c.flush.result _ _ c.flush.ensures.sits) c.flush.ensures.guests c.flush.ensures.log c.flush.ensures.seats c.flush.ensures.others c.flush.ensures.unsaid c.flush.ensures.said
    (sat_changed c.flush.result _ _ (λ number came. let never = sym (c.in-Some-Gone.is ∙ ap Some c.in-Some-Gone.field-0-is) ∙ came in absurd cc) c.flush.ensures.sits)

pub returns-in-Some-Came : goal.returns-in-Some-Came
returns-in-Some-Came g c =
    let old = c.args.self.now in
    let before = g.W.Wire.passed old.wire in
    let came = subst (λ (n : Option SeatNotice). Changes n old.seats.seats.items c.flush.new.self.seats.items) (c.in-Some-Came.is ∙ ap Some c.in-Some-Came.field-0-is) c.flush.ensures.sits in
    kept_seated g.W.Wire (waits_on old.apart old.apart old.apart _ _ _ (waits_changed old.apart c.flush.result _ _ c.flush.ensures.sits) (waits_changed old.apart c.hang_up.result _ _ c.hang_up.ensures.sits)) refl refl refl refl (λ seat. inl refl)
    (keep_here (bots_changed _ c.flush.result _ _ c.flush.ensures.sits) (bots_changed _ c.hang_up.result _ _ c.hang_up.ensures.sits)) (c.hang_up.ensures.guests ∙ c.flush.ensures.guests)
    (c.hang_up.ensures.log ∙ c.flush.ensures.log) (c.hang_up.ensures.seats ∙ c.flush.ensures.seats) (keeps_on before _ _ c.flush.ensures.others c.hang_up.ensures.keeps) (λ place none. c.hang_up.ensures.unsaid place (c.flush.ensures.unsaid place none))
    (λ are. c.hang_up.ensures.said (c.flush.ensures.said are)) (sat_came c.in-Some-Came.seat _ _ _ came c.hang_up.ensures.gone c.hang_up.ensures.others)

pub returns-in-Some-Piece : goal.returns-in-Some-Piece
returns-in-Some-Piece g c =
    kept_seated g.W.Wire (waits_changed c.args.self.now.apart c.flush.result _ _ c.flush.ensures.sits) refl refl refl refl (λ seat. inl refl) (bots_changed _ c.flush.result _ _ c.flush.ensures.sits) c.flush.ensures.guests c.flush.ensures.log c.flush.ensures.seats c.flush.ensures.others c.flush.ensures.unsaid c.flush.ensures.said
    (sat_changed c.flush.result _ _ (λ number came. let never = sym (c.in-Some-Piece.is ∙ ap Some c.in-Some-Piece.field-0-is) ∙ came in absurd cc) c.flush.ensures.sits)

pub returns-in-Some-Refused : goal.returns-in-Some-Refused
returns-in-Some-Refused g c =
    kept_seated g.W.Wire (waits_changed c.args.self.now.apart c.flush.result _ _ c.flush.ensures.sits) refl refl refl refl (λ seat. inl refl) (bots_changed _ c.flush.result _ _ c.flush.ensures.sits) c.flush.ensures.guests c.flush.ensures.log c.flush.ensures.seats c.flush.ensures.others c.flush.ensures.unsaid c.flush.ensures.said
    (sat_changed c.flush.result _ _ (λ number came. let never = sym (c.in-Some-Refused.is ∙ ap Some c.in-Some-Refused.field-0-is) ∙ came in absurd cc) c.flush.ensures.sits)

pub returns-in-Some-Unread : goal.returns-in-Some-Unread
returns-in-Some-Unread g c =
    kept_seated g.W.Wire (waits_changed c.args.self.now.apart c.flush.result _ _ c.flush.ensures.sits) refl refl refl refl (λ seat. inl refl) (bots_changed _ c.flush.result _ _ c.flush.ensures.sits) c.flush.ensures.guests c.flush.ensures.log c.flush.ensures.seats c.flush.ensures.others c.flush.ensures.unsaid c.flush.ensures.said
    (sat_changed c.flush.result _ _ (λ number came. let never = sym (c.in-Some-Unread.is ∙ ap Some c.in-Some-Unread.field-0-is) ∙ came in absurd cc) c.flush.ensures.sits)

pub returns : goal.returns
returns g c =
    kept_seated g.W.Wire (waits_changed c.args.self.now.apart c.flush.result _ _ c.flush.ensures.sits) refl refl refl refl (λ seat. inl refl) (bots_changed _ c.flush.result _ _ c.flush.ensures.sits) c.flush.ensures.guests c.flush.ensures.log c.flush.ensures.seats c.flush.ensures.others c.flush.ensures.unsaid c.flush.ensures.said
    (sat_changed c.flush.result _ _ (λ number came. let never = sym c.in-None.is ∙ came in absurd cc) c.flush.ensures.sits)
