use Rattle.std.proofs.Common.{inl, refl, sym, subst, ◌∙◌}
use Rattle.std.specs.Prelude.{ℕ, Option}
use Rattle.node_service.specs.Seated.{IsFree}
use Rattle.node_service.proofs.Apartness.{waits_changed}
use Rattle.node_service.proofs.Bots.{bots_changed}
use Rattle.node_service.proofs.Keeping.{kept_seated, as_it_was}
use Rattle.node_service.proofs.Seated.{sat_unless_gone}
use Rattle.node_service.proofs.desk.Desk.part_from.Goals as goal

pub returns-in-Some-clause-kept : goal.returns-in-Some-clause-kept
returns-in-Some-clause-kept g c =
    kept_seated g.W.Wire (waits_changed c.args.self.now.apart c.hang_up.result _ _ c.hang_up.ensures.sits) refl refl refl refl (λ seat. inl refl) (bots_changed _ c.hang_up.result _ _ c.hang_up.ensures.sits) c.hang_up.ensures.guests c.hang_up.ensures.log c.hang_up.ensures.seats
    c.hang_up.ensures.keeps c.hang_up.ensures.unsaid c.hang_up.ensures.said (sat_unless_gone c.in-Some.seat _ _ c.hang_up.ensures.gone c.hang_up.ensures.others)

pub returns-in-Some-clause-free : goal.returns-in-Some-clause-free
returns-in-Some-clause-free g c = subst (λ (o : Option ℕ). IsFree o c.hang_up.new.self.seats.items) (sym (sym c.seat_left.ensures ∙ c.in-Some.is)) c.hang_up.ensures.gone

pub returns-in-None-clause-kept : goal.returns-in-None-clause-kept
returns-in-None-clause-kept g c = as_it_was g.W.Wire refl
