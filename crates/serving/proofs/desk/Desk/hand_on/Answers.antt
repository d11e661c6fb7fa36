use Rattle.std.proofs.Common.{[], List, inl, inr, refl, ap, sym, slice_get, ◌∙◌}
use Rattle.std.proofs.lemmas.List.{append-nil}
use Rattle.serving.specs.declared.place.Place.{Place}
use Rattle.serving.proofs.desk.Desk.hand_on.Goals as goal

pub returns-in-Ok-clause-given : goal.returns-in-Ok-clause-given
returns-in-Ok-clause-given g c = record { given = _; passed = c.in-Ok.ensures.logged; is_given = inl (rw c.in-Log.is refl); leave = λ seat. inl refl }

pub returns-in-Seat-clause-given : goal.returns-in-Seat-clause-given
returns-in-Seat-clause-given g c = elim c.tell_line.ensures.told [
  | inl (told, same) ↦ record {
    given = _;
    passed = told;
    is_given = inl (rw c.in-Seat.is refl);
    leave = λ seat. inl (ap (λ (places : List Place). slice_get places seat) same);
  }
  | inr (same, away, leave) ↦ record {
    given = [];
    passed = same ∙ sym (append-nil (g.L.Links.passed c.args.self.now.links));
    is_given = inr ((c.in-Seat.seat, rw c.in-Seat.is refl, away), refl);
    leave = rw c.in-Seat.is leave;
  }
]
