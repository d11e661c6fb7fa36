use Rattle.std.proofs.Common.{rules, ◌≡◌, ◌∷◌, [], List, Some, slice_get, inl, inr, refl, sym, subst}
use Rattle.match_links.specs.Passages.{Told}
use Rattle.serving.specs.Going.{OnlyLeave}
use Rattle.serving.specs.Placed.{places_in}
use Rattle.serving.specs.declared.place.Place.{Place}
use Rattle.serving.specs.declared.place.Place.TheVariants.{Seated}
use Rattle.serving.proofs.Leaving.{one_leaves, no_longer_seated}
use Rattle.serving.proofs.desk.Desk.tell_line.Goals as goal

pub returns-else-is_err-clause-told : goal.returns-else-is_err-clause-told
returns-else-is_err-clause-told g c = search rules

pub overflow_cast-seat : goal.overflow_cast-seat
overflow_cast-seat g c = search rules

pub returns-then-not-is_seated-clause-told : goal.returns-then-not-is_seated-clause-told
returns-then-not-is_seated-clause-told g c = inr (refl, search rules, λ seat. inl refl)

pub returns-then-is_err-clause-told : goal.returns-then-is_err-clause-told
returns-then-is_err-clause-told g c =
    let places = places_in c.args.self.now.progress.places in
    let seated : slice_get places c.args.seat ≡ Some (Seated c.args.node) = c.is_seated.ensures.value.0 (search rules) in
    let left = one_leaves places c.args.seat c.args.node c.args.line.now seated in
    let after = sym c.note_leaving.ensures.places in
    inr (
      search rules,
      subst (λ (now : List Place). slice_get now c.args.seat ≡ Some (Seated c.args.node) → ⊥) after (no_longer_seated places c.args.seat c.args.node),
      subst (OnlyLeave (Told c.args.node c.args.seat c.args.line.now ∷ []) [] places) after left,
    )
