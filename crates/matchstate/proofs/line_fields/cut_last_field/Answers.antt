use Rattle.std.proofs.Common.{◌≡◌, ◌+◌, ◌-◌, take, drop, length, refl, sym, ◌∙◌, subst, arith, length-drop}
use Rattle.std.proofs.lemmas.List.{take_all}
use Rattle.matchstate.specs.Line.{IsField}
use Rattle.matchstate.proofs.Fronts.{stands_within}
use Rattle.matchstate.proofs.LastField.{same_cut}
use Rattle.matchstate.proofs.line_fields.cut_last_field.Goals as goal

pub returns-in_err-place-clause-only : goal.returns-in_err-place-clause-only
returns-in_err-place-clause-only c =
    λ line field is whole.
    absurd (stands_within 58 line field (subst IsField whole (c.in_err-place.ensures.missing refl)))

pub returns-clause-only : goal.returns-clause-only
returns-clause-only c =
    λ line field is whole.
    let bytes = c.args.bytes.now in
    let place = c.in_ok-place.place in
    let found = c.in_ok-place.ensures.found in
    let behind : take (length bytes - (place + 1)) (drop (place + 1) bytes) ≡ drop (place + 1) bytes = take_all (length bytes - (place + 1)) (drop (place + 1) bytes) (omega (arith, length-drop (place + 1) bytes)) in
    let same = same_cut (take place bytes) (drop (place + 1) bytes) line field found.2 is (sym found.1 ∙ whole) in
    (same.0, behind ∙ same.1)
