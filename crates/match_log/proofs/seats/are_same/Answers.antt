use Rattle.std.proofs.Common.{◌≡◌, ℕ, ◌<◌, ◌∷◌, ◌++◌, [], List, take, get_or, length, sym, ap, ◌∙◌, arith}
use Rattle.std.proofs.lemmas.Bool.{not-false}
use Rattle.std.proofs.lemmas.List.{get_or_default, take_more}
use Rattle.std.proofs.lemmas.Slice.Eq.{bytes_eq-Decides}
use Rattle.match_log.proofs.seats.are_same.Goals as goal

pub loop-place-preserved : goal.loop-place-preserved
loop-place-preserved c =
    let place : ℕ = c.loop-place.place in
    let names : List (List ℕ) = c.args.names.now in
    let others : List (List ℕ) = c.args.others.now in
    let within : place < length names = c.loop-place-test.true in
    let within_others : place < length others = omega (arith, c.requires) in
    let told = bytes_eq-Decides c.as_bytes.result.now c.as_bytes-in-loop-place.result.now in
    let same : c.as_bytes.result.now ≡ c.as_bytes-in-loop-place.result.now = told.0 (not-false _ (sym c.ne.ensures ∙ c.if-ne.false)) in
    let left : c.as_bytes.result.now ≡ get_or names place [] = c.as_bytes.ensures.value ∙ (c.index-names-place.is ∙ get_or_default names place c.index-names-place.result [] within) in
    let right : c.as_bytes-in-loop-place.result.now ≡ get_or others place [] =
    c.as_bytes-in-loop-place.ensures.value ∙ (c.index-others-place.is ∙ get_or_default others place c.index-others-place.result [] within_others) in
    take_more names place [] within
    ∙ ap (λ (front : List (List ℕ)). front ++ get_or names place [] ∷ []) c.loop-place.invariant
    ∙ ap (λ (name : List ℕ). take place others ++ name ∷ []) (sym left ∙ same ∙ right)
    ∙ sym (take_more others place [] within_others)
