-- The lines of a hand, position by position.
use Rattle.std.proofs.Common.{◌≡◌, ℕ, zero, suc, ◌+◌, ◌<◌, ◌≤◌, List, [], ◌∷◌, ◌++◌, refl, sym, ◌∙◌, ap, append_assoc, arith}
use Rattle.std.specs.List.{flat_map, range_with_len}
use Rattle.std.proofs.lemmas.List.{append-nil}
use Rattle.std.proofs.lemmas.List.Concat.{flat_map-append}
use Rattle.luck.proofs.Left.{range_more}

pub lines_more : (f : ℕ → List ℕ) (count : ℕ) → flat_map f (range_with_len 0 (count + 1)) ≡ flat_map f (range_with_len 0 count) ++ f count
lines_more f count =
    let next : count + 1 ≡ suc count = omega arith in
    let here : 0 + count ≡ count = omega arith in
    ap (λ n. flat_map f (range_with_len 0 n)) next ∙ ap (flat_map f) (range_more 0 count) ∙ flat_map-append f (range_with_len 0 count) ((0 + count) ∷ [])
    ∙ ap (λ n. flat_map f (range_with_len 0 count) ++ flat_map f (n ∷ [])) here ∙ ap (λ (t : List ℕ). flat_map f (range_with_len 0 count) ++ t) (append-nil (f count))

pub lines_alike : (f g : ℕ → List ℕ) (first count : ℕ) → ((place : ℕ) → first ≤ place → place < first + count → f place ≡ g place) → flat_map f (range_with_len first count) ≡ flat_map g (range_with_len first count)
lines_alike f g first zero same = refl
lines_alike f g first (suc count) same =
    ap (λ (t : List ℕ). t ++ flat_map f (range_with_len (first + 1) count)) (same first (omega arith) (omega arith))
    ∙ ap (λ (t : List ℕ). g first ++ t) (lines_alike f g (first + 1) count (λ place from to. same place (omega arith) (omega arith)))

pub put_more : (f : ℕ → List ℕ) (count : ℕ) (start out line after : List ℕ) → out ≡ start ++ flat_map f (range_with_len 0 count) → after ≡ out ++ line → line ≡ f count → after ≡ start ++ flat_map f (range_with_len 0 (count + 1))
put_more f count start out line after so_far now is =
    now ∙ ap (λ (t : List ℕ). t ++ line) so_far ∙ append_assoc start (flat_map f (range_with_len 0 count)) line
    ∙ ap (λ (t : List ℕ). start ++ (flat_map f (range_with_len 0 count) ++ t)) is ∙ ap (λ (t : List ℕ). start ++ t) (sym (lines_more f count))

pub put_none : (f : ℕ → List ℕ) (start : List ℕ) → start ≡ start ++ flat_map f (range_with_len 0 0)
put_none f start = sym (append-nil start)
