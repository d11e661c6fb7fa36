-- Hole cards kept by position, one more at a time; and a line's text, piece by piece.
use Rattle.std.proofs.Common.{◌≡◌, ℕ, ◌+◌, ◌<◌, List, [], ◌∷◌, ◌++◌, map, length, take, set, Option, sym, ap, ◌∙◌, arith, append_assoc}
use Rattle.std.specs.List.{range_with_len}
use Rattle.std.proofs.lemmas.List.{take_more_set, map-append}
use Rattle.std.proofs.lemmas.List.FromFn.{map-range_with_len_more}
use Rattle.matchstate.specs.SeenCards.{hole_in}

pub sight_next : (f : ℕ → List ℕ) (holes : List (Option (List ℕ))) (i : ℕ) (hole : Option (List ℕ)) → i < length holes → map hole_in (take i holes) ≡ map f (range_with_len 0 i) → hole_in hole ≡ f i → map hole_in (take (i + 1) (set holes i hole)) ≡ map f (range_with_len 0 (i + 1))
sight_next f holes i hole below before here =
    ap (map hole_in) (take_more_set holes i hole below) ∙ map-append hole_in (take i holes) (hole ∷ [])
    ∙ ap (λ front. front ++ hole_in hole ∷ []) before ∙ ap (λ h. map f (range_with_len 0 i) ++ h ∷ []) here
    ∙ sym (map-range_with_len_more f 0 i i (omega arith))

-- eight pieces, one after another
pub spelled : (old m p h b c : List ℕ) (colon : ℕ) (o1 o2 o3 o4 o5 o6 o7 o8 : List ℕ) → o1 ≡ old ++ m → o2 ≡ o1 ++ p → o3 ≡ o2 ++ colon ∷ [] → o4 ≡ o3 ++ h → o5 ≡ o4 ++ colon ∷ [] → o6 ≡ o5 ++ b → o7 ≡ o6 ++ colon ∷ [] → o8 ≡ o7 ++ c → o8 ≡ old ++ (m ++ (p ++ colon ∷ (h ++ colon ∷ (b ++ colon ∷ c))))
spelled old m p h b c colon o1 o2 o3 o4 o5 o6 o7 o8 e1 e2 e3 e4 e5 e6 e7 e8 =
    rw (e8, e7, e6, e5, e4, e3, e2, e1) (simp append_assoc)
