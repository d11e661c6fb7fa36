-- The last field of a text: what stands behind its last colon.
use Rattle.std.proofs.Common.{◌≡◌, ℕ, List, [], ◌∷◌, ◌++◌, refl, subst}
use Rattle.matchstate.specs.Line.{IsField}
use Rattle.matchstate.proofs.Fronts.{stands_within}

-- a text is cut at its last colon in one way alone
pub same_cut : (line field other last : List ℕ) → IsField field → IsField last → line ++ 58 ∷ field ≡ other ++ 58 ∷ last → (line ≡ other) × (field ≡ last)
same_cut [] field [] last is behind same = (refl, cc)
same_cut [] field (byte ∷ other) last is behind same =
    let e : field ≡ other ++ 58 ∷ last = cc in
    absurd (stands_within 58 other last (subst IsField e is))
same_cut (byte ∷ line) field [] last is behind same =
    let e : last ≡ line ++ 58 ∷ field = cc in
    absurd (stands_within 58 line field (subst IsField e behind))
same_cut (byte ∷ line) field (head ∷ other) last is behind same =
    let first : byte ≡ head = cc in
    let rest : line ++ 58 ∷ field ≡ other ++ 58 ∷ last = cc in
    let parts = same_cut line field other last is behind rest in
    let whole : byte ∷ line ≡ head ∷ other = let e = parts.0 in cc in
    (whole, parts.1)
