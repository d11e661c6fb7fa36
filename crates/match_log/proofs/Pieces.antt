-- Pieces with | between them, cut off one by one.
use Rattle.std.proofs.Common.{◌≡◌, ℕ, zero, suc, ◌+◌, ◌<◌, ◌≤◌, List, [], ◌∷◌, ◌++◌, length, take, drop, get_or, refl, sym, ap, ◌∙◌, append_assoc, arith}
use Rattle.std.specs.List.{flat_map, join_by}
use Rattle.std.proofs.lemmas.List.{append_cancel_left, drop_more, length-take-le, take-append-drop}
use Rattle.std.proofs.lemmas.List.Concat.{flat_map-append}
use Rattle.match_log.specs.Lines.{bar_before}

-- the pieces from a place on
abbrev pub later : {X : Type 0} → (X → List ℕ) → ℕ → List X → List ℕ
later f zero xs = join_by f (124 ∷ []) xs
later f (suc place) xs = flat_map (λ x. 124 ∷ [] ++ f x) xs

later_next : {X : Type 0} (f : X → List ℕ) (place : ℕ) (x : X) (xs : List X) → later f place (x ∷ xs) ≡ bar_before place ++ (f x ++ later f (suc place) xs)
later_next f zero x xs = refl
later_next f (suc place) x xs = refl

parted : {X : Type 0} (f : X → List ℕ) (xs ys : List X) → join_by f (124 ∷ []) (xs ++ ys) ≡ join_by f (124 ∷ []) xs ++ later f (length xs) ys
parted f [] ys = refl
parted f (x ∷ xs) ys =
    ap (λ (t : List ℕ). f x ++ t) (flat_map-append (λ y. 124 ∷ [] ++ f y) xs ys)
    ∙ sym (append_assoc (f x) (flat_map (λ y. 124 ∷ [] ++ f y) xs) (flat_map (λ y. 124 ∷ [] ++ f y) ys))

parted_at : {X : Type 0} (f : X → List ℕ) (xs : List X) (place : ℕ) → place ≤ length xs → join_by f (124 ∷ []) xs ≡ join_by f (124 ∷ []) (take place xs) ++ later f place (drop place xs)
parted_at {X} f xs place within =
    let count : length (take place xs) ≡ place = length-take-le place xs within in
    ap (join_by f (124 ∷ [])) (sym (take-append-drop place xs))
    ∙ parted f (take place xs) (drop place xs)
    ∙ ap (λ n. join_by f (124 ∷ []) (take place xs) ++ later f n (drop place xs)) count

-- the next piece stands in front of the rest
pub next_piece : {X : Type 0} (f : X → List ℕ) (xs : List X) (place : ℕ) (d : X) (bytes rest behind : List ℕ) → place < length xs
    → bytes ≡ join_by f (124 ∷ []) (take place xs) ++ rest → bytes ≡ join_by f (124 ∷ []) xs ++ behind
    → rest ≡ bar_before place ++ (f (get_or xs place d) ++ (later f (suc place) (drop (place + 1) xs) ++ behind))
next_piece {X} f xs place d bytes rest behind within so_far whole =
    let front = join_by f (124 ∷ []) (take place xs) in
    let back = later f place (drop place xs) in
    let piece = f (get_or xs place d) in
    let others = later f (suc place) (drop (place + 1) xs) in
    let both : front ++ rest ≡ front ++ (back ++ behind) =
    sym so_far ∙ whole ∙ ap (λ (t : List ℕ). t ++ behind) (parted_at f xs place (omega arith)) ∙ append_assoc front back behind in
    append_cancel_left front rest (back ++ behind) both
    ∙ ap (λ ys. later f place ys ++ behind) (drop_more xs place d within)
    ∙ ap (λ (t : List ℕ). t ++ behind) (later_next f place (get_or xs place d) (drop (place + 1) xs))
    ∙ append_assoc (bar_before place) (piece ++ others) behind
    ∙ ap (λ (t : List ℕ). bar_before place ++ t) (append_assoc piece others behind)

-- where all pieces are cut off, what is left stands behind them
pub no_piece : {X : Type 0} (f : X → List ℕ) (xs : List X) (place : ℕ) (bytes rest behind : List ℕ) → take place xs ≡ xs
    → bytes ≡ join_by f (124 ∷ []) (take place xs) ++ rest → bytes ≡ join_by f (124 ∷ []) xs ++ behind → rest ≡ behind
no_piece f xs place bytes rest behind all so_far whole =
    append_cancel_left (join_by f (124 ∷ []) xs) rest behind (ap (λ ys. join_by f (124 ∷ []) ys ++ rest) (sym all) ∙ sym so_far ∙ whole)
