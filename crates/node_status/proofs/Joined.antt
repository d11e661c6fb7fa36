-- Pieces with commas between them, one more each time.
use Rattle.std.proofs.Common.{◌≡◌, ℕ, ◌+◌, ◌<◌, List, [], ◌∷◌, ◌++◌, length, take, get_or, zero, suc, sym, refl, ◌∙◌, ap, append_assoc, arith}
use Rattle.std.specs.Prelude.{codes}
use Rattle.std.specs.List.{flat_map, join_by}
use Rattle.std.proofs.lemmas.List.{append-nil, length-take-le, take_more}
use Rattle.node_status.specs.Texts.{comma_before, listed}

flat_map-push : {X : Type 0} (f : X → List ℕ) (xs : List X) (x : X) → flat_map f (xs ++ x ∷ []) ≡ flat_map f xs ++ f x
flat_map-push f [] x = append-nil (f x)
flat_map-push f (y ∷ xs) x = ap (λ (t : List ℕ). f y ++ t) (flat_map-push f xs x) ∙ sym (append_assoc (f y) (flat_map f xs) (f x))

-- one more piece of a list, behind a comma where it isn't the first
comma_and_more : {X : Type 0} (g : X → List ℕ) (xs : List X) (x : X) (place : ℕ) → length xs ≡ place → join_by g (codes ",") (xs ++ x ∷ []) ≡ join_by g (codes ",") xs ++ (comma_before place ++ g x)
comma_and_more g [] x zero count = append-nil (g x)
comma_and_more g [] x (suc place) count = absurd (omega arith)
comma_and_more g (y ∷ xs) x zero count = absurd (omega arith)
comma_and_more g (y ∷ xs) x (suc place) count =
    ap (λ (t : List ℕ). g y ++ t) (flat_map-push (λ z. codes "," ++ g z) xs x) ∙ sym (append_assoc (g y) (flat_map (λ z. codes "," ++ g z) xs) (codes "," ++ g x))

pub taken_more : {X : Type 0} (g : X → List ℕ) (xs : List X) (place : ℕ) (d : X) (before out comma after : List ℕ) → place < length xs → out ≡ before ++ join_by g (codes ",") (take place xs)
    → comma ≡ out ++ comma_before place → after ≡ comma ++ g (get_or xs place d) → after ≡ before ++ join_by g (codes ",") (take (place + 1) xs)
taken_more g xs place d before out comma after within so_far behind now =
    now
    ∙ (ap (λ (t : List ℕ). t ++ g (get_or xs place d)) behind
    ∙ (append_assoc out (comma_before place) (g (get_or xs place d))
    ∙ (ap (λ (t : List ℕ). t ++ (comma_before place ++ g (get_or xs place d))) so_far
    ∙ (append_assoc before (join_by g (codes ",") (take place xs)) (comma_before place ++ g (get_or xs place d))
    ∙ (ap (λ (t : List ℕ). before ++ t) (sym (comma_and_more g (take place xs) (get_or xs place d) place (omega (arith, length-take-le place xs))))
    ∙ ap (λ ys. before ++ join_by g (codes ",") ys) (sym (take_more xs place d within)))))))

pub all_listed : {X : Type 0} (g : X → List ℕ) (xs : List X) → (length xs ≡ 0 → ⊥) → join_by g (codes ",") xs ≡ listed g xs
all_listed g [] some = absurd (some refl)
all_listed g (x ∷ xs) some = refl
