-- Pieces with a separator between them, one more each time.
use Rattle.std.proofs.Common.{◌≡◌, ℕ, ◌+◌, ◌<◌, List, [], ◌∷◌, ◌++◌, length, map, take, get_or, zero, suc, sym, ◌∙◌, ap, append_assoc, arith}
use Rattle.std.specs.List.{flat_map, join_by, range_with_len}
use Rattle.std.proofs.lemmas.List.{append-nil, length-take-le, take_more}
use Rattle.match_log.specs.Lines.{bar_before}
use Rattle.std.proofs.lemmas.List.FromFn.{map-range_with_len_more, length-map-range_with_len}

-- what stands before a further piece
abbrev pub before_next : {X : Type 0} → List ℕ → List X → List ℕ
before_next separator [] = []
before_next separator (x ∷ xs) = separator

flat_map-push : {X : Type 0} (f : X → List ℕ) (xs : List X) (x : X) → flat_map f (xs ++ x ∷ []) ≡ flat_map f xs ++ f x
flat_map-push f [] x = append-nil (f x)
flat_map-push f (y ∷ xs) x = ap (λ (t : List ℕ). f y ++ t) (flat_map-push f xs x) ∙ sym (append_assoc (f y) (flat_map f xs) (f x))

pub join_more : {X : Type 0} (f : X → List ℕ) (separator : List ℕ) (xs : List X) (x : X) → join_by f separator (xs ++ x ∷ []) ≡ join_by f separator xs ++ (before_next separator xs ++ f x)
join_more f separator [] x = append-nil (f x)
join_more f separator (y ∷ xs) x =
    ap (λ (t : List ℕ). f y ++ t) (flat_map-push (λ z. separator ++ f z) xs x) ∙ sym (append_assoc (f y) (flat_map (λ z. separator ++ f z) xs) (separator ++ f x))

-- one more piece of a list, behind a bar where it isn't the first
pub bar_and_more : {X : Type 0} (g : X → List ℕ) (xs : List X) (x : X) (place : ℕ) → length xs ≡ place → join_by g (124 ∷ []) (xs ++ x ∷ []) ≡ join_by g (124 ∷ []) xs ++ (bar_before place ++ g x)
bar_and_more g [] x zero count = append-nil (g x)
bar_and_more g [] x (suc place) count = absurd (omega arith)
bar_and_more g (y ∷ xs) x zero count = absurd (omega arith)
bar_and_more g (y ∷ xs) x (suc place) count = join_more g (124 ∷ []) (y ∷ xs) x

pub written_more : {X : Type 0} (g : X → List ℕ) (xs : List X) (x : X) (place : ℕ) (before out after : List ℕ) → length xs ≡ place → out ≡ before ++ join_by g (124 ∷ []) xs → after ≡ (out ++ bar_before place) ++ g x → after ≡ before ++ join_by g (124 ∷ []) (xs ++ x ∷ [])
written_more g xs x place before out after count so_far now =
    now
    ∙ (append_assoc out (bar_before place) (g x)
    ∙ (ap (λ (t : List ℕ). t ++ (bar_before place ++ g x)) so_far
    ∙ (append_assoc before (join_by g (124 ∷ []) xs) (bar_before place ++ g x)
    ∙ ap (λ (t : List ℕ). before ++ t) (sym (bar_and_more g xs x place count)))))

-- the same of a list made by position
pub range_written_more : {X : Type 0} (g : X → List ℕ) (f : ℕ → X) (place : ℕ) (before out after : List ℕ) → out ≡ before ++ join_by g (124 ∷ []) (map f (range_with_len 0 place)) → after ≡ (out ++ bar_before place) ++ g (f place) → after ≡ before ++ join_by g (124 ∷ []) (map f (range_with_len 0 (place + 1)))
range_written_more g f place before out after so_far now =
    written_more g (map f (range_with_len 0 place)) (f place) place before out after (length-map-range_with_len f 0 place) so_far now
    ∙ ap (λ xs. before ++ join_by g (124 ∷ []) xs) (sym (map-range_with_len_more f 0 place place (omega arith)))

-- the same of a list's first elements
pub taken_written_more : {X : Type 0} (g : X → List ℕ) (xs : List X) (place : ℕ) (d : X) (before out after : List ℕ) → place < length xs → out ≡ before ++ join_by g (124 ∷ []) (take place xs) → after ≡ (out ++ bar_before place) ++ g (get_or xs place d) → after ≡ before ++ join_by g (124 ∷ []) (take (place + 1) xs)
taken_written_more g xs place d before out after within so_far now =
    written_more g (take place xs) (get_or xs place d) place before out after (omega (arith, length-take-le place xs)) so_far now
    ∙ ap (λ ys. before ++ join_by g (124 ∷ []) ys) (sym (take_more xs place d within))
