-- Fields up to a byte that doesn't stand in them, and pieces with a bar between them, are cut one way.
use Rattle.std.proofs.Common.{◌≡◌, ℕ, ◌+◌, ◌<◌, ◌≤◌, List, [], ◌∷◌, ◌++◌, length, map, zero, suc, refl, sym, ◌∙◌, ap, arith}
use Rattle.std.specs.List.{AllByRecursion, flat_map, join_by, range_with_len}
use Rattle.std.proofs.lemmas.List.{append-nil}
use Rattle.slot_log.proofs.Inside.{all_joined}
use Rattle.matchstate.specs.Free.{IsFreeOf}
use Rattle.matchstate.proofs.Fronts.{cut_alike}

pub All-weaker : {X : Type 0} (P Q : X → Type 0) (xs : List X) → ((x : X) → P x → Q x) → AllByRecursion P xs → AllByRecursion Q xs
All-weaker P Q [] weaker all = tt
All-weaker P Q (x ∷ xs) weaker all = (weaker x all.0, All-weaker P Q xs weaker all.1)

-- ---- pieces with a bar between them

abbrev tail_of : {X : Type 0} → (X → List ℕ) → List X → List ℕ
tail_of f xs = flat_map (λ x. 124 ∷ [] ++ f x) xs

pieces_from : {X : Type 0} (f : X → List ℕ) (x y : X) (xs ys : List X) → length xs ≡ length ys → IsFreeOf 124 (f x) → IsFreeOf 124 (f y) → AllByRecursion (λ z. IsFreeOf 124 (f z)) xs → AllByRecursion (λ z. IsFreeOf 124 (f z)) ys → f x ++ tail_of f xs ≡ f y ++ tail_of f ys → (f x ≡ f y) × (map f xs ≡ map f ys)
pieces_from f x y [] [] count here there all others e = (sym (append-nil (f x)) ∙ e ∙ append-nil (f y), refl)
pieces_from f x y [] (b ∷ ys) count here there all others e = absurd (omega arith)
pieces_from f x y (a ∷ xs) [] count here there all others e = absurd (omega arith)
pieces_from f x y (a ∷ xs) (b ∷ ys) count here there all others e =
    let cut = cut_alike 124 (f x) (f y) (f a ++ tail_of f xs) (f b ++ tail_of f ys) here there e in
    let more = pieces_from f a b xs ys (omega arith) all.0 others.0 all.1 others.1 cut.1 in
    (cut.0, ap (λ (t : List ℕ). t ∷ map f xs) more.0 ∙ ap (λ (ts : List (List ℕ)). f b ∷ ts) more.1)

pub pieces_alike : {X : Type 0} (f : X → List ℕ) (xs ys : List X) → length xs ≡ length ys → AllByRecursion (λ z. IsFreeOf 124 (f z)) xs → AllByRecursion (λ z. IsFreeOf 124 (f z)) ys → join_by f (124 ∷ []) xs ≡ join_by f (124 ∷ []) ys → map f xs ≡ map f ys
pieces_alike f [] [] count all others e = refl
pieces_alike f [] (y ∷ ys) count all others e = absurd (omega arith)
pieces_alike f (x ∷ xs) [] count all others e = absurd (omega arith)
pieces_alike f (x ∷ xs) (y ∷ ys) count all others e =
    let more = pieces_from f x y xs ys (omega arith) all.0 others.0 all.1 others.1 e in
    ap (λ (t : List ℕ). t ∷ map f xs) more.0 ∙ ap (λ (ts : List (List ℕ)). f y ∷ ts) more.1

-- ---- what stands in joined pieces

All-tail_of : {X : Type 0} (P : ℕ → Type 0) (f : X → List ℕ) (xs : List X) → P 124 → AllByRecursion (λ x. AllByRecursion P (f x)) xs → AllByRecursion P (tail_of f xs)
All-tail_of P f [] bar all = tt
All-tail_of P f (x ∷ xs) bar all = (bar, all_joined P (f x) (tail_of f xs) all.0 (All-tail_of P f xs bar all.1))

pub All-pieces : {X : Type 0} (P : ℕ → Type 0) (f : X → List ℕ) (xs : List X) → P 124 → AllByRecursion (λ x. AllByRecursion P (f x)) xs → AllByRecursion P (join_by f (124 ∷ []) xs)
All-pieces P f [] bar all = tt
All-pieces P f (x ∷ xs) bar all = all_joined P (f x) (tail_of f xs) all.0 (All-tail_of P f xs bar all.1)

pub All-each : {X : Type 0} (P : X → Type 0) (xs : List X) → ((x : X) → P x) → AllByRecursion P xs
All-each P [] each = tt
All-each P (x ∷ xs) each = (each x, All-each P xs each)

-- what holds of each element made by position
pub All-range : {X : Type 0} (P : X → Type 0) (f : ℕ → X) (first count : ℕ) → ((place : ℕ) → first ≤ place → place < first + count → P (f place)) → AllByRecursion P (map f (range_with_len first count))
All-range P f first zero each = tt
All-range P f first (suc count) each =
    (each first (omega arith) (omega arith), All-range P f (first + 1) count (λ place from to. each place (omega arith) (omega arith)))
