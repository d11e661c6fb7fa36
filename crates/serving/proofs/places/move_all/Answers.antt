use Rattle.std.proofs.Common.{◌≡◌, ◌+◌, ◌<◌, ℕ, zero, suc, List, [], ◌∷◌, ◌++◌, length, map, take, drop, set, get_or, refl, ap, arith, ◌∙◌}
use Rattle.serving.specs.declared.place.Place.TheVariants.{Awaited}
use Rattle.serving.specs.Placing.{moved}
use Rattle.serving.proofs.places.move_all.Goals as goal

one_more : {A : Type 0} (f : A → A) (xs : List A) (i : ℕ) (d : A) → i < length xs
    → set (map f (take i xs) ++ drop i xs) i (f (get_or (map f (take i xs) ++ drop i xs) i d)) ≡ map f (take (suc i) xs) ++ drop (suc i) xs
one_more f [] i d within = absurd (omega (arith, within))
one_more f (x ∷ xs) zero d within = refl
one_more f (x ∷ xs) (suc i) d within = ap (λ ys. f x ∷ ys) (one_more f xs i d (omega (arith, within)))

next : {A : Type 0} (f : A → A) (ys xs : List A) (i : ℕ) (d y : A) → i < length xs → ys ≡ map f (take i xs) ++ drop i xs → y ≡ f (get_or ys i d)
    → set ys i y ≡ map f (take (i + 1) xs) ++ drop (i + 1) xs
next f ys xs i d y within so_far it =
    let same : suc i ≡ i + 1 = omega arith in
    ap (set ys i) it ∙ ap (λ zs. set zs i (f (get_or zs i d))) so_far ∙ one_more f xs i d within ∙ ap (λ n. map f (take n xs) ++ drop n xs) same

pub loop-at-preserved : goal.loop-at-preserved
loop-at-preserved c =
    next (moved c.args.node c.args.next) c.loop-at.places c.args.places.now c.loop-at.at (Awaited 0) c.moved.result c.loop-at-test.true c.loop-at.invariant c.moved.ensures
