-- What holds of each of a list.
use Rattle.std.proofs.Common.{ℕ, zero, suc, List, [], ◌∷◌, ◌++◌, length, length-append, refl, subst, arith}
use Rattle.std.specs.List.{All}
use Rattle.std.proofs.lemmas.List.{get_or_append_left, get_or_at}
use Rattle.dealer_world.specs.Beginning.{AreEach}

pub each_more : {N : Type 0} (IsSo : ℕ → N → Type 0) (nodes : List N) (node : N) → AreEach IsSo nodes → IsSo (length nodes) node → AreEach IsSo (nodes ++ node ∷ [])
each_more IsSo [] node each last zero d less = last
each_more IsSo [] node each last (suc i) d less = absurd (omega arith)
each_more IsSo (first ∷ nodes) node each last zero d less = each zero d (omega arith)
each_more IsSo (first ∷ nodes) node each last (suc i) d less = each_more (λ j. IsSo (suc j)) nodes node (λ j e within. each (suc j) e (omega arith)) last i d (omega arith)

-- of those in front of the last, and of the last
pub all_front : {A : Type 0} (IsSo : A → Type 0) (front : List A) (last : A) → All IsSo (front ++ last ∷ []) → All IsSo front
all_front IsSo front last all k d less =
    subst IsSo (get_or_append_left front (last ∷ []) d k less) (all k d (omega (arith, less, length-append front (last ∷ []))))

pub all_last : {A : Type 0} (IsSo : A → Type 0) (front : List A) (last : A) → All IsSo (front ++ last ∷ []) → IsSo last
all_last IsSo front last all =
    subst IsSo (get_or_at front last [] last (length front) refl) (all (length front) last (omega (arith, length-append front (last ∷ []))))
