-- A text without a line feed at its end.
use Rattle.std.proofs.Common.{◌≡◌, ◌≢◌, ℕ, List, [], ◌∷◌, ◌++◌, refl, ap, arith}
use Rattle.std.proofs.lemmas.Bool.Decides.{nat_tests}
use Rattle.node_runs.specs.KeyFiles.{without_feed}

pub feed_goes : (front : List ℕ) → without_feed (front ++ 10 ∷ []) ≡ front
feed_goes [] = refl
feed_goes (byte ∷ []) = refl
feed_goes (byte ∷ next ∷ front) = ap (λ (rest : List ℕ). byte ∷ rest) (feed_goes (next ∷ front))

pub other_stays : (front : List ℕ) (last : ℕ) → last ≢ 10 → without_feed (front ++ last ∷ []) ≡ front ++ last ∷ []
other_stays [] last other = grind (arith, nat_tests)
other_stays (byte ∷ []) last other = grind (arith, nat_tests)
other_stays (byte ∷ next ∷ front) last other = ap (λ (rest : List ℕ). byte ∷ rest) (other_stays (next ∷ front) last other)
