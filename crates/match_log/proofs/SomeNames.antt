-- There are names for every number of seats.
use Rattle.std.proofs.Common.{◌≡◌, ℕ, ◌≤◌, List, [], ◌∷◌, take, length, codes, refl, arith}
use Rattle.std.specs.Prelude.{bytes_eq}
use Rattle.std.specs.List.{AllByRecursion, IsDistinct}
use Rattle.std.proofs.lemmas.List.{length-take-le}
use Rattle.card_core.proofs.Distinct.{All-take, IsDistinct-take}
use Rattle.match_log.specs.Names.{IsName, AreNames}

ten : List (List ℕ)
ten = codes "a" ∷ codes "b" ∷ codes "c" ∷ codes "d" ∷ codes "e" ∷ codes "f" ∷ codes "g" ∷ codes "h" ∷ codes "i" ∷ codes "j" ∷ []

ten_names : AllByRecursion IsName ten
unfolding ten
ten_names = (record { least = omega arith; most = omega arith; bytes = (refl, tt) }, (record { least = omega arith; most = omega arith; bytes = (refl, tt) }, (record { least = omega arith; most = omega arith; bytes = (refl, tt) }, (record { least = omega arith; most = omega arith; bytes = (refl, tt) }, (record { least = omega arith; most = omega arith; bytes = (refl, tt) }, (record { least = omega arith; most = omega arith; bytes = (refl, tt) }, (record { least = omega arith; most = omega arith; bytes = (refl, tt) }, (record { least = omega arith; most = omega arith; bytes = (refl, tt) }, (record { least = omega arith; most = omega arith; bytes = (refl, tt) }, (record { least = omega arith; most = omega arith; bytes = (refl, tt) }, tt))))))))))

ten_distinct : IsDistinct bytes_eq ten
unfolding ten IsDistinct
ten_distinct = ((refl, (refl, (refl, (refl, (refl, (refl, (refl, (refl, (refl, tt))))))))), ((refl, (refl, (refl, (refl, (refl, (refl, (refl, (refl, tt)))))))), ((refl, (refl, (refl, (refl, (refl, (refl, (refl, tt))))))), ((refl, (refl, (refl, (refl, (refl, (refl, tt)))))), ((refl, (refl, (refl, (refl, (refl, tt))))), ((refl, (refl, (refl, (refl, tt)))), ((refl, (refl, (refl, tt))), ((refl, (refl, tt)), ((refl, tt), (tt, tt))))))))))

ten_count : length ten ≡ 10
unfolding ten
ten_count = refl

pub some_names : ℕ → List (List ℕ)
some_names players = take players ten

pub are_some_names : (players : ℕ) → players ≤ 10 → AreNames players (some_names players)
unfolding some_names
are_some_names players few = record {
  one_each = length-take-le players ten (omega (arith, ten_count));
  each_name = All-take IsName players ten ten_names;
  distinct = IsDistinct-take bytes_eq players ten ten_distinct;
}
