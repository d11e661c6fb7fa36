-- What is left of a list where some of it is left out.
use Rattle.std.specs.Prelude.{◌≡◌, ◌⊎◌, List, [], ◌∷◌}

-- all of it stands in the whole, in this order, each as often as it stands there at most
abbrev pub IsPartOf : {A : Type 0} → List A → List A → Type 0
IsPartOf [] whole = Unit {0}
IsPartOf (x ∷ more) [] = ⊥
IsPartOf (x ∷ more) (y ∷ others) = ((x ≡ y) × IsPartOf more others) ⊎ IsPartOf (x ∷ more) others
