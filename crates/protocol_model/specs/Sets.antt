-- Sets and histories are lists, the newest element first; maps are functions.
use Rattle.std.specs.Prelude.{◌≡◌, ℕ, ◌⊎◌, ◌==◌, if◌then◌else◌, List, [], ◌∷◌}
pub use Rattle.slot_log.specs.Beginnings.{IsBeginning}

-- x stands in the list
abbrev pub In : {A : Type 0} → A → List A → Type 0
In x [] = ⊥
In x (y ∷ ys) = (x ≡ y) ⊎ In x ys

-- the map, with x at this key
abbrev pub put : {A : Type 0} → (ℕ → A) → ℕ → A → ℕ → A
put map key x k = if k == key then x else map k
