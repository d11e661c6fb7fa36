-- Which moment a wire may show next.
use Rattle.std.specs.Prelude.{◌≡◌, ℕ, nat_le, true, List}
use Rattle.std.specs.Coded.{Coded-set, coded_bool, ×_prop}
use Rattle.node_wires.specs.Passages.{Passage, AreInOrder, latest_in}

-- of the moments that were seen none is below the one before, nor above this one
abbrev pub IsTimely : ℕ → List Passage → Type 0
IsTimely moment passed = AreInOrder passed × (nat_le (latest_in passed) moment ≡ true)

pub timely_prop : (moment : ℕ) (passed : List Passage) → IsProp (IsTimely moment passed)
timely_prop moment passed = ×_prop (Coded-set coded_bool _ _) (Coded-set coded_bool _ _)
