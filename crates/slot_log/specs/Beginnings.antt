-- A list whose newest element comes first, and what it was before.
use Rattle.std.specs.Prelude.{◌≡◌, List, ◌++◌}

-- the list was the earlier one, and grew to be the later one: the earlier is its tail
abbrev pub IsBeginning : {A : Type 0} → List A → List A → Type 0
IsBeginning {A} earlier later = (newer : List A) × (later ≡ newer ++ earlier)
