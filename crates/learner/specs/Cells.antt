-- The cells as the fields of a learner hold them: what stands in each, and for how much more there is room.
use Rattle.std.specs.Prelude.{ℕ, ◌-◌, List, [], ◌∷◌, map, min, slice_index_or, Vec, vec_len, vec_capacity}
use Rattle.std.specs.declared.alloc.Global.{Global}
use Rattle.slot_log.specs.Slots.{Log}
use Rattle.learner.specs.declared.tally.Tally.{Tally}
use Rattle.learner.specs.Learning.{Learned}

abbrev pub tallies_in : List (Vec Tally Global) → List (List Tally)
tallies_in cells = map (λ cell. cell.items) cells

abbrev pub learned_by : ℕ → List (Vec Tally Global) → Log → Learned
learned_by nodes cells log = record { nodes = nodes; cells = tallies_in cells; log = log }

-- for how many further tallies a cell has room
abbrev pub spare_of : Vec Tally Global → ℕ
spare_of cell = vec_capacity cell - vec_len cell

abbrev pub spares : List (Vec Tally Global) → List ℕ
spares cells = map spare_of cells

abbrev pub spare_at : List (Vec Tally Global) → ℕ → ℕ
spare_at cells place = slice_index_or (spares cells) place 0

-- the least of these numbers, and of a further one
abbrev pub least_with : ℕ → List ℕ → ℕ
least_with most [] = most
least_with most (x ∷ xs) = min x (least_with most xs)

abbrev pub least : List ℕ → ℕ
least [] = 0
least (x ∷ xs) = least_with x xs

-- for how many further tallies each cell has room
abbrev pub room_in : List (Vec Tally Global) → ℕ
room_in cells = least (spares cells)
