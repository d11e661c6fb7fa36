-- Rows of bytes, each under a mark, whose bytes stand among texts that they share.
use Rattle.std.specs.Prelude.{ℕ, ◌<◌, List, [], ◌∷◌, map, Option, Some, None, slice_get}
use Rattle.dealer_world.specs.declared.shared_rows.Numbered.{Numbered}
use Rattle.dealer_world.specs.Rows.{Row}

abbrev pub bytes_in : {U : Type 0} → Option (Row U) → List ℕ
bytes_in None = []
bytes_in (Some row) = row.text

-- the text of a number; without bytes where there aren't so many
abbrev pub text_of : {U : Type 0} → List (Row U) → ℕ → List ℕ
text_of texts number = bytes_in (slice_get texts number)

-- the row of an entry
abbrev pub row_by : {U T : Type 0} → List (Row U) → Numbered T → Row T
row_by texts entry = record { mark = entry.mark; text = text_of texts entry.text }

-- the rows of entries, in order
abbrev pub rows_by : {U T : Type 0} → List (Row U) → List (Numbered T) → List (Row T)
rows_by texts entries = map (row_by texts) entries

-- each entry has a number of one of so many texts
abbrev pub AreNumbered : {T : Type 0} → ℕ → List (Numbered T) → Type 0
AreNumbered count [] = Unit {0}
AreNumbered count (entry ∷ entries) = (entry.text < count) × AreNumbered count entries
