-- Rows of bytes, each under a mark, one behind another.
use Rattle.std.specs.Prelude.{◌≡◌, ℕ, zero, suc, ◌≤◌, ◌-◌, List, [], ◌∷◌, take, drop}
use Rattle.dealer_world.specs.declared.rows.Entry.{Entry}

-- bytes and their mark
pub record Row (T : Type 0) : Type 0 where
  pub mark : T
  pub text : List ℕ

-- rows in order, and for how many more rows and bytes there is room
pub record Kept (T : Type 0) : Type 0 where
  pub rows : List (Row T)
  pub row_room : ℕ
  pub byte_room : ℕ

-- the row of an entry that begins at this byte
abbrev pub row_at : {T : Type 0} → ℕ → Entry T → List ℕ → Row T
row_at from entry bytes = record { mark = entry.mark; text = take (entry.end - from) (drop from bytes) }

-- the bytes, cut at the ends of the entries, the first row from this byte on
abbrev pub cut : {T : Type 0} → ℕ → List (Entry T) → List ℕ → List (Row T)
cut from [] bytes = []
cut from (entry ∷ entries) bytes = row_at from entry bytes ∷ cut entry.end entries bytes

-- the rows follow one another from this byte on, and end at the last
abbrev pub AreEnds : {T : Type 0} → ℕ → List (Entry T) → ℕ → Type 0
AreEnds from [] last = from ≡ last
AreEnds from (entry ∷ entries) last = (from ≤ entry.end) × AreEnds entry.end entries last

-- where the row of a number begins, the first row at this byte
abbrev pub start_of : {T : Type 0} → ℕ → List (Entry T) → ℕ → ℕ
start_of from [] number = from
start_of from (entry ∷ entries) zero = from
start_of from (entry ∷ entries) (suc number) = start_of entry.end entries number
