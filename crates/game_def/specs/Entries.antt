-- The entries of a game file: for each line that sets a key, the key, the line's number and the values.
use Rattle.std.specs.Prelude.{ℕ, Bool, List, Option, IsTrue, map, unwrap_or}
use Rattle.std.specs.List.{find, list_all, list_any, IsDistinct, AllByRecursion}
use Rattle.std.specs.Option.{option_map}
use Rattle.game_def.specs.Key.{same_key, is_nolimit, fits}
use Rattle.game_def.specs.declared.key.Key.{Key}
use Rattle.game_def.specs.declared.entry.Entry.{Entry}

-- the entry of a key
abbrev pub entry_of : List Entry → Key → Option Entry
entry_of entries key = find (λ entry. same_key entry.key key) entries

-- whether an entry sets a key
abbrev pub is_set : List Entry → Key → Bool
is_set entries key = list_any (λ entry. same_key entry.key key) entries

-- the values that a key is set to
abbrev pub values_of : List Entry → Key → Option (List ℕ)
values_of entries key = option_map (λ entry. entry.values.items) (entry_of entries key)

-- the values of a key, or other values where it isn't set
abbrev pub values_or : List Entry → Key → List ℕ → List ℕ
values_or entries key otherwise = unwrap_or (values_of entries key) otherwise

-- the line that sets a key, or another line where none does
abbrev pub line_of : List Entry → Key → ℕ → ℕ
line_of entries key otherwise = unwrap_or (option_map (λ entry. entry.line) (entry_of entries key)) otherwise

-- whether an entry is nolimit
abbrev pub has_nolimit : List Entry → Bool
has_nolimit entries = list_any (λ entry. is_nolimit entry.key) entries

-- each key is set once, to numbers that it may have
pub record AreEntries (entries : List Entry) : Type 0 where
  pub once : IsDistinct same_key (map (λ entry. entry.key) entries)
  pub fitting : AllByRecursion (λ entry. IsTrue (list_all (fits entry.key) entry.values.items)) entries
