-- Reading a game file from the first line on, with the first fault that is met.
use Rattle.std.specs.Prelude.{ℕ, ◌+◌, Bool, true, false, ◌==◌, ◌&&◌, nat_le, List, [], ◌∷◌, ◌++◌, length, Option, Some, None, Result, Ok, Err, codes, unwrap_or, if◌then◌else◌}
use Rattle.std.specs.List.{list_all}
use Rattle.std.specs.Option.{option_map}
use Rattle.std.specs.Char.{is_ascii_digit}
use Rattle.std.specs.Str.{str_eq_ignore_ascii_case}
use Rattle.game_def.specs.Text.{words}
use Rattle.game_def.specs.GameFile.{number_of}
use Rattle.game_def.specs.Fault.{fault_at}
use Rattle.game_def.specs.Key.{key_named, fits, allows}
use Rattle.game_def.specs.Entries.{is_set}
use Rattle.game_def.specs.declared.key.Key.{Key}
use Rattle.game_def.specs.declared.entry.Entry.{Entry}
use Rattle.game_def.specs.declared.fault_kind.FaultKind.{FaultKind}
use Rattle.game_def.specs.declared.fault_kind.FaultKind.TheVariants.{NoGamedef, NoEnd, UnknownKey, BadNumber, WrongCount, RepeatedKey}
use Rattle.game_def.specs.declared.fault.GameFault.{GameFault}

infixl 10 ◌>>=◌
abbrev pub ◌>>=◌ : {A B F : Type 0} → Result A F → (A → Result B F) → Result B F
(Ok x) >>= f = f x
(Err e) >>= f = Err e

-- one to ten digits
abbrev pub is_number : List ℕ → Bool
is_number word = nat_le 1 (length word) && nat_le (length word) 10 && list_all is_ascii_digit word

-- a value of a key
unfoldable pub number : Key → List ℕ → Result ℕ FaultKind
number key word = if is_number word && fits key (number_of word) then Ok (number_of word) else Err BadNumber

-- the values of a key, one after the other
unfoldable pub numbers : Key → List (List ℕ) → Result (List ℕ) FaultKind
numbers key [] = Ok []
numbers key (word ∷ more) = do
  first ← number key word
  others ← numbers key more
  Ok (first ∷ others)

-- as many numbers as a line of the key may have
abbrev pub counted : Key → List ℕ → Result (List ℕ) FaultKind
counted key values = if allows key (length values) then Ok values else Err WrongCount

-- each value is tested as a number before their count is looked at
unfoldable pub values : Key → List (List ℕ) → Result (List ℕ) FaultKind
values key texts = do
  found ← numbers key texts
  counted key found

-- whether a word is =
abbrev pub is_sign : List ℕ → Bool
is_sign [] = false
is_sign (byte ∷ []) = byte == 61
is_sign (byte ∷ next ∷ rest) = false

-- the words behind a key, without the = that may stand first
unfoldable pub without_sign : List (List ℕ) → List (List ℕ)
without_sign [] = []
without_sign (word ∷ more) = if is_sign word then more else word ∷ more

-- the entry of a line that begins with a key
unfoldable pub entry_with : List Entry → ℕ → List (List ℕ) → Option Key → Result Entry FaultKind
entry_with entries line texts None = Err UnknownKey
entry_with entries line texts (Some key) =
    if is_set entries key then Err RepeatedKey else do
      found ← values key (without_sign texts)
      Ok (record { key = key; line = line; values = record { items = found } })

-- the entries with those of one more line
unfoldable pub with_line : List Entry → ℕ → List (List ℕ) → Result (List Entry) FaultKind
with_line entries line [] = Ok entries
with_line entries line (name ∷ texts) = do
  entry ← entry_with entries line texts (key_named name)
  Ok (entries ++ entry ∷ [])

-- a line without a word
abbrev pub is_blank : List (List ℕ) → Bool
is_blank [] = true
is_blank (word ∷ texts) = false

-- the words behind a name that is written in capital or small letters
abbrev pub named_first : List ℕ → List (List ℕ) → Option (List (List ℕ))
named_first name [] = None
named_first name (word ∷ texts) = if str_eq_ignore_ascii_case word name then Some texts else None

-- the line GAMEDEF
abbrev pub is_gamedef : List (List ℕ) → Bool
is_gamedef texts = unwrap_or (option_map is_blank (named_first (codes "gamedef") texts)) false

-- the line END GAMEDEF
abbrev pub is_end : List (List ℕ) → Bool
is_end texts = unwrap_or (option_map is_gamedef (named_first (codes "end") texts)) false

-- a fault is told at its line
abbrev pub told_at : {A : Type 0} → ℕ → Result A FaultKind → Result A GameFault
told_at line (Ok x) = Ok x
told_at line (Err kind) = Err (fault_at line kind)

-- a line with a word is GAMEDEF; without one a later line is
abbrev pub first_line : ℕ → List (List ℕ) → List (List ℕ) → Result (ℕ × List (List ℕ)) GameFault → Result (ℕ × List (List ℕ)) GameFault
first_line line [] more later = later
first_line line (word ∷ texts) more later = if is_gamedef (word ∷ texts) then Ok (line, more) else Err (fault_at line NoGamedef)

-- the first line that has a word is GAMEDEF: how many lines were read, and those that follow
unfoldable pub gamedef_from : ℕ → List (List ℕ) → Result (ℕ × List (List ℕ)) GameFault
gamedef_from read [] = Err (fault_at read NoGamedef)
gamedef_from read (line ∷ more) = first_line (read + 1) (words line) more (gamedef_from (read + 1) more)

-- the entries up to END GAMEDEF, and the number of its line
unfoldable pub entries_from : ℕ → List Entry → List (List ℕ) → Result (List Entry × ℕ) GameFault
entries_from read entries [] = Err (fault_at read NoEnd)
entries_from read entries (line ∷ more) =
    if is_end (words line) then Ok (entries, read + 1) else do
      found ← told_at (read + 1) (with_line entries (read + 1) (words line))
      entries_from (read + 1) found more
