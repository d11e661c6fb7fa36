-- Times: seconds in a match file, milliseconds here.
use Rattle.std.specs.Prelude.{◌≡◌, ℕ, ◌+◌, ◌*◌, ◌^◌, ◌≤◌, pos, true, List, ◌∷◌, ◌++◌, length, decimal, Option}
use Rattle.std.specs.Char.{is_ascii_digit}
use Rattle.std.specs.List.{list_all}
use Rattle.std.specs.Str.Parse.{digits_value}
use Rattle.toml.specs.Data.{Data, Members, string, integer}
use Rattle.match_file.specs.declared.key.Key.{Key}
use Rattle.match_file.specs.Said.{SaysIfThere}
use Rattle.match_file.specs.Matches.{entry_at}

-- one to three digits behind a point, as thousandths
pub record IsFraction (digits : List ℕ) (thousandths : ℕ) : Type 0 where
  pub are_digits : list_all is_ascii_digit digits ≡ true
  pub least : 1 ≤ length digits
  pub most : length digits ≤ 3
  pub value : thousandths * 10 ^ length digits ≡ digits_value 10 digits * 1000

-- the text has whole seconds, a point and a fraction
pub record IsPointed (text : List ℕ) (milliseconds : ℕ) : Type 0 where
  pub seconds : ℕ
  pub digits : List ℕ
  pub thousandths : ℕ
  pub form : text ≡ decimal seconds ++ 46 ∷ digits
  pub fraction : IsFraction digits thousandths
  pub value : milliseconds ≡ seconds * 1000 + thousandths

-- a number of whole seconds, or a text with a fraction
abbrev pub SaysSeconds : Data → ℕ → Type 0
SaysSeconds (integer (pos seconds)) milliseconds = milliseconds ≡ seconds * 1000
SaysSeconds (string text) milliseconds = IsPointed text milliseconds
SaysSeconds entry milliseconds = ⊥

-- 0.1 to 86400 seconds
pub record IsTime (entry : Data) (milliseconds : ℕ) : Type 0 where
  pub said : SaysSeconds entry milliseconds
  pub least : 100 ≤ milliseconds
  pub most : milliseconds ≤ 86400000

-- the time at a key; none where there is no entry
abbrev pub SaysTime : Key → Members → Option ℕ → Type 0
SaysTime key table milliseconds = SaysIfThere IsTime (entry_at key table) milliseconds
