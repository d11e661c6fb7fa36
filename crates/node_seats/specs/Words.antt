-- What a bot says before it names the version: from which line on it asks to be told.
use Rattle.std.specs.Prelude.{ℕ, ◌-◌, ◌==◌, ◌&&◌, ◌||◌, nat_lt, Bool, true, false, if◌then◌else◌, List, [], ◌∷◌, ◌++◌, length, take, drop, slice_index_or, codes, bytes_eq, Option, Some, None}
use Rattle.node_seats.specs.declared.limits.TheConstants.{WORDS}
use Rattle.node_seats.specs.declared.words.Asked.{Asked}
use Rattle.node_seats.specs.declared.words.Asked.TheVariants as asks

-- a line without a carriage return at its end
abbrev pub text_of : List ℕ → List ℕ
text_of line = if nat_lt 0 (length line) && (slice_index_or line (length line - 1) 0 == 13) then take (length line - 1) line else line

-- it begins with # or ;
abbrev pub is_skipped : List ℕ → Bool
is_skipped [] = false
is_skipped (byte ∷ more) = byte == 35 || byte == 59

-- the word behind `#RESUME `
abbrev pub word_of : List ℕ → Option (List ℕ)
word_of text = if bytes_eq (take 8 text) (codes "#RESUME ") then Some (drop 8 text) else None

abbrev pub asked_by : List ℕ → Asked
asked_by word = if bytes_eq word (codes "FIRST") then asks.First else if bytes_eq word (codes "NEWEST") then asks.Newest else asks.Line

-- what was read: what came of a line, the line that was named, what was asked, and whether nothing more is read
pub record Reading : Type 0 where
  pub line : List ℕ
  pub named : List ℕ
  pub asked : Asked
  pub is_over : Bool

abbrev pub fresh : Reading
fresh = record { line = []; named = []; asked = asks.Nothing; is_over = false }

-- ---- what more bytes make of it

-- the first word asks, and a second one is one too many
abbrev pub with_word : Reading → List ℕ → Asked → Reading
with_word r word asks.Nothing = record { line = r.line; named = word; asked = asked_by word; is_over = r.is_over }
with_word r word asks.First = record { line = r.line; named = r.named; asked = asks.Other; is_over = r.is_over }
with_word r word asks.Newest = record { line = r.line; named = r.named; asked = asks.Other; is_over = r.is_over }
with_word r word asks.Line = record { line = r.line; named = r.named; asked = asks.Other; is_over = r.is_over }
with_word r word asks.Other = record { line = r.line; named = r.named; asked = asks.Other; is_over = r.is_over }

abbrev pub with_word_of : Reading → Option (List ℕ) → Reading
with_word_of r None = r
with_word_of r (Some word) = with_word r word r.asked

-- a line that is skipped has come to its end
abbrev pub with_asked : Reading → Reading
with_asked r = with_word_of r (word_of (text_of r.line))

abbrev pub over : Reading → Asked → Reading
over r asked = record { line = r.line; named = r.named; asked = asked; is_over = true }

abbrev pub cleared : Reading → Reading
cleared r = record { line = []; named = r.named; asked = r.asked; is_over = r.is_over }

-- any line has: behind one that isn't skipped nothing is read
abbrev pub with_line : Reading → Reading
with_line r = cleared (if is_skipped r.line then with_asked r else over r r.asked)

-- one byte more: a line feed ends the line; no line is longer than this
abbrev pub with_byte : Reading → ℕ → Reading
with_byte r byte =
    if r.is_over then r else if byte == 10 then with_line r
    else if nat_lt (length r.line) WORDS then record { line = r.line ++ byte ∷ []; named = r.named; asked = r.asked; is_over = r.is_over } else over r asks.Other

abbrev pub with_bytes : Reading → List ℕ → Reading
with_bytes r [] = r
with_bytes r (byte ∷ more) = with_bytes (with_byte r byte) more

-- what was asked by all that came, in whatever pieces, and the line that was named
abbrev pub read_of : List ℕ → Reading
read_of came = with_bytes fresh came
