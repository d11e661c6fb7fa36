-- A text as lines, and a line as words.
use Rattle.std.specs.Prelude.{◌≢◌, ℕ, ◌-◌, Bool, true, false, ◌==◌, ◌||◌, List, [], ◌∷◌, length, take, slice_index, if◌then◌else◌}
use Rattle.std.specs.List.{AllByRecursion, slice_split, onto_first}

-- no line feed stands among the bytes
abbrev pub HasNoFeed : List ℕ → Type 0
HasNoFeed bytes = AllByRecursion (λ byte. byte ≢ 10) bytes

-- a line without the CR at its end
abbrev pub without_cr : List ℕ → List ℕ
without_cr line = if slice_index line (length line - 1) == 13 then take (length line - 1) line else line

-- what stands between the line feeds: each piece but the last is a line, and the last is one if it has a byte
unfoldable pub lines_of : List (List ℕ) → List (List ℕ)
lines_of [] = []
lines_of (last ∷ []) = if length last == 0 then [] else last ∷ []
lines_of (piece ∷ next ∷ more) = without_cr piece ∷ lines_of (next ∷ more)

-- the lines of a text: each ends at LF, before which a CR is dropped; the last may lack its LF
unfoldable pub lines : List ℕ → List (List ℕ)
lines text = lines_of (slice_split (λ byte. byte == 10) text)

-- a space or a tab
abbrev pub is_blank : ℕ → Bool
is_blank byte = byte == 32 || byte == 9

-- what ends a word: a space, a tab, `=` and `#`
abbrev pub ends_word : ℕ → Bool
ends_word byte = is_blank byte || byte == 61 || byte == 35

-- whether a text begins with a further byte of a word
abbrev pub goes_on : List ℕ → Bool
goes_on [] = false
goes_on (byte ∷ rest) = if ends_word byte then false else true

-- the words of a line, from a byte, what follows it, and the words of that
abbrev pub words_from : ℕ → List ℕ → List (List ℕ) → List (List ℕ)
words_from byte rest others =
    if is_blank byte then others
    else if byte == 35 then []
    else if byte == 61 then (byte ∷ []) ∷ others
    else if goes_on rest then onto_first byte others
    else (byte ∷ []) ∷ others

-- the words of a line up to `#`: parted by spaces and tabs, `=` being a word of its own
unfoldable pub words : List ℕ → List (List ℕ)
words [] = []
words (byte ∷ rest) = words_from byte rest (words rest)
