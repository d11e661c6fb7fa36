-- The pieces in which a seat's bytes are read.
use Rattle.std.specs.Prelude.{ℕ, ◌+◌, ◌==◌, ◌||◌, Bool, List, length, min, nat_le, is_some, position}
use Rattle.std.specs.List.{position_or_len}

abbrev pub is_line_feed : ℕ → Bool
is_line_feed byte = byte == 10

-- how long the next piece of these bytes is: up to and with the first line feed; all of them where there is none
abbrev pub piece_len : List ℕ → ℕ
piece_len bytes = min (1 + position_or_len is_line_feed bytes) (length bytes)

-- how much of the next piece a buffer of so many bytes takes
abbrev pub part_len : ℕ → List ℕ → ℕ
part_len room bytes = min (piece_len bytes) room

-- nothing came
abbrev pub is_empty : List ℕ → Bool
is_empty bytes = length bytes == 0

-- a whole piece came: a line with its line feed, or as many bytes as a piece may have
abbrev pub is_whole : List ℕ → Bool
is_whole bytes = nat_le 4097 (length bytes) || is_some (position is_line_feed bytes)
