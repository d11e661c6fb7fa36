-- The names that stand in a log: of seats and matches, and of game files.
use Rattle.std.specs.Prelude.{◌≡◌, ℕ, ◌≤◌, Bool, true, ◌||◌, ◌==◌, List, [], map, length, slice_index_or, bytes_eq}
use Rattle.std.specs.Char.{is_ascii_alphanumeric}
use Rattle.std.specs.List.{AllByRecursion, IsDistinct, range_with_len}
use Rattle.matchstate.specs.View.{seat_of}

-- a letter, a digit, or one of _ - .
abbrev pub is_name_byte : ℕ → Bool
is_name_byte byte = ((is_ascii_alphanumeric byte || byte == 95) || byte == 45) || byte == 46

-- 1 to 32 of these
pub record IsName (name : List ℕ) : Type 0 where
  pub least : 1 ≤ length name
  pub most : length name ≤ 32
  pub bytes : AllByRecursion (λ byte. is_name_byte byte ≡ true) name

-- 1 to 200 printable ASCII characters without space
pub record IsGameWord (word : List ℕ) : Type 0 where
  pub least : 1 ≤ length word
  pub most : length word ≤ 200
  pub printable : AllByRecursion (λ byte. (33 ≤ byte) × (byte ≤ 126)) word

-- a name for each seat, no two the same
pub record AreNames (players : ℕ) (names : List (List ℕ)) : Type 0 where
  pub one_each : length names ≡ players
  pub each_name : AllByRecursion IsName names
  pub distinct : IsDistinct bytes_eq names

-- the seats' names by position, in a hand of this number: with each hand the positions move on by one seat
abbrev pub names_by_position : ℕ → ℕ → List (List ℕ) → List (List ℕ)
names_by_position players hand names = map (λ position. slice_index_or names (seat_of players hand position) []) (range_with_len 0 players)
