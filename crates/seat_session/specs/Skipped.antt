-- Lines that are skipped: those that begin with # or ;.
use Rattle.std.specs.Prelude.{◌≡◌, ℕ, ◌≤◌, Bool, true, false, ◌||◌, ◌==◌, List, [], ◌∷◌, ◌++◌, length}
use Rattle.std.specs.List.{flat_map, AllByRecursion}
use Rattle.seat_session.specs.Lines.{HasNoFeed, text_of}

-- # is 35, and ; is 59
abbrev pub is_skipped : List ℕ → Bool
is_skipped [] = false
is_skipped (byte ∷ more) = byte == 35 || byte == 59

-- a line, its line feed aside, that is skipped
pub record IsSkippedLine (line : List ℕ) : Type 0 where
  pub one_line : HasNoFeed line
  pub short : length line ≤ 4096
  pub skipped : is_skipped (text_of line) ≡ true

-- lines as they stand on a stream, each with its line feed
abbrev pub on_stream : List (List ℕ) → List ℕ
on_stream lines = flat_map (λ line. line ++ 10 ∷ []) lines

-- the stream is whole lines that are skipped, and then the rest
pub record Skips (stream rest : List ℕ) : Type 0 where
  pub lines : List (List ℕ)
  pub each : AllByRecursion IsSkippedLine lines
  pub joined : stream ≡ on_stream lines ++ rest
