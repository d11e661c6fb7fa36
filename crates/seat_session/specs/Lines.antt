-- Lines on a stream of bytes. A line feed (10) ends a line; a carriage return (13) right before it belongs
-- to the line's end. A client's line has at most 4096 bytes before its line feed.
use Rattle.std.specs.Prelude.{◌≡◌, ℕ, ◌≤◌, List, [], ◌∷◌, ◌++◌, length, if◌then◌else◌, ◌==◌}
pub use Rattle.game_def.specs.Text.{HasNoFeed}

-- what a line says: its bytes without a carriage return at their end
abbrev pub text_of : List ℕ → List ℕ
text_of [] = []
text_of (last ∷ []) = if last == 13 then [] else last ∷ []
text_of (byte ∷ next ∷ more) = byte ∷ text_of (next ∷ more)

-- the first line feed of the stream stands between the line and the rest
pub record Breaks (stream line rest : List ℕ) : Type 0 where
  pub joined : stream ≡ line ++ 10 ∷ rest
  pub one_line : HasNoFeed line

-- The stream begins with a whole line, and goes on with the rest behind its line feed.
pub record BeginsWith (stream line rest : List ℕ) : Type 0 where
  pub breaks : Breaks stream line rest
  pub short : length line ≤ 4096

-- no whole line stands there yet
pub record IsPartial (stream : List ℕ) : Type 0 where
  pub one_line : HasNoFeed stream
  pub short : length stream ≤ 4096

-- the first line feed, if there is one, comes behind more bytes than a line may have
pub record IsOverlong (stream front more : List ℕ) : Type 0 where
  pub joined : stream ≡ front ++ more
  pub one_line : HasNoFeed front
  pub long : length front ≡ 4097
