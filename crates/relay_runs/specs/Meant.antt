-- When the bot's own text is said where answers are mended.
use Rattle.std.specs.Prelude.{◌≡◌, ℕ, List, ◌∷◌, ◌++◌, Option, Some}
use Rattle.game_def.specs.Game.{Game}
use Rattle.seat_relay.specs.Mending.{IsMendedAnswer}

-- if answers are mended, and the text answers the last line so that it is mended to something, then it is mended to itself
abbrev pub IsRight : Option Game → Option (List ℕ) → List ℕ → Type 0
IsRight mended last text =
    (game : Game) (line field other : List ℕ) → mended ≡ Some game → last ≡ Some line → text ≡ line ++ 58 ∷ field → IsMendedAnswer game line field other → IsMendedAnswer game line field text
