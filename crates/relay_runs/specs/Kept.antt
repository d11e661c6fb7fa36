-- What each call of a relay keeps.
use Rattle.std.specs.Prelude.{◌≡◌, ◌⊎◌, ◌<◌, Bool, true, false, List, ◌++◌, Option, Some, None}
use Rattle.game_def.specs.Game.{Game}
use Rattle.node_wires.specs.Passages.{Passage}
use Rattle.seat_relay.specs.Relaying.{Event}
use Rattle.relay_runs.specs.declared.desk.Desk.{Desk}
use Rattle.relay_runs.specs.Since.{since_bot, bots_in}
use Rattle.relay_runs.specs.Course.{Course}

-- no bot was taken in: what happened before stays, and more may have happened behind it
pub record GoesOn (old new : Desk) (passed_old passed_new : List Passage) : Type 0 where
  pub bots : bots_in passed_new ≡ bots_in passed_old
  pub more : List Event
  pub happened : new.relay.events ≡ old.relay.events ++ more

-- a bot was taken in, and all that happened since is what passed since, whatever was before
pub record BeginsAnew (new : Desk) (passed_old passed_new : List Passage) : Type 0 where
  pub bots : bots_in passed_old < bots_in passed_new
  pub course : Course new (since_bot passed_new)

-- the first bot's lines may begin anywhere in the match if that is asked for, and those of each further bot
pub record IsMode (newest : Bool) (desk : Desk) (passed : List Passage) : Type 0 where
  pub next : bots_in passed ≡ 0 → desk.opening.newest ≡ newest
  pub later : 0 < bots_in passed → desk.opening.newest ≡ true
  pub first : bots_in passed ≡ 1 → desk.relay.mode.newest ≡ newest
  pub further : 1 < bots_in passed → desk.relay.mode.newest ≡ true

abbrev pub are_mended : Option Game → Bool
are_mended None = false
are_mended (Some game) = true

-- the bot's first answer to a line stands exactly if answers are mended: then each is legal, and no node refuses it
abbrev pub FirstStands : Desk → Type 0
FirstStands desk = desk.relay.mode.first_stands ≡ are_mended desk.mended

-- the token's line, the game by which answers are mended, where the bots' lines may begin, and whether first answers stand, stay; where what happened since the bot was taken in was what passed since, it is so still; and what happened
-- isn't changed, unless a bot is taken in
pub record Keeps (old new : Desk) (passed_old passed_new : List Passage) : Type 0 where
  pub hello : new.opening.token.items ≡ old.opening.token.items
  pub mended : new.mended ≡ old.mended
  pub course : Course old (since_bot passed_old) → Course new (since_bot passed_new)
  pub mode : (newest : Bool) → IsMode newest old passed_old → IsMode newest new passed_new
  pub stands : FirstStands old → FirstStands new
  pub grows : GoesOn old new passed_old passed_new ⊎ BeginsAnew new passed_old passed_new

-- the same where nothing passes
pub record Stays (old new : Desk) : Type 0 where
  pub kept : (passed : List Passage) → Keeps old new passed passed
