-- What a betting text's fields keep, and the text that they hold.
use Rattle.std.specs.Prelude.{◌≡◌, ℕ, ◌≤◌, List, length, reverse, slice_index}
use Rattle.betting.specs.Text.{text, slash_counts}
use Rattle.matchstate.specs.declared.betting_field.BettingText.TheInside.{Inside}

abbrev pub text_in : Inside → List ℕ
text_in betting = text betting.game.now (reverse betting.actions.now)

-- no more actions than there are places, and the slashes behind each of them
pub record IsSpelled (betting : Inside) : Type 0 where
  pub few : length betting.actions.now ≤ 256
  pub places : length betting.slashes.now ≡ length betting.actions.now
  pub slashes : betting.slashes.now ≡ reverse (slash_counts betting.game.now (reverse betting.actions.now))
  pub few_slashes : (index : ℕ) → slice_index betting.slashes.now index ≤ 3
