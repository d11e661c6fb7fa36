-- What a view's fields keep, and the view that they hold.
use Rattle.std.specs.Prelude.{◌≡◌, ℕ, ◌≤◌, reverse, slice_index, take}
use Rattle.betting.specs.Text.{slash_counts}
use Rattle.matchstate.specs.View.{View, IsView}
use Rattle.matchstate.specs.SeenCards.{holes_in, boards_in}
use Rattle.matchstate.specs.declared.view.View.TheInside.{Inside}

abbrev pub view_in : Inside → View
view_in v = record {
  game = v.game;
  position = v.position;
  hand = v.hand;
  past = reverse (take v.count v.actions);
  holes = holes_in v.game.players v.seen;
  boards = boards_in v.seen;
}

-- a view, no more actions than there are places, and the slashes behind each of them
pub record IsKept (v : Inside) : Type 0 where
  pub few : v.count ≤ 256
  pub slashes : take v.count v.slashes ≡ reverse (slash_counts v.game (reverse (take v.count v.actions)))
  pub few_slashes : (index : ℕ) → slice_index (take v.count v.slashes) index ≤ 3
  pub is_view : IsView (view_in v)
