-- Where in a match a dealer's line stands, by its text alone: no game is wanted for it.
use Rattle.std.specs.Prelude.{◌≡◌, ℕ, ◌^◌, ◌<◌, Bool, nat_lt, ◌==◌, ◌&&◌, ◌||◌, List, length, decimal}
use Rattle.game_def.specs.Game.{IsGame}
use Rattle.betting.specs.Text.{text as betting_text}
use Rattle.matchstate.specs.Line.{Fields, HasFields, line_text}
use Rattle.matchstate.specs.View.{View, IsView}
use Rattle.seat_relay.specs.declared.place.Place.{Place}

-- the text is a line's word and four fields, of which the second is the number of a hand and the third so long
pub record IsPlaced (text : List ℕ) (place : Place) : Type 0 where
  pub fields : Fields
  pub has_fields : HasFields text fields
  pub hand_text : fields.hand ≡ decimal place.hand
  pub hand_below : place.hand < 2 ^ 32
  pub betting_len : place.len ≡ length fields.betting

-- the second stands behind the first: it is of a later hand, or of the same with more betting
abbrev pub is_later : Place → Place → Bool
is_later first second = nat_lt first.hand second.hand || (first.hand == second.hand && nat_lt first.len second.len)

-- the place of the first deal's line: no place stands before it
abbrev pub is_first : Place → Bool
is_first place = place.hand == 0 && place.len == 0

abbrev pub is_same : Place → Place → Bool
is_same first second = first.hand == second.hand && first.len == second.len

-- the dealer's line of a view stands where its hand and its betting text say
abbrev pub LinesOfViewsArePlaced : Type 0
LinesOfViewsArePlaced = (view : View) → IsGame view.game → IsView view → IsPlaced (line_text view) (record { hand = view.hand; len = length (betting_text view.game view.past) })
