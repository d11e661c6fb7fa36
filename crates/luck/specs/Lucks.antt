-- Luck: how far each street moved what a position may expect.
use Rattle.std.specs.Prelude.{ℕ, zero, suc, ℤ, pos, ◌+ℤ◌, ◌-ℤ◌, List, map}
use Rattle.std.specs.List.{range_with_len}
use Rattle.game_def.specs.Game.{Game}
use Rattle.slot_log.specs.Hand.{Hand}
use Rattle.matchstate.specs.View.{rounds_seen}
use Rattle.match_log.specs.Payoffs.{amounts_of, folds_of}
use Rattle.luck.specs.Deals.{known_at, completions}
use Rattle.luck.specs.Draws.{stream_of_hand, drawn}
use Rattle.luck.specs.Means.{parts_of, mean_of}
use Rattle.luck.specs.Streets.{before_street}

-- the deals that are counted once a street is dealt: from the flop on all that may come, before it as many as there are parts, drawn under the key
abbrev pub deals_at : List ℕ → ℕ → ℕ → List ℕ → ℕ → List (List ℕ)
deals_at key number players deal zero = (drawn (known_at players deal zero) (stream_of_hand key number) (parts_of players)).0
deals_at key number players deal (suc street) = completions players (known_at players deal (suc street))

-- what a position may expect over these deals, with the amounts and folds at the dealing of a street
abbrev pub mean_at : Game → Hand → ℕ → ℕ → List (List ℕ) → ℤ
mean_at game hand street position deals =
    mean_of (amounts_of game (before_street game street hand.past)) (folds_of game (before_street game street hand.past)) position deals

-- what a position may expect behind a street less what it might before it, with the same amounts and folds
abbrev pub street_luck : List ℕ → Game → ℕ → Hand → ℕ → ℕ → ℤ
street_luck key game number hand position street =
    mean_at game hand (suc street) position (deals_at key number game.players hand.deal (suc street))
    -ℤ mean_at game hand (suc street) position (deals_at key number game.players hand.deal street)

-- the luck of the first so many streets behind the hole cards
unfoldable pub luck_through : List ℕ → Game → ℕ → Hand → ℕ → ℕ → ℤ
luck_through key game number hand position zero = pos 0
luck_through key game number hand position (suc street) =
    luck_through key game number hand position street +ℤ street_luck key game number hand position street

-- a position's luck in a hand: that of all streets that its line shows
abbrev pub luck_of : List ℕ → Game → ℕ → Hand → ℕ → ℤ
luck_of key game number hand position = luck_through key game number hand position (rounds_seen game hand.past)

-- the lucks of a hand, by position
abbrev pub lucks_of : List ℕ → Game → ℕ → Hand → List ℤ
lucks_of key game number hand = map (luck_of key game number hand) (range_with_len 0 game.players)
