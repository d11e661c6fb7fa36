-- What is printed of a log: a line a hand and position.
use Rattle.std.specs.Prelude.{◌≡◌, ℕ, ℤ, pos, List, [], ◌∷◌, ◌++◌, length, decimal, slice_index_or, Err}
use Rattle.std.specs.Fmt.{signed_decimal}
use Rattle.std.specs.List.{flat_map, range_with_len}
use Rattle.sha2.specs.Sha256.{sha256}
use Rattle.game_def.specs.Game.{Game}
use Rattle.side_pots.specs.Pots.{total}
use Rattle.slot_log.specs.Hand.{Hand}
use Rattle.slot_log.specs.Dealer.{hands_of}
use Rattle.match_log.specs.Check.{IsMatchLog, Says}
use Rattle.match_log.specs.Names.{names_by_position}
use Rattle.match_log.specs.Payoffs.{payoffs_of}
use Rattle.luck.specs.Means.{parts_of}
use Rattle.luck.specs.declared.fault.LuckFault.{LuckFault}
use Rattle.luck.specs.declared.fault.LuckFault.TheVariants.{Log, OutOfMemory}
use Rattle.luck.specs.Lucks.{luck_of, lucks_of}

-- HAND NAME PAYOFF LUCK/PARTS
unfoldable pub luck_line : ℕ → List ℕ → ℤ → ℤ → ℕ → List ℕ
luck_line number name payoff luck parts =
    decimal number ++ (32 ∷ (name ++ (32 ∷ (signed_decimal payoff ++ (32 ∷ (signed_decimal luck ++ (47 ∷ (decimal parts ++ 10 ∷ []))))))))

-- the line of a position in a hand, by the names of the positions
abbrev pub position_line : List ℕ → Game → List (List ℕ) → ℕ → Hand → ℕ → List ℕ
position_line key game names number hand position =
    luck_line number (slice_index_or names position []) (slice_index_or (payoffs_of game hand) position (pos 0)) (luck_of key game number hand position)
    (parts_of game.players)

-- the lines of a hand, by position
unfoldable pub hand_lines : List ℕ → Game → List (List ℕ) → ℕ → Hand → List ℕ
hand_lines key game names number hand =
    flat_map (position_line key game (names_by_position game.players number names) number hand) (range_with_len 0 game.players)

-- the lines of some hands, which are newest first; the lines are oldest first
unfoldable pub all_lines : List ℕ → Game → List (List ℕ) → List Hand → List ℕ
all_lines key game names [] = []
all_lines key game names (hand ∷ earlier) = all_lines key game names earlier ++ hand_lines key game names (length earlier) hand

-- in each of some hands, which are newest first, the lucks sum to 0
abbrev pub LucksSumToZero : List ℕ → Game → List Hand → Type 0
LucksSumToZero key game [] = Unit {0}
LucksSumToZero key game (hand ∷ earlier) = LucksSumToZero key game earlier × (total (lucks_of key game (length earlier) hand) ≡ pos 0)

-- the lines of a match's log, whose SHA-256 is the key of the draws; however the log is read, they are these
pub record AreLucksOf (game : Game) (log lines : List ℕ) : Type 0 where
  pub right : IsMatchLog game log
  pub lucks : (read : IsMatchLog game log) → lines ≡ all_lines (sha256 log) game read.names (hands_of game read.title.hands read.commands)
  pub zero_sum : (read : IsMatchLog game log) → LucksSumToZero (sha256 log) game (hands_of game read.title.hands read.commands)

-- a log is refused as `check` refuses it, and otherwise only for want of memory
abbrev pub IsRefusal : Game → List ℕ → LuckFault → Type 0
IsRefusal game log (Log fault) = Says game log (Err fault)
IsRefusal game log OutOfMemory = Unit {0}
