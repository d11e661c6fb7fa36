-- That a text has one verdict, and that what a hand pays depends on what its line shows alone.
use Rattle.std.specs.Prelude.{◌≡◌, ℕ, true, List, length, Result}
use Rattle.std.specs.List.{AllByRecursion}
use Rattle.game_def.specs.Game.{Game, IsGame}
use Rattle.slot_log.specs.Hand.{Hand}
use Rattle.slot_log.specs.Dealer.{is_match_over, hands_of}
use Rattle.slot_log.specs.declared.command.Command.{Command}
use Rattle.match_log.specs.Payoffs.{payoffs_of}
use Rattle.match_log.specs.Lines.{shown_cards}
use Rattle.match_log.specs.Check.{DealsFairly, IsPlayed, Says}
use Rattle.match_log.specs.declared.fault.LogFault.{LogFault}

-- the hands of commands that deal no card twice and end the match are played by the rules to their end, and
-- are as many as the match has
abbrev pub HandsEndFinished : Type 0
HandsEndFinished =
    (game : Game) (count : ℕ) (commands : List Command) → AllByRecursion DealsFairly commands
    → is_match_over game count (hands_of game count commands) ≡ true
    → AllByRecursion (IsPlayed game) (hands_of game count commands) × (length (hands_of game count commands) ≡ count)

-- two played hands whose lines show the same actions and cards pay the same
abbrev pub PayoffsAreThoseShown : Type 0
PayoffsAreThoseShown =
    (game : Game) (first second : Hand) → IsGame game → IsPlayed game first → IsPlayed game second
    → first.past ≡ second.past → shown_cards game first.past first.deal ≡ shown_cards game second.past second.deal
    → payoffs_of game first ≡ payoffs_of game second

-- all that is said of a text is the same
abbrev pub OneVerdict : Type 0
OneVerdict =
    (game : Game) (bytes : List ℕ) (first second : Result (Unit {0}) LogFault) → IsGame game
    → Says game bytes first → Says game bytes second → first ≡ second
