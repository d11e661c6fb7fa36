-- What a seat doesn't see of two matches it doesn't see of their beginnings either.
use Rattle.std.specs.Prelude.{◌≡◌, ℕ, List, length}
use Rattle.game_def.specs.Game.{Game}
use Rattle.slot_log.specs.declared.command.Command.{Command}
use Rattle.matchstate.specs.Line.{line}
use Rattle.matchstate.specs.Laws.{IsBeginning, Alike}

-- beginnings of one length of lists that are alike for a seat are alike for it
abbrev pub BeginningsAreAlike : Type 0
BeginningsAreAlike = (game : Game) (count seat : ℕ) (first second earlier before : List Command) → Alike game count seat first second
    → IsBeginning earlier first → IsBeginning before second → length earlier ≡ length before → Alike game count seat earlier before

-- and so all lines are the same that a seat gets in two matches that are alike for it
abbrev pub AlikeThroughout : Type 0
AlikeThroughout = (game : Game) (count seat : ℕ) (first second earlier before : List Command) → Alike game count seat first second
    → IsBeginning earlier first → IsBeginning before second → length earlier ≡ length before → line game count earlier seat ≡ line game count before seat
