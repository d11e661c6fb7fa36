-- The lines that the log has further once a hand has ended.
use Rattle.std.specs.Prelude.{ℕ, List, [], Option, Some, None, codes}
use Rattle.game_def.specs.Game.{Game}
use Rattle.slot_log.specs.Hand.{Hand}
use Rattle.match_log.specs.Lines.{header_line}
use Rattle.match_log.specs.Further.{further_lines as lines_further}
use Rattle.streamed.specs.Logged.{lettered}

-- the lines that the log has further once the seats are named
abbrev pub further_lines : Game → ℕ → Option (List (List ℕ)) → List Hand → List ℕ
further_lines game count None hands = []
further_lines game count (Some names) hands = lines_further game count names hands

-- the lines of a log, printed where there is a word for its game
abbrev pub printed : Option (List ℕ) → List ℕ → List ℕ
printed None text = []
printed (Some word) text = lettered text

-- the header, printed likewise
abbrev pub printed_header : Option (List ℕ) → ℕ → List ℕ
printed_header None count = []
printed_header (Some word) count = lettered (header_line (codes "hand") word count)
