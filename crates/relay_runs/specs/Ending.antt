-- How a relay ends once the match is over.
use Rattle.std.specs.Prelude.{◌≡◌, ℕ, true, false, Bool, List, [], ◌++◌, None}
use Rattle.node_wires.specs.declared.line.Line.TheVariants.{Seat}
use Rattle.node_wires.specs.Passages.{Passage, wrote_over}
use Rattle.seat_relay.specs.Relaying.{Line, after}
use Rattle.seat_relay.specs.Laws.{fresh, AscendFrom, TellParts, CloseAtTheEnd}
use Rattle.relay_runs.specs.declared.desk.Desk.{Desk}
use Rattle.relay_runs.specs.declared.relay_end.RelayEnd.{RelayEnd}
use Rattle.relay_runs.specs.declared.relay_end.RelayEnd.TheVariants as relay_end
use Rattle.relay_runs.specs.Said.{bytes_of_lines}
use Rattle.relay_runs.specs.Course.{Course}

-- a node said that the match is over that had told the line that the bot was given last; and nothing waits for the bot
pub record IsOver (desk : Desk) : Type 0 where
  pub over : (after (fresh desk.relay.mode desk.relay.nodes) desk.relay.events).over ≡ true
  pub written : desk.to_bot.waiting ≡ []

-- the exit status: 0 where the match is over
abbrev pub status_of : RelayEnd → ℕ
status_of relay_end.Over = 0
status_of relay_end.OtherMatch = 1
status_of relay_end.BotLeft = 1
status_of relay_end.WrongVersion = 1
status_of relay_end.NotReached = 1
status_of relay_end.OutOfMemory = 1

-- all these lines were written to the bot, each with its end, and nothing else; or where its lines may begin anywhere, the last ones of them
abbrev pub IsWritten : Bool → List ℕ → List Line → Type 0
IsWritten true bytes lines = (front : List Line) × (back : List Line) × (lines ≡ front ++ back) × (bytes ≡ bytes_of_lines back)
IsWritten false bytes lines = bytes ≡ bytes_of_lines lines

-- so a bot whose relay ends since the match is over has all lines of it up to the last, where over each connection come lines of it without a gap, and nodes say that it is over only behind the last
abbrev pub WholeMatchesAreWritten : Type 0
WholeMatchesAreWritten = (desk : Desk) (passed : List Passage) (lines : List Line) → Course desk passed → IsOver desk
    → AscendFrom None lines → TellParts lines desk.relay.events → CloseAtTheEnd lines desk.relay.events → IsWritten desk.relay.mode.newest (wrote_over passed (Seat 0)) lines
