-- What comes over the connections of relays, and of bots without one, byte by byte.
use Rattle.std.specs.Prelude.{◌≡◌, ◌≢◌, ◌⊎◌, ℕ, Bool, true, List, [], ◌∷◌, ◌++◌, length, Option, Some, None, IsTrue}
use Rattle.std.specs.List.{AllByRecursion}
use Rattle.promise_store.specs.declared.disk.Disk.{Ghosts}
use Rattle.slot_log.specs.Hand.{Match}
use Rattle.slot_log.specs.Dealer.{is_match_over}
use Rattle.slot_log.specs.declared.command.Command.{Command}
use Rattle.dealer_kind.specs.Kind.{Setting, hands_after}
use Rattle.dealer_kind.specs.declared.source.Source.{Source}
use Rattle.dealer_world.specs.RuleRuns.{plan_of}
use Rattle.stations.specs.Deeds.{Deed, Doing}
use Rattle.stations.specs.Joining.{AreProcesses}
use Rattle.stations.specs.Tables.{WasTable}
use Rattle.node_wires.specs.declared.line.Line.TheVariants.{Peer, Seat}
use Rattle.node_wires.specs.Passages.{Passage, came_over, wrote_over}
use Rattle.line_cursor.specs.declared.cursor.Cursor.{Cursor}
use Rattle.seat_relay.specs.Relaying.{Line}
use Rattle.seat_relay.specs.Laws.{IsPart, IsFront, IsBack, IsGivenOf}
use Rattle.node_seats.specs.declared.bot.Parting.{Parting}
use Rattle.node_seats.specs.declared.bot.Parting.TheVariants.{Over, Other, Wait}
use Rattle.node_seats.specs.declared.words.Asked.{Asked}
use Rattle.node_seats.specs.declared.words.Asked.TheVariants as asks
use Rattle.node_seats.specs.Words.{Reading, read_of}
use Rattle.node_seats.specs.Seating.{names_line}
use Rattle.node_seats.specs.Telling.{TellsFrom, text_of, parting_text}
use Rattle.relay_runs.specs.declared.desk.Desk.{Desk}
use Rattle.relay_runs.specs.Said.{bytes_of_lines}
use Rattle.relay_runs.specs.Course.{Course}
use Rattle.relay_runs.specs.Ending.{IsOver, IsWritten}
use Rattle.node_service.specs.Bots.{IsBehindAll, StartsBy}
use Rattle.joined_lines.specs.Chosen.{lines_by, IsByChosen}

-- ---- what came

-- by such a table the match is over, and this is behind its last line
abbrev pub IsOverBy : (Match → Type 0) → ℕ → Cursor → Type 0
IsOverBy such seat at = (table : Match) × (such table × IsBehindAll table seat at)

-- these bytes begin what a seat is told: lines one after another without a gap, each off such a table, and perhaps behind them #OTHER or #WAIT, or #OVER behind the last line of a match that is over
pub record IsOfTold (such : Match → Type 0) (seat : ℕ) (came : List ℕ) : Type 0 where
  pub start : Cursor
  pub next : Cursor
  pub lines : List (List ℕ)
  pub told : TellsFrom such seat start lines next
  pub parting : Option Parting
  pub over : parting ≡ Some Over → IsOverBy such seat next
  pub lost : List ℕ
  pub bytes : text_of lines ++ parting_text parting ≡ came ++ lost

-- at each moment this holds of the bytes that have come over the connection to each node
abbrev pub ComeOfTold : (Match → Type 0) → ℕ → List Passage → Type 0
ComeOfTold such seat passed = (node : ℕ) (front behind : List Passage) → passed ≡ front ++ behind → IsOfTold such seat (came_over front (Peer node))

-- ---- relays

-- a relay of a seat: where it stands, and what passed over its wires since its bot was taken in
pub record SeatRelay : Type 0 where
  pub seat : ℕ
  pub desk : Desk
  pub passed : List Passage

-- it came there by its turns, and over each of its connections came what the seat is told so
pub record IsToldSo (such : Match → Type 0) (relay : SeatRelay) : Type 0 where
  pub course : Course relay.desk relay.passed
  pub come : ComeOfTold such relay.seat relay.passed

-- ---- what their bots have

-- these are the bytes of a beginning of these lines, or of a part of them without a gap where they may begin anywhere
pub record AreBytesOf (newest : Bool) (lines : List Line) (bytes : List ℕ) : Type 0 where
  pub given : List Line
  pub are : IsGivenOf newest given lines
  pub as_bytes : bytes ≡ bytes_of_lines given

-- what a relay has written to its bot, and behind it what waits to be written
abbrev pub bytes_for : SeatRelay → List ℕ
bytes_for relay = wrote_over relay.passed (Seat 0) ++ relay.desk.to_bot.waiting

-- the match is over by these commands, and the bot was written all lines that the dealer tells its seat by them, or all from one on where they may begin anywhere
pub record HasAllLines (setting : Setting) (commands : List Command) (relay : SeatRelay) : Type 0 where
  pub over : is_match_over setting.game setting.title.hands (hands_after setting commands) ≡ true
  pub written : IsWritten relay.desk.relay.mode.newest (wrote_over relay.passed (Seat 0)) (lines_by setting relay.seat commands)

-- the bot has a beginning of the lines that the dealer tells its seat by these commands, or a part of them without a gap; and once the relay ends since the match is over it has all of them
pub record HasLines (setting : Setting) (commands : List Command) (relay : SeatRelay) : Type 0 where
  pub lines : AreBytesOf relay.desk.relay.mode.newest (lines_by setting relay.seat commands) (bytes_for relay)
  pub all_lines : IsOver relay.desk → HasAllLines setting commands relay

-- ---- bots without a relay

-- a connection of a bot to a server: the seat at which it sits, what came over it to the bot, and what the bot said over it, behind the line that showed its token
pub record BotConnection : Type 0 where
  pub seat : ℕ
  pub came : List ℕ
  pub said : List ℕ

-- by such a table the lines of a bot of this seat that asked so begin at this place
abbrev pub BeginsAt : (Match → Type 0) → ℕ → Reading → Cursor → Type 0
BeginsAt such seat words at = (table : Match) × (such table × StartsBy table seat words.asked words.named at)

-- over it came what the seat is told so; where that has a line, or ends with #OVER, it begins where the bot asked, where it ends with #OTHER there is no line, and the bot named one or asked twice; and where it ends with #WAIT the bot asked
pub record BringsTold (such : Match → Type 0) (bot : BotConnection) : Type 0 where
  pub come : IsOfTold such bot.seat bot.came
  pub begins : (come.lines ≢ []) ⊎ (come.parting ≡ Some Over) → BeginsAt such bot.seat (read_of bot.said) come.start
  pub alone : come.parting ≡ Some Other → come.lines ≡ []
  pub refused : come.parting ≡ Some Other → names_line (read_of bot.said).asked ≡ true
  pub put_off : come.parting ≡ Some Wait → (read_of bot.said).asked ≢ asks.Nothing

-- the match is over by these commands, and these are the last lines, at least one, that the dealer tells the seat by them
pub record AreLast (setting : Setting) (commands : List Command) (seat : ℕ) (lines : List Line) : Type 0 where
  pub over : is_match_over setting.game setting.title.hands (hands_after setting commands) ≡ true
  pub some : lines ≢ []
  pub last : IsBack lines (lines_by setting seat commands)

-- the text of the first of these lines
abbrev pub first_text : List Line → Option (List ℕ)
first_text [] = None
first_text (line ∷ more) = Some line.text

-- of all these lines a bot that asked so is given these: from the first on, from the one that it named on, or from any on
abbrev pub IsAskedFor : Asked → (named : List ℕ) → (given lines : List Line) → Type 0
IsAskedFor asks.Nothing named given lines = Unit {0}
IsAskedFor asks.First named given lines = IsFront given lines
IsAskedFor asks.Newest named given lines = Unit {0}
IsAskedFor asks.Line named given lines = first_text given ≡ Some named
IsAskedFor asks.Other named given lines = ⊥

-- what came begins the bytes of a part, without a gap, of the lines that the dealer tells its seat by these commands, from where the bot asked; or of them and #OVER, which stands only behind the last line of a match that is over; of #OTHER alone, where the bot named a line or asked twice; or of them and #WAIT, where it asked
pub record BringsLines (setting : Setting) (commands : List Command) (bot : BotConnection) : Type 0 where
  pub given : List Line
  pub are : IsPart given (lines_by setting bot.seat commands)
  pub parting : Option Parting
  pub over : parting ≡ Some Over → AreLast setting commands bot.seat given
  pub asked : given ≢ [] → IsAskedFor (read_of bot.said).asked (read_of bot.said).named given (lines_by setting bot.seat commands)
  pub alone : parting ≡ Some Other → given ≡ []
  pub refused : parting ≡ Some Other → names_line (read_of bot.said).asked ≡ true
  pub put_off : parting ≡ Some Wait → (read_of bot.said).asked ≢ asks.Nothing
  pub lost : List ℕ
  pub bytes : bytes_of_lines given ++ parting_text parting ≡ bot.came ++ lost

-- ---- the law

-- the bots of these relays have lines of the dealer by these commands, and over each of these connections came such lines
pub record HaveLines (setting : Setting) (commands : List Command) (relays : List SeatRelay) (bots : List BotConnection) : Type 0 where
  pub relays_have : AllByRecursion (HasLines setting commands) relays
  pub bots_have : AllByRecursion (BringsLines setting commands) bots

module _ {D : Type 0} (g : Ghosts D) where
  -- of all relays and bots over whose connections comes what their seats are told off tables of a match's nodes, the bots have the lines of one dealer
  abbrev pub RelaysTellOneMatch : Type 0
  RelaysTellOneMatch = (setting : Setting) (sources : List Source) (histories : ℕ → List Deed) (all : List Doing) → AreProcesses setting sources histories all → IsTrue g.is_honest
      → (relays : List SeatRelay) → AllByRecursion (IsToldSo (WasTable g (plan_of setting sources) histories)) relays
      → (bots : List BotConnection) → AllByRecursion (BringsTold (WasTable g (plan_of setting sources) histories)) bots
      → IsByChosen (length sources) all (λ commands. HaveLines setting commands relays bots)
