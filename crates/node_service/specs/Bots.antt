-- What the bots of a process's seats are told: the lines of their seats, off the tables that its node had.
use Rattle.std.specs.Prelude.{◌≡◌, ◌⊎◌, ℕ, ◌<◌, true, List, [], ◌∷◌, ◌++◌, length, take, Option, Some, None, IfSome, IsSome, IsSomeAnd}
use Rattle.slot_log.specs.Hand.{Hand, Match}
use Rattle.slot_log.specs.Dealer.{is_match_over}
use Rattle.protocol_model.specs.Sets.{In}
use Rattle.line_cursor.specs.declared.cursor.Cursor.{Cursor}
use Rattle.line_cursor.specs.declared.named_line.NamedLine.TheVariants as named_lines
use Rattle.line_cursor.specs.Past.{seat_line_at}
use Rattle.line_cursor.specs.Naming.{IsNamed}
use Rattle.line_cursor.specs.Cursors.{cursor_at}
use Rattle.dealer_node.specs.Nodes.{Node}
use Rattle.dealer_node.specs.Seeing.{table_in, ready_in}
use Rattle.stations.specs.Moments.{Moment}
use Rattle.stations.specs.Stations.{Look}
use Rattle.stations.specs.Tables.{HadTable}
use Rattle.node_seats.specs.declared.bot.Bot.{Bot}
use Rattle.node_seats.specs.declared.bot.Parting.{Parting}
use Rattle.node_seats.specs.declared.bot.Parting.TheVariants.{Over, Other, Wait}
use Rattle.node_seats.specs.declared.bot.Telling.{Telling}
use Rattle.node_seats.specs.declared.seat.Seat.{Seat}
use Rattle.node_seats.specs.declared.words.Asked.{Asked}
use Rattle.node_seats.specs.declared.words.Asked.TheVariants as asks
use Rattle.node_seats.specs.Words.{Reading}
use Rattle.node_seats.specs.Seating.{bot_at, waits_at}
use Rattle.node_seats.specs.Telling.{lines_of, TellsFrom, IsToldAll}
use Rattle.node_service.specs.declared.seat_lines.Start.{Start}
use Rattle.node_service.specs.declared.seat_lines.Start.TheVariants.{At, Later, Never}

-- ---- off one table

-- the place of the newest line, or of the first one that will come
abbrev pub newest_place : List Hand → Cursor
newest_place [] = cursor_at 0 0
newest_place (newest ∷ before) = cursor_at (length before) (length newest.past)

-- the lines of a bot that asked so begin here: at the newest line, at the first, or at the line that it named
abbrev pub StartsBy : Match → ℕ → Asked → List ℕ → Cursor → Type 0
StartsBy table seat asks.Nothing named at = at ≡ newest_place table.hands
StartsBy table seat asks.First named at = at ≡ cursor_at 0 0
StartsBy table seat asks.Newest named at = at ≡ newest_place table.hands
StartsBy table seat asks.Line named at = seat_line_at table.game table.hands seat at.hand at.actions ≡ Some named
StartsBy table seat asks.Other named at = ⊥

-- none of the lines of this table is this one
abbrev pub HasNoLine : Match → ℕ → List ℕ → Type 0
HasNoLine table seat line = (at : Cursor) → seat_line_at table.game table.hands seat at.hand at.actions ≡ Some line → ⊥

-- a bot is told that its line is none where it asked for no line, or none of the lines of this table is the one that it named
abbrev pub IsRefusedBy : Match → ℕ → Asked → List ℕ → Type 0
IsRefusedBy table seat asks.Nothing named = ⊥
IsRefusedBy table seat asks.First named = ⊥
IsRefusedBy table seat asks.Newest named = ⊥
IsRefusedBy table seat asks.Line named = HasNoLine table seat named
IsRefusedBy table seat asks.Other named = Unit {0}

-- it waits for the line that it named, to whose place this match may still come
abbrev pub Awaits : Match → ℕ → Asked → List ℕ → Type 0
Awaits table seat asked named = (asked ≡ asks.Line) × ((at : Cursor) × IsNamed table.game table.count table.hands seat named (named_lines.Ahead at))

abbrev pub IsStart : Match → ℕ → Asked → List ℕ → Start → Type 0
IsStart table seat asked named (At at) = StartsBy table seat asked named at
IsStart table seat asked named Later = Awaits table seat asked named
IsStart table seat asked named Never = IsRefusedBy table seat asked named × (asked ≡ asks.Line → IsNamed table.game table.count table.hands seat named named_lines.Other)

-- the match is over, and this is behind its last line
pub record IsBehindAll (table : Match) (seat : ℕ) (at : Cursor) : Type 0 where
  pub over : is_match_over table.game table.count table.hands ≡ true
  pub behind : seat_line_at table.game table.hands seat at.hand at.actions ≡ None

-- a bot that sits there and has named the version, where it is told no line, nor parted from, waits for the one that it named
abbrev pub HasBegun : Match → ℕ → Bot → Type 0
HasBegun table seat bot = bot.sits ≡ true → bot.words.is_over ≡ true → bot.parting ≡ None → bot.telling ≡ None → Awaits table seat bot.words.asked bot.words.named

-- one that asked, and was told all lines of a match that is over, was told so
abbrev pub IsToldOver : Match → ℕ → Bot → Type 0
IsToldOver table seat bot = bot.sits ≡ true → (bot.words.asked ≡ asks.Nothing → ⊥) → IfSome bot.telling (λ telling. IsBehindAll table seat telling.next → IsSome bot.parting)

-- there is nothing left to tell: a bot that is told lines was told all of this table's, or so many bytes wait for it
abbrev pub IsServed : Match → ℕ → Bot → (waits : List ℕ) → Type 0
IsServed table seat bot waits = HasBegun table seat bot × IsToldAll table seat bot waits × IsToldOver table seat bot

-- ---- over calls

-- who sits there sat there before, and had asked so
pub record IsStill (old new : Bot) : Type 0 where
  pub sits : new.sits ≡ true → old.sits ≡ true
  pub words : new.words ≡ old.words

-- its lines had begun there
abbrev pub HadBegun : (old new : Bot) → Telling → Type 0
HadBegun old new telling = IsStill old new × IsSomeAnd old.telling (λ was. was.start ≡ telling.start)

-- it had been told that its line is none
abbrev pub HadParted : (old new : Bot) → Type 0
HadParted old new = IsStill old new × (old.parting ≡ Some Other)

-- ---- off the tables of a node

-- a bot was told lines from one on, one after another, each off such a table
abbrev pub IsToldBy : {N : Type 0} → Look N → ℕ → Option Telling → Type 0
IsToldBy look seat None = Unit {0}
IsToldBy look seat (Some telling) = TellsFrom (HadTable look) seat telling.start (lines_of telling) telling.next

-- and the first of them goes by what it asked before it named the version
abbrev pub IsStarted : {N : Type 0} → Look N → ℕ → Reading → Option Telling → Type 0
IsStarted look seat words None = Unit {0}
IsStarted look seat words (Some telling) = (words.is_over ≡ true) × ((table : Match) × (HadTable look table × StartsBy table seat words.asked words.named telling.start))

-- that the match is over is told behind its last line, to one who asked; that a line is none, where no line was told and a table of the node then hadn't it; to come again
-- later, to one who asked
abbrev pub IsOverFor : {N : Type 0} → Look N → ℕ → Reading → Option Telling → Type 0
IsOverFor look seat words None = ⊥
IsOverFor look seat words (Some telling) = (words.asked ≡ asks.Nothing → ⊥) × ((table : Match) × (HadTable look table × IsBehindAll table seat telling.next))

abbrev pub IsParted : {N : Type 0} → Look N → ℕ → Bot → Option Parting → Type 0
IsParted look seat bot None = Unit {0}
IsParted look seat bot (Some Over) = IsOverFor look seat bot.words bot.telling
IsParted look seat bot (Some Other) =
    (bot.telling ≡ None) × ((bot.words.is_over ≡ true) × ((table : Match) × (HadTable look table × IsRefusedBy table seat bot.words.asked bot.words.named)))
IsParted look seat bot (Some Wait) = bot.words.asked ≡ asks.Nothing → ⊥

pub record IsBotOf {N : Type 0} (look : Look N) (seat : ℕ) (bot : Bot) : Type 0 where
  pub told : IsToldBy look seat bot.telling
  pub started : IsStarted look seat bot.words bot.telling
  pub parted : IsParted look seat bot bot.parting

-- so it is at each seat
abbrev pub AreBotsOf : {N : Type 0} → Look N → List Seat → Type 0
AreBotsOf look seats = (seat : ℕ) → IsBotOf look seat (bot_at seats seat)

-- ---- since a moment

-- the table of a process's node at some moment of it that isn't among these, or at the newest of these
pub record HadTableSince {N : Type 0} (first : List Moment) (look : Look N) (table : Match) : Type 0 where
  pub since : List Moment
  pub moments : look.moments ≡ since ++ first
  pub moment : Moment
  pub was : In moment (since ++ take 1 first)
  pub table_is : moment.table ≡ table

-- a bot's lines had begun before, or they begin by such a table
abbrev pub BeginsSince : {N : Type 0} → (first : List Moment) → Look N → ℕ → (old new : Bot) → Option Telling → Type 0
BeginsSince first look seat old new None = Unit {0}
BeginsSince first look seat old new (Some telling) =
    HadBegun old new telling ⊎ ((table : Match) × (HadTableSince first look table × StartsBy table seat new.words.asked new.words.named telling.start))

-- that its line is none it had been told before, or such a table hadn't it
abbrev pub PartsSince : {N : Type 0} → (first : List Moment) → Look N → ℕ → (old new : Bot) → Option Parting → Type 0
PartsSince first look seat old new None = Unit {0}
PartsSince first look seat old new (Some Over) = Unit {0}
PartsSince first look seat old new (Some Wait) = Unit {0}
PartsSince first look seat old new (Some Other) = HadParted old new ⊎ ((table : Match) × (HadTableSince first look table × IsRefusedBy table seat new.words.asked new.words.named))

pub record IsSince {N : Type 0} (first : List Moment) (look : Look N) (seat : ℕ) (old new : Bot) : Type 0 where
  pub begins : BeginsSince first look seat old new new.telling
  pub parts : PartsSince first look seat old new new.parting

-- the bots of seats stay such, and what began of each meanwhile goes by a table that the node had meanwhile
pub record KeepBots {N : Type 0} (old new : Look N) (were are : List Seat) : Type 0 where
  pub stay : AreBotsOf old were → AreBotsOf new are
  pub since : AreBotsOf old were → (seat : ℕ) → IsSince old.moments new seat (bot_at were seat) (bot_at are seat)

-- ---- all that there is to tell

-- this holds of the table that the node has now
abbrev pub OfTable : {D : Type 0} → Look (Node D) → (Match → Type 0) → Type 0
OfTable look such = such (table_in look.node)

-- the bot of a seat whose session is ready was told all that there is to tell, by the table that the node has now
abbrev pub IsServedAt : {D : Type 0} → Look (Node D) → ℕ → Bot → (waits : List ℕ) → Type 0
IsServedAt look seat bot waits = seat < look.config.setting.game.players → ready_in look.node seat ≡ true → IsServed (table_in look.node) seat bot waits

-- so it is at each seat
abbrev pub AreServed : {D : Type 0} → Look (Node D) → List Seat → Type 0
AreServed look seats = (seat : ℕ) → IsServedAt look seat (bot_at seats seat) (waits_at seats seat)
