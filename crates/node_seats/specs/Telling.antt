-- What the bots of seats are told, what of it is written to them, and what they asked.
use Rattle.std.specs.Prelude.{◌≡◌, ◌⊎◌, ℕ, ◌≤◌, Bool, true, false, List, [], ◌∷◌, ◌++◌, length, codes, Option, Some, None, IfSome}
use Rattle.slot_log.specs.Hand.{Match}
use Rattle.line_cursor.specs.declared.cursor.Cursor.{Cursor}
use Rattle.line_cursor.specs.Past.{seat_line_at}
use Rattle.line_cursor.specs.Cursors.{next_cursor}
use Rattle.node_wires.specs.declared.line.Line.TheVariants.{Seat as SeatOf}
use Rattle.node_wires.specs.Passages.{Passage, Began, Came, Wrote, Gave, Logged, Tried, Ended, Closed, Saw, Waited, Called, came_over, wrote_over}
use Rattle.node_seats.specs.declared.limits.TheConstants.{BACKLOG}
use Rattle.node_seats.specs.declared.bot.Bot.{Bot}
use Rattle.node_seats.specs.declared.bot.Parting.{Parting}
use Rattle.node_seats.specs.declared.bot.Parting.TheVariants.{Over, Other, Wait}
use Rattle.node_seats.specs.declared.bot.Telling.{Telling}
use Rattle.node_seats.specs.declared.seat.Seat.{Seat}
use Rattle.node_seats.specs.declared.seat_notice.SeatNotice.{SeatNotice}
use Rattle.node_seats.specs.Lines.{line_of}
use Rattle.node_seats.specs.Words.{Reading, read_of}
use Rattle.node_seats.specs.Seating.{waits_at, sits_at, bot_at, resumes, IsOf}

-- ---- the lines that a bot was told

abbrev pub texts_in : List Passage → List (List ℕ)
texts_in [] = []
texts_in (Wrote at line ∷ more) = line ∷ texts_in more
texts_in (Began at ∷ more) = texts_in more
texts_in (Came at bytes ∷ more) = texts_in more
texts_in (Gave place seat ∷ more) = texts_in more
texts_in (Logged text ∷ more) = texts_in more
texts_in (Tried line way ∷ more) = texts_in more
texts_in (Ended line way ∷ more) = texts_in more
texts_in (Closed line ∷ more) = texts_in more
texts_in (Saw moment ∷ more) = texts_in more
texts_in (Waited most ∷ more) = texts_in more
texts_in (Called ∷ more) = texts_in more

abbrev pub lines_of : Telling → List (List ℕ)
lines_of telling = texts_in telling.told.items

-- as they go to it
abbrev pub text_of : List (List ℕ) → List ℕ
text_of [] = []
text_of (line ∷ more) = line_of line ++ text_of more

abbrev pub text_told : Option Telling → List ℕ
text_told None = []
text_told (Some telling) = text_of (lines_of telling)

-- what a bot is told behind them
abbrev pub parting_line : Parting → List ℕ
parting_line Over = codes "#OVER"
parting_line Other = codes "#OTHER"
parting_line Wait = codes "#WAIT"

abbrev pub parting_text : Option Parting → List ℕ
parting_text None = []
parting_text (Some parting) = line_of (parting_line parting)

-- all that a bot was told
abbrev pub text_for : Bot → List ℕ
text_for bot = text_told bot.telling ++ parting_text bot.parting

-- what was written to a seat, with what waits for it, is what its bot was told; where nobody sits there any more, it is a beginning of that
abbrev pub IsSaid : Bool → (wrote waits : List ℕ) → List ℕ → Type 0
IsSaid sits wrote waits text = (lost : List ℕ) × ((text ≡ (wrote ++ waits) ++ lost) × (sits ≡ true → lost ≡ []))

-- what a bot asked is read off all that came over the connection that its seat's line has, or had last
abbrev pub IsAsked : (came : List ℕ) → Reading → Type 0
IsAsked came words = words ≡ read_of came

-- so it is with what was said over the line of each seat, by its bot and to it
abbrev pub AreSaid : List Passage → List Seat → Type 0
AreSaid passed seats =
    (seat : ℕ) → IsSaid (sits_at seats seat) (wrote_over passed (SeatOf seat)) (waits_at seats seat) (text_for (bot_at seats seat)) × IsAsked (came_over passed (SeatOf seat)) (bot_at seats seat).words

-- ---- off a table

-- these lines are told a seat from this place on, one after another, each off such a table, and the next is at that place
abbrev pub TellsFrom : (Match → Type 0) → ℕ → Cursor → List (List ℕ) → Cursor → Type 0
TellsFrom such seat at [] next = next ≡ at
TellsFrom such seat at (line ∷ more) next =
    (table : Match) × (such table × ((seat_line_at table.game table.hands seat at.hand at.actions ≡ Some line) × TellsFrom such seat (next_cursor table.game table.hands at) more next))

-- from this place on, and nothing was told yet
abbrev pub telling_from : Cursor → Telling
telling_from at = record { start = at; next = at; told = record { items = [] } }

abbrev pub one_more : ℕ → List ℕ → Cursor → Telling → Telling
one_more seat line next telling = record { start = telling.start; next = next; told = record { items = telling.told.items ++ Wrote (SeatOf seat) line ∷ [] } }

-- a line was told off this table, or none
abbrev pub Told : Match → ℕ → (old new : Telling) → (waits_old waits_new : List ℕ) → Type 0
Told table seat old new waits_old waits_new =
    ((new ≡ old) × (waits_new ≡ waits_old))
    ⊎ ((line : List ℕ) × ((seat_line_at table.game table.hands seat old.next.hand old.next.actions ≡ Some line)
    × ((new ≡ one_more seat line (next_cursor table.game table.hands old.next) old) × (waits_new ≡ waits_old ++ line_of line))))

-- so many were, in order
pub record TellsOn (table : Match) (seat : ℕ) (old new : Telling) (waits_old waits_new : List ℕ) : Type 0 where
  pub lines : List (List ℕ)
  pub start : new.start ≡ old.start
  pub told : lines_of new ≡ lines_of old ++ lines
  pub tells : TellsFrom (λ other. other ≡ table) seat old.next lines new.next
  pub waits : waits_new ≡ waits_old ++ text_of lines

-- a bot that is told lines was told all of this table's, or so many bytes wait for it
abbrev pub HasAll : Match → ℕ → Telling → (waits : List ℕ) → Type 0
HasAll table seat telling waits = (seat_line_at table.game table.hands seat telling.next.hand telling.next.actions ≡ None) ⊎ (BACKLOG ≤ length waits)

-- so it is with a bot that sits there and isn't parted from, where it is told lines
abbrev pub IsToldAll : Match → ℕ → Bot → (waits : List ℕ) → Type 0
IsToldAll table seat bot waits = bot.sits ≡ true → bot.parting ≡ None → IfSome bot.telling (λ telling. HasAll table seat telling waits)

-- ---- calls

-- of a bot that is told lines more of them were told, off this table; nothing else of it changes
abbrev pub TellsMore : Match → ℕ → (old new : Option Telling) → Type 0
TellsMore table seat None new = new ≡ None
TellsMore table seat (Some old) new =
    (after : Telling) × ((new ≡ Some after) × ((after.start ≡ old.start) × ((lines : List (List ℕ)) × ((lines_of after ≡ lines_of old ++ lines) × TellsFrom (λ other. other ≡ table) seat old.next lines after.next))))

pub record TellsBot (table : Match) (seat : ℕ) (old new : Bot) : Type 0 where
  pub sits : new.sits ≡ old.sits
  pub words : new.words ≡ old.words
  pub parting : new.parting ≡ old.parting
  pub told : TellsMore table seat old.telling new.telling
  pub parted : (parting : Parting) → old.parting ≡ Some parting → new ≡ old

-- a bot that named the version and isn't told lines is from this place on, or all is as it was
abbrev pub Begins : Cursor → (old new : Bot) → Type 0
Begins at old new = (new ≡ old) ⊎ ((old.words.is_over ≡ true) × ((old.telling ≡ None) × ((old.parting ≡ None) × (new ≡ record old { telling = Some (telling_from at) }))))

-- a bot is told this behind its lines, or all is as it was; that its line is none it is told only where it has named the version and no line was told, and that it is to wait only where it asked from where on
abbrev pub MayPart : Parting → Bot → Type 0
MayPart Over bot = Unit {0}
MayPart Other bot = (bot.telling ≡ None) × (bot.words.is_over ≡ true)
MayPart Wait bot = resumes bot ≡ true

abbrev pub Parts : Parting → (old new : Bot) → Type 0
Parts parting old new = (new ≡ old) ⊎ ((old.parting ≡ None) × (MayPart parting old × (new ≡ record old { parting = Some parting })))

-- what a bot is told more waits for it, behind the rest, and what it asked stays; one that is gone is told nothing
pub record SaysMore (old new : Bot) (waits_old waits_new : List ℕ) : Type 0 where
  pub more : List ℕ
  pub none : old.sits ≡ false → more ≡ []
  pub text : text_for new ≡ text_for old ++ more
  pub waits : waits_new ≡ waits_old ++ more
  pub sits : new.sits ≡ old.sits
  pub words : new.words ≡ old.words

-- the same of one of the seats, and nothing of the others
pub record SaysAt (number : ℕ) (old new : List Seat) : Type 0 where
  pub here : SaysMore (bot_at old number) (bot_at new number) (waits_at old number) (waits_at new number)
  pub bots : (seat : ℕ) → (seat ≡ number → ⊥) → bot_at new seat ≡ bot_at old seat
  pub others : (seat : ℕ) → (seat ≡ number → ⊥) → waits_at new seat ≡ waits_at old seat

-- of whoever is let go of there, what was written is a beginning of what had been written and waited
abbrev pub Loses : Option SeatNotice → List Seat → List Seat → List Passage → List Passage → Type 0
Loses notice old new passed_old passed_new =
    (seat : ℕ) → IsOf notice seat → (lost : List ℕ) × (wrote_over passed_old (SeatOf seat) ++ waits_at old seat ≡ (wrote_over passed_new (SeatOf seat) ++ waits_at new seat) ++ lost)
