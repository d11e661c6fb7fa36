-- What waits for the bots of seats, call by call.
use Rattle.std.specs.Prelude.{◌≡◌, ◌≢◌, ℕ, ◌&&◌, not, Bool, true, false, List, [], ◌++◌, get_or, Option, Some, None, is_none}
use Rattle.std.specs.Int.{bit_at}
use Rattle.node_wires.specs.declared.line.Line.TheVariants.{Seat as SeatOf}
use Rattle.node_wires.specs.Passages.{Passage, wrote_over}
use Rattle.node_seats.specs.declared.bot.Bot.{Bot}
use Rattle.node_seats.specs.declared.seat.Seat.{Seat}
use Rattle.node_seats.specs.declared.words.Asked.{Asked}
use Rattle.node_seats.specs.declared.words.Asked.TheVariants as asks
use Rattle.node_seats.specs.declared.seat_notice.SeatNotice.{SeatNotice}
use Rattle.node_seats.specs.declared.seat_notice.SeatNotice.TheVariants as notices
use Rattle.node_seats.specs.Words.{fresh, with_bytes}

-- ---- who sits there

-- one who was taken in, and the seat at which nobody was
abbrev pub newcomer : Bot
newcomer = record { sits = true; words = fresh; telling = None; parting = None }

abbrev pub no_bot : Bot
no_bot = record { sits = false; words = fresh; telling = None; parting = None }

-- he is gone
abbrev pub gone : Bot → Bot
gone bot = record { sits = false; words = bot.words; telling = bot.telling; parting = bot.parting }

-- this came of him
abbrev pub heard : List ℕ → Bot → Bot
heard bytes bot = record { sits = bot.sits; words = with_bytes bot.words bytes; telling = bot.telling; parting = bot.parting }

abbrev pub nobody : Seat
nobody = record { bot = no_bot; since = None; waiting = record { waiting = []; room = 0 } }

-- what waits for a seat, and whether somebody sits there
abbrev pub waits_at : List Seat → ℕ → List ℕ
waits_at seats number = (get_or seats number nobody).waiting.waiting

abbrev pub bot_at : List Seat → ℕ → Bot
bot_at seats number = (get_or seats number nobody).bot

abbrev pub sits_at : List Seat → ℕ → Bool
sits_at seats number = (get_or seats number nobody).bot.sits

-- a bot that named a line waits for it until it is told lines: till then it counts as one that isn't there
abbrev pub names_line : Asked → Bool
names_line asks.Nothing = false
names_line asks.First = false
names_line asks.Newest = false
names_line asks.Line = true
names_line asks.Other = true

-- it said once, by `#RESUME`, from where on it is to be told
abbrev pub asks_once : Asked → Bool
asks_once asks.Nothing = false
asks_once asks.First = true
asks_once asks.Newest = true
asks_once asks.Line = true
asks_once asks.Other = false

abbrev pub resumes : Bot → Bool
resumes bot = asks_once bot.words.asked

abbrev pub is_here : Bot → Bool
is_here bot = bot.sits && not (names_line bot.words.asked && is_none bot.telling)

-- one sits there that is told nothing yet, neither lines nor that it is parted from
abbrev pub is_silent : Bot → Bool
is_silent bot = bot.sits && is_none bot.telling && is_none bot.parting

abbrev pub is_here_at : List Seat → ℕ → Bool
is_here_at seats number = is_here (bot_at seats number)

-- a bit that tells whether somebody sits there
abbrev pub bit_of : Bool → ℕ
bit_of true = 1
bit_of false = 0

-- at all other seats the bots are as they were, and what waits for them
abbrev pub KeepsOtherBots : ℕ → List Seat → List Seat → Type 0
KeepsOtherBots number old new = (seat : ℕ) → seat ≢ number → (bot_at new seat ≡ bot_at old seat) × (waits_at new seat ≡ waits_at old seat)

-- nothing waits for one seat any more, and for the others what waited
abbrev pub Clears : ℕ → List Seat → List Seat → Type 0
Clears number old new = (waits_at new number ≡ []) × ((seat : ℕ) → seat ≢ number → waits_at new seat ≡ waits_at old seat)

-- a bot that was taken in, or is gone, has nothing that waits for it; a piece leaves all as it was
abbrev pub Follows : Option SeatNotice → List Seat → List Seat → Type 0
Follows None old new = (seat : ℕ) → waits_at new seat ≡ waits_at old seat
Follows (Some (notices.Piece number bytes)) old new = (seat : ℕ) → waits_at new seat ≡ waits_at old seat
Follows (Some (notices.Refused number source)) old new = (seat : ℕ) → waits_at new seat ≡ waits_at old seat
Follows (Some (notices.Unread number)) old new = (seat : ℕ) → waits_at new seat ≡ waits_at old seat
Follows (Some (notices.Came number)) old new = Clears number old new
Follows (Some (notices.Gone number)) old new = Clears number old new

-- nobody sat at a seat where a bot was taken in, and nobody sits where one is gone; a piece is read of a bot; at other seats all is as it was
abbrev pub Changes : Option SeatNotice → List Seat → List Seat → Type 0
Changes None old new = (seat : ℕ) → bot_at new seat ≡ bot_at old seat
Changes (Some (notices.Piece number bytes)) old new = (bot_at new number ≡ heard bytes.items (bot_at old number)) × ((seat : ℕ) → seat ≢ number → bot_at new seat ≡ bot_at old seat)
Changes (Some (notices.Refused number source)) old new = (seat : ℕ) → bot_at new seat ≡ bot_at old seat
Changes (Some (notices.Unread number)) old new = (seat : ℕ) → bot_at new seat ≡ bot_at old seat
Changes (Some (notices.Came number)) old new = (sits_at old number ≡ false) × ((bot_at new number ≡ newcomer) × ((seat : ℕ) → seat ≢ number → bot_at new seat ≡ bot_at old seat))
Changes (Some (notices.Gone number)) old new = (bot_at new number ≡ gone (bot_at old number)) × ((seat : ℕ) → seat ≢ number → bot_at new seat ≡ bot_at old seat)

-- the same of one seat
abbrev pub Sits : Option SeatNotice → Bot → Bot → Type 0
Sits None old new = new ≡ old
Sits (Some (notices.Piece number bytes)) old new = new ≡ heard bytes.items old
Sits (Some (notices.Refused number source)) old new = new ≡ old
Sits (Some (notices.Unread number)) old new = new ≡ old
Sits (Some (notices.Came number)) old new = (old.sits ≡ false) × (new ≡ newcomer)
Sits (Some (notices.Gone number)) old new = new ≡ gone old

-- nobody was taken in at a closed seat, one whose bit is set
abbrev pub KeepsClosed : ℕ → Option SeatNotice → Type 0
KeepsClosed closed None = Unit {0}
KeepsClosed closed (Some (notices.Piece number bytes)) = Unit {0}
KeepsClosed closed (Some (notices.Refused number source)) = Unit {0}
KeepsClosed closed (Some (notices.Unread number)) = Unit {0}
KeepsClosed closed (Some (notices.Came number)) = bit_at closed number ≡ 0
KeepsClosed closed (Some (notices.Gone number)) = Unit {0}

-- of this seat something was told
abbrev pub IsOf : Option SeatNotice → ℕ → Type 0
IsOf None seat = ⊥
IsOf (Some (notices.Piece number bytes)) seat = ⊥
IsOf (Some (notices.Refused number source)) seat = ⊥
IsOf (Some (notices.Unread number)) seat = ⊥
IsOf (Some (notices.Came number)) seat = seat ≡ number
IsOf (Some (notices.Gone number)) seat = seat ≡ number

-- for each seat what was written to it, with what waits, is what it was, unless its bot was let go of
abbrev pub Flushes : Option SeatNotice → List Seat → List Seat → List Passage → List Passage → Type 0
Flushes notice old new passed_old passed_new =
    (seat : ℕ) → (IsOf notice seat → ⊥) → wrote_over passed_new (SeatOf seat) ++ waits_at new seat ≡ wrote_over passed_old (SeatOf seat) ++ waits_at old seat
