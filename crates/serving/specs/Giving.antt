-- What a server takes from its links for an event, and what it gives them of its cluster's record.
use Rattle.std.specs.Prelude.{◌≡◌, ◌⊎◌, ℕ, zero, suc, ◌-◌, ◌^◌, ◌≤◌, ◌<◌, ◌==◌, ◌&&◌, Bool, false, min, List, [], ◌∷◌, ◌++◌, length, map, take, drop, slice_get, Option, Some, None}
use Rattle.std.specs.List.{count_by}
use Rattle.protocol_model.specs.Dealers.{Reader, Seat, Log}
use Rattle.dealer_world.specs.Records.{Piece}
use Rattle.dealer_world.specs.declared.event.Event.{Event}
use Rattle.dealer_world.specs.declared.event.Event.TheVariants as event
use Rattle.match_links.specs.Passages.{Passage, Came, Told, Emptied, Logged, sat}
use Rattle.serving.specs.declared.place.Place.{Place}
use Rattle.serving.specs.declared.place.Place.TheVariants.{Seated}
use Rattle.serving.specs.declared.waiting.Waiting.{Waiting}

-- ---- what is taken

-- for a connection that seat was seated at that node; for a line its bytes came of that seat there, and nothing else; before a start the
-- node's log was emptied
abbrev pub taken_for : Event → List Passage
taken_for (event.Line node seat bytes) = Came node seat bytes.items ∷ []
taken_for (event.Connect node seat) = sat node seat ∷ []
taken_for (event.Start node) = Emptied node ∷ []
taken_for other = []

-- where no event comes of it, nothing is taken
abbrev pub taken_from : Option Event → List Passage
taken_from None = []
taken_from (Some e) = taken_for e

abbrev pub taken_by : Option Waiting → List Passage
taken_by None = []
taken_by (Some waiting) = taken_for waiting.event

-- where an event waited, nothing more is taken
abbrev pub taken : Option Waiting → Option Waiting → List Passage
taken None found = taken_by found
taken (Some waiting) found = []

-- the logs of so many nodes are emptied, one after another
abbrev pub all_emptied : ℕ → List Passage
all_emptied zero = []
all_emptied (suc nodes) = all_emptied nodes ++ Emptied nodes ∷ []

-- ---- what is given

abbrev pub given_to : Reader → ℕ → List ℕ → Passage
given_to (Seat seat) node text = Told node seat text
given_to Log node text = Logged node text

-- a piece as it is given: a line to its seat, a text to its node's log
abbrev pub given_as : Piece → Passage
given_as piece = given_to piece.reader piece.node piece.text

-- it is a line of a seat that has no connection to the node
abbrev pub HasNoLink : List Place → Piece → Type 0
HasNoLink places piece = (seat : ℕ) × (piece.reader ≡ Seat seat) × (slice_get places seat ≡ Some (Seated piece.node) → ⊥)

-- a piece was given once, or left out where its reader has no connection
abbrev pub IsGiven : List Place → Piece → List Passage → Type 0
IsGiven places piece given = (given ≡ given_as piece ∷ []) ⊎ (HasNoLink places piece × (given ≡ []))

-- pieces were given in their order, and nothing else was
abbrev pub AreGiven : List Place → List Piece → List Passage → Type 0
AreGiven places [] given = given ≡ []
AreGiven places (piece ∷ pieces) given = (first rest : List Passage) × IsGiven places piece first × AreGiven places pieces rest × (given ≡ first ++ rest)

-- the pieces were given from this number on, and up to that one
pub record Gives (places : List Place) (pieces : List Piece) (from to : ℕ) (given : List Passage) : Type 0 where
  pub onwards : from ≤ to
  pub within : to ≤ length pieces
  pub each : AreGiven places (drop from (take to pieces)) given

-- all that is to be given from this number on, and up to that one
abbrev pub to_give : List Piece → ℕ → ℕ → List Passage
to_give pieces from to = map given_as (drop from (take to pieces))

-- it is a line that this seat is told by this node
abbrev pub is_line_to : ℕ → ℕ → Passage → Bool
is_line_to node seat (Told at whose line) = at == node && whose == seat
is_line_to node seat (Came at whose bytes) = false
is_line_to node seat (Emptied at) = false
is_line_to node seat (Logged at text) = false

-- a seat was told fewer lines by a node than are there for it
abbrev pub MissesALine : ℕ → ℕ → List Passage → List Passage → Type 0
MissesALine node seat lines given = count_by (is_line_to node seat) given < count_by (is_line_to node seat) lines

-- no more are counted than the greatest number of the machine
abbrev pub counted : List Piece → ℕ
counted pieces = min (length pieces) (2 ^ 64 - 1)
