-- What is said of a call of a node, which is a chain of its moves.
use Rattle.std.specs.Prelude.{◌≡◌, ℕ, ◌⊎◌, List, [], ◌∷◌, ◌++◌}
use Rattle.protocol_model.specs.Sets.{In}
use Rattle.protocol_model.specs.Messages.{Message}
use Rattle.protocol_model.specs.Dealers.{Reader, Seat, Log}
use Rattle.protocol_model.specs.Moves.{Shown}

-- the text is a line to a seat
abbrev pub IsToSeat : Shown → Type 0
IsToSeat shown = (seat : ℕ) × (shown.reader ≡ Seat seat)

-- what a reader is shown, where the reader is a seat
abbrev pub line_to : Reader → Shown → List Shown
line_to (Seat seat) shown = shown ∷ []
line_to Log shown = []

-- the lines to seats among what was shown, oldest first; logs are left out
abbrev pub lines_in : List Shown → List Shown
lines_in [] = []
lines_in (latest ∷ before) = lines_in before ++ line_to latest.reader latest

-- of messages a node has after a call no others than it had before, than the frame of the call carries, and than it sent itself in the call
abbrev pub HasGotAtMost : List Message → List Message → List Message → List Message → Type 0
HasGotAtMost had carried sent has = (message : Message) → In message has → In message had ⊎ (In message carried ⊎ In message sent)

-- and it has got all that the frame carries
pub record HasGotExactly (had carried sent has : List Message) : Type 0 where
  pub at_most : HasGotAtMost had carried sent has
  pub all : (message : Message) → In message carried → In message has
