-- What the protocol has to know of the dealer whose commands it orders. Lists of commands have the newest first.
use Rattle.std.specs.Prelude.{◌≡◌, ◌≢◌, ℕ, ◌⊎◌, Bool, true, Option, Some, List, [], ◌∷◌, ◌++◌}
use Rattle.std.specs.List.{AllByRecursion}
use Rattle.slot_log.specs.declared.command.Command.{Command}

-- what is asked of a dealer; whether a command is a deal or an act is its own business alone
pub record Dealer : Type 0 where
  -- the command takes effect after these
  pub fits : List Command → Command → Bool
  -- the command is this node's own
  pub own : ℕ → Command → Bool
  -- the line that the seat is shown after these; none before the first deal
  pub line : List Command → ℕ → Option (List ℕ)
  -- the whole log after these
  pub log : List Command → List ℕ
  -- after these, this line of the seat, without its line feed, says the command
  pub says : List Command → ℕ → List ℕ → Command → Bool
  -- after these, an order that the player to act is played for means the command
  pub orders : List Command → Command → Bool

-- each command takes effect after those before it
abbrev pub AllFit : Dealer → List Command → Type 0
AllFit dealer [] = Unit {0}
AllFit dealer (command ∷ before) = (dealer.fits before command ≡ true) × AllFit dealer before

-- who reads what is shown
pub data Reader : Type 0 where
  Seat : (seat : ℕ) → Reader
  Log : Reader

-- what a reader is shown after these commands
abbrev pub text_of : Dealer → List Command → Reader → Option (List ℕ)
text_of dealer commands (Seat seat) = dealer.line commands seat
text_of dealer commands Log = Some (dealer.log commands)

-- no line feed stands among the bytes
abbrev pub HasNoFeed : List ℕ → Type 0
HasNoFeed bytes = AllByRecursion (λ byte. byte ≢ 10) bytes

-- nothing stands before a line, or another line's line feed does
abbrev pub IsLineStart : List ℕ → Type 0
IsLineStart before = (before ≡ []) ⊎ ((front : List ℕ) × (before ≡ front ++ 10 ∷ []))

-- the bytes, oldest first, hold the whole line, with its line feed behind it; what a carriage return at its end says is the dealer's to know
pub record HasLine (bytes line : List ℕ) : Type 0 where
  pub before : List ℕ
  pub after : List ℕ
  pub whole : bytes ≡ before ++ (line ++ 10 ∷ after)
  pub starts : IsLineStart before
  pub one_line : HasNoFeed line
