-- What passes over lines of others.
use Rattle.std.specs.Prelude.{◌≡◌, ℕ, Bool, true, false, List, [], ◌∷◌, ◌++◌}
use Rattle.node_wires.specs.declared.line.Line.{Line}
use Rattle.node_wires.specs.declared.line.Line.TheVariants.{Peer, Caller, Seat, Guest, Asker}
use Rattle.node_wires.specs.Passages.{Passage, Began, Came, Wrote, Gave, Logged, Tried, Ended, Closed, Saw, Waited, Called, came_over, wrote_over, seats_in, logged_in}

abbrev pub is_bots : Line → Bool
is_bots (Seat number) = true
is_bots (Guest place) = true
is_bots (Peer number) = false
is_bots (Caller place) = false
is_bots (Asker place) = false

-- something passed over the line of a bot or of a guest, or was tried: nobody waited, nobody saw the clock, and the node wasn't
-- called
abbrev pub IsOfBots : Passage → Type 0
IsOfBots (Began line) = is_bots line ≡ true
IsOfBots (Came line bytes) = is_bots line ≡ true
IsOfBots (Wrote line bytes) = is_bots line ≡ true
IsOfBots (Gave place seat) = Unit {0}
IsOfBots (Logged text) = ⊥
IsOfBots (Tried line way) = is_bots line ≡ true
IsOfBots (Ended line way) = is_bots line ≡ true
IsOfBots (Closed line) = is_bots line ≡ true
IsOfBots (Saw moment) = ⊥
IsOfBots (Waited most) = ⊥
IsOfBots Called = ⊥

abbrev pub AreOfBots : List Passage → Type 0
AreOfBots [] = Unit {0}
AreOfBots (p ∷ more) = IsOfBots p × AreOfBots more

-- all that passed is of bots and guests: over the lines of others nothing came and nothing was written
pub record KeepsOthers (old new : List Passage) : Type 0 where
  pub more : List Passage
  pub passed : new ≡ old ++ more
  pub of_bots : AreOfBots more
  pub wrote : (line : Line) → is_bots line ≡ false → wrote_over new line ≡ wrote_over old line
  pub came : (line : Line) → is_bots line ≡ false → came_over new line ≡ came_over old line

-- nothing came, nothing was written, and the log got nothing
pub record Rests (old new : List Passage) : Type 0 where
  pub wrote : (line : Line) → wrote_over new line ≡ wrote_over old line
  pub came : (line : Line) → came_over new line ≡ came_over old line
  pub seats : seats_in new ≡ seats_in old
  pub log : logged_in new ≡ logged_in old

-- to guests nothing is written: over the connection of each nothing was, so nothing is
abbrev pub TellsNoGuest : List Passage → List Passage → Type 0
TellsNoGuest old new = (place : ℕ) → wrote_over old (Guest place) ≡ [] → wrote_over new (Guest place) ≡ []
