-- Who was taken in at a seat.
use Rattle.std.specs.Prelude.{◌≡◌, ℕ, List, [], ◌∷◌, ◌++◌, Option, Some, None}
use Rattle.node_wires.specs.declared.line.Line.{Line}
use Rattle.node_wires.specs.declared.line.Line.TheVariants.{Peer, Caller, Seat, Guest, Asker}
use Rattle.node_wires.specs.Passages.{Passage, Began, Gave, came_over}
use Rattle.node_seats.specs.declared.guests.Guests.{Guests}
use Rattle.node_seats.specs.declared.token_digest.TokenDigest.{TokenDigest}
use Rattle.node_seats.specs.Coming.{tokens_in, passed_in}
use Rattle.node_seats.specs.Guesting.{ShowsToken}
use Rattle.node_service.specs.Arriving.{Incoming, OfSeat, OfPeer, OfJoined}

-- the seats' tokens stay, and what had passed over the lines of guests has, as it was put down, maybe with more behind it
pub record Hosts (old new : Option Guests) : Type 0 where
  pub tokens : tokens_in new ≡ tokens_in old
  pub more : List Passage
  pub passed : passed_in new ≡ passed_in old ++ more

-- once so much had passed the connection of a guest was given to this seat, over which its token had come and nothing else
pub record LetIn (tokens : List TokenDigest) (passed : List Passage) (seat : ℕ) : Type 0 where
  pub place : ℕ
  pub before : List Passage
  pub since : List Passage
  pub passed_is : passed ≡ before ++ Gave place seat ∷ since
  pub shows : ShowsToken tokens seat (came_over before (Guest place))

abbrev pub IsLetInAt : List TokenDigest → List Passage → Line → Type 0
IsLetInAt tokens passed (Seat number) = LetIn tokens passed number
IsLetInAt tokens passed (Peer number) = Unit {0}
IsLetInAt tokens passed (Caller place) = Unit {0}
IsLetInAt tokens passed (Guest place) = Unit {0}
IsLetInAt tokens passed (Asker place) = Unit {0}

abbrev pub IsLetInBy : List TokenDigest → List Passage → Passage → Type 0
IsLetInBy tokens passed (Began line) = IsLetInAt tokens passed line
IsLetInBy tokens passed other = Unit {0}

-- where a bot was taken in at a seat that was so, or seats have no tokens
abbrev pub IsLetIn : Option (List TokenDigest) → List Passage → Incoming → Type 0
IsLetIn None passed thing = Unit {0}
IsLetIn (Some tokens) passed (OfSeat passage) = IsLetInBy tokens passed passage
IsLetIn (Some tokens) passed (OfPeer from frame) = Unit {0}
IsLetIn (Some tokens) passed (OfJoined peer) = Unit {0}

abbrev pub AreLetIn : Option Guests → List Incoming → Type 0
AreLetIn guests [] = Unit {0}
AreLetIn guests (thing ∷ more) = IsLetIn (tokens_in guests) (passed_in guests) thing × AreLetIn guests more
