-- What came of guests, and by what one of them is the bot of a seat.
use Rattle.std.specs.Prelude.{◌≡◌, ◌<◌, ℕ, List, [], ◌∷◌, ◌++◌, length, get_or, Option, Some, None}
use Rattle.std.specs.Coded.{Coded-set, coded_ℕ, coded_list, Π_prop, Unit-prop}
use Rattle.node_wires.specs.declared.line.Line.TheVariants.{Guest as GuestAt, Seat}
use Rattle.node_wires.specs.Passages.{Passage, Came as PieceCame, Gave, came_over}
use Rattle.node_seats.specs.declared.guest.Guest.{Guest}
use Rattle.node_seats.specs.declared.guest.Found.{Found}
use Rattle.node_seats.specs.declared.guest.Found.TheVariants as founds
use Rattle.node_seats.specs.declared.token_digest.TokenDigest.{TokenDigest}
use Rattle.node_seats.specs.declared.seat_notice.SeatNotice.{SeatNotice}
use Rattle.node_seats.specs.declared.seat_notice.SeatNotice.TheVariants as notices
use Rattle.node_seats.specs.Tokens.{IsTokenLine}
use Rattle.node_seats.specs.Passing.{AreOfGuests, passed_by, IsPassedBy}

-- ---- what came

-- all that came over the connection of a guest is what is kept of his line
abbrev pub IsHeard : List ℕ → Option Guest → Type 0
IsHeard came None = Unit {0}
IsHeard came (Some guest) = came ≡ guest.line.items

-- of the guest at each place
abbrev pub AreHeard : List Passage → List (Option Guest) → Type 0
AreHeard passed guests = (place : ℕ) → IsHeard (came_over passed (GuestAt place)) (get_or guests place None)

heard_prop : (came : List ℕ) (guest : Option Guest) → IsProp (IsHeard came guest)
heard_prop came None = Unit-prop
heard_prop came (Some guest) = Coded-set (coded_list coded_ℕ) _ _

pub are_heard_prop : (passed : List Passage) (guests : List (Option Guest)) → IsProp (AreHeard passed guests)
are_heard_prop passed guests = Π_prop (λ place. heard_prop (came_over passed (GuestAt place)) (get_or guests place None))

-- what is kept of the line of the guest at a place stays what came over it, and over the lines of others nothing comes
pub record Hears (place : ℕ) (old new : Option Guest) (passed_old passed_new : List Passage) : Type 0 where
  pub here : IsHeard (came_over passed_old (GuestAt place)) old → IsHeard (came_over passed_new (GuestAt place)) new
  pub elsewhere : (other : ℕ) → (place ≡ other → ⊥) → came_over passed_new (GuestAt other) ≡ came_over passed_old (GuestAt other)

-- of each guest what is kept of his line stays what came over it
abbrev pub HeardThrough : List Passage → List Passage → List (Option Guest) → List (Option Guest) → Type 0
HeardThrough passed_old passed_new old new = AreHeard passed_old old → AreHeard passed_new new

-- ---- tokens

abbrev pub no_digest : TokenDigest
no_digest = record { bytes = [] }

-- what came shows the token of a seat, where it has one
pub record ShowsToken (tokens : List TokenDigest) (seat : ℕ) (came : List ℕ) : Type 0 where
  pub has_one : seat < length tokens
  pub shown : IsTokenLine (get_or tokens seat no_digest).bytes came

-- a guest of whom it is found that he showed the token of a seat did so, and one who is refused didn't
abbrev pub IsFound : List TokenDigest → List ℕ → Found → Type 0
IsFound tokens came founds.Nothing = Unit {0}
IsFound tokens came (founds.Refused seat) = ShowsToken tokens seat came → ⊥
IsFound tokens came (founds.Shown seat) = ShowsToken tokens seat came

-- what is told of a guest goes by what came of him: who sat at a seat makes room only for one who showed its token, and who
-- is refused didn't show it
abbrev pub IsToldOf : List TokenDigest → List ℕ → Option SeatNotice → Type 0
IsToldOf tokens came None = Unit {0}
IsToldOf tokens came (Some (notices.Came seat)) = Unit {0}
IsToldOf tokens came (Some (notices.Piece seat bytes)) = ⊥
IsToldOf tokens came (Some (notices.Gone seat)) = ShowsToken tokens seat came
IsToldOf tokens came (Some (notices.Refused seat source)) = ShowsToken tokens seat came → ⊥
IsToldOf tokens came (Some (notices.Unread seat)) = ⊥

-- last of all the connection of a guest was given to this seat, over which its token had come and nothing else
pub record IsSeated (tokens : List TokenDigest) (seat : ℕ) (old more : List Passage) : Type 0 where
  pub place : ℕ
  pub front : List Passage
  pub of_guests : AreOfGuests front
  pub given : more ≡ front ++ Gave place seat ∷ []
  pub shows : ShowsToken tokens seat (came_over (old ++ front) (GuestAt place))

-- of what passed more over guests' lines: nothing without tokens; who was taken in at a seat was a guest who showed its token
abbrev pub IsGuested : Option (List TokenDigest) → Option SeatNotice → List Passage → List Passage → Type 0
IsGuested None notice old more = more ≡ []
IsGuested (Some tokens) None old more = AreOfGuests more
IsGuested (Some tokens) (Some (notices.Came seat)) old more = IsSeated tokens seat old more
IsGuested (Some tokens) (Some (notices.Piece seat bytes)) old more = AreOfGuests more
IsGuested (Some tokens) (Some (notices.Gone seat)) old more = AreOfGuests more
IsGuested (Some tokens) (Some (notices.Refused seat source)) old more = AreOfGuests more
IsGuested (Some tokens) (Some (notices.Unread seat)) old more = AreOfGuests more

-- and what moved behind it over the line of a seat
abbrev pub behind_by : Option (List TokenDigest) → Option SeatNotice → List Passage
behind_by None notice = passed_by notice
behind_by (Some tokens) None = []
behind_by (Some tokens) (Some (notices.Came seat)) = []
behind_by (Some tokens) (Some (notices.Piece seat bytes)) = PieceCame (Seat seat) bytes.items ∷ []
behind_by (Some tokens) (Some (notices.Gone seat)) = []
behind_by (Some tokens) (Some (notices.Refused seat source)) = []
behind_by (Some tokens) (Some (notices.Unread seat)) = []

-- what passed there
abbrev pub IsBehind : Option (List TokenDigest) → Option SeatNotice → List Passage → Type 0
IsBehind None notice behind = IsPassedBy notice behind
IsBehind (Some tokens) None behind = IsPassedBy None behind
IsBehind (Some tokens) (Some (notices.Came seat)) behind = behind ≡ []
IsBehind (Some tokens) (Some (notices.Piece seat bytes)) behind = IsPassedBy (Some (notices.Piece seat bytes)) behind
IsBehind (Some tokens) (Some (notices.Gone seat)) behind = IsPassedBy (Some (notices.Gone seat)) behind
IsBehind (Some tokens) (Some (notices.Refused seat source)) behind = behind ≡ []
IsBehind (Some tokens) (Some (notices.Unread seat)) behind = behind ≡ []

-- what passed in a call, and what of it is put down of guests
pub record Passes (tokens : Option (List TokenDigest)) (notice : Option SeatNotice) (old new wired_old wired_new : List Passage) : Type 0 where
  pub more : List Passage
  pub guested : IsGuested tokens notice old more
  pub put_down : new ≡ old ++ more
  pub behind : List Passage
  pub by_it : IsBehind tokens notice behind
  pub wired : wired_new ≡ wired_old ++ (more ++ behind)
