-- What one turn takes, one thing after another.
use Rattle.std.proofs.Common.{◌≡◌, ◌⊎◌, inl, inr, ℕ, zero, suc, ◌+◌, ◌*◌, ◌/◌, ◌^◌, ◌%◌, ◌<◌, ◌≤◌, ◌==◌, ◌≢◌, max, bit_and, bit_or, w16, Bool, true, false, if◌then◌else◌, List, [], ◌∷◌, ◌++◌, length, append_assoc, append-nil, refl, ap, sym, subst, ◌∙◌, arith, eqb, nat_lt}
use Rattle.std.specs.Prelude.{Option, Some, None}
use Rattle.std.specs.Int.{bit_at}
use Rattle.std.proofs.lemmas.Bool.{cases_lt, lt-ltb, le-ltb}
use Rattle.std.proofs.lemmas.List.{length-append}
use Rattle.std.proofs.lemmas.Nat.Bits.{bit_at-lt, bit_at_or, bit_at_set_same, bit_at_set_other, shr_and_one}
use Rattle.std.proofs.lemmas.Bool.Decides.{eqb_tells}
use Rattle.node_wires.specs.Passages.{Passage, Began, Came, Gave}
use Rattle.node_wires.specs.declared.line.Line.TheVariants.{Seat}
use Rattle.node_seats.specs.declared.limits.TheConstants.{PIECE}
use Rattle.node_seats.specs.declared.seat.Seat.{Seat as Place}
use Rattle.node_seats.specs.Seating.{bit_of, sits_at, KeepsClosed}
use Rattle.node_service.specs.declared.limits.TheConstants.{SEATS}
use Rattle.node_seats.specs.declared.seat_notice.SeatNotice.{SeatNotice}
use Rattle.node_seats.specs.declared.seat_notice.SeatNotice.TheVariants as notices
use Rattle.node_seats.specs.Pieces.{IsPieceOf}
use Rattle.node_service.specs.Arriving.{Incoming, OfSeat, seats_of, peers_of}
use Rattle.node_service.specs.Crossing.{HasNoLife, EndsAtLife}
use Rattle.node_peers.specs.Noticing.{IsFrame}
use Rattle.node_peers.specs.declared.notice.Notice.{Notice}
use Rattle.node_peers.specs.declared.notice.Notice.TheVariants as peer_notices
use Rattle.node_service.specs.Telling.{told_of, incoming_by}
use Rattle.node_service.specs.Turns.{piece_over, pieces_of, IsOnePiece, AreFrames, ComeOfPeers, ComeOfSeats, IsNextOf, AreRead, IsLate, ComeInTurn, IsTurn, begins_at, things_at, Counts, IsFirstOf, Spares, IsNextBut, AreCallersBut, ComeOfSeatsBut, IsTurnBut, IsBegunOf, IsTurnOf}
use Rattle.node_service.proofs.Crossing.{no_life_both, ends_both, no_life_ends}
use Rattle.node_service.proofs.Incoming.{no_peer_told}
use Rattle.node_service.proofs.Showing.{seats_of_more, peers_of_more}

-- ---- of peers

pub no_frames : AreFrames []
no_frames = record { seats = refl; lives = tt }

pub nothing_of_peers : ComeOfPeers []
nothing_of_peers = record { seats = refl; lives = tt }

no_seats_both : (xs ys : List Incoming) → seats_of xs ≡ [] → seats_of ys ≡ [] → seats_of (xs ++ ys) ≡ []
no_seats_both xs ys none others = seats_of_more xs ys ∙ (ap (λ (m : List Passage). m ++ seats_of ys) none ∙ others)

no_peers_both : (xs ys : List Incoming) → peers_of xs ≡ [] → peers_of ys ≡ [] → peers_of (xs ++ ys) ≡ []
no_peers_both xs ys none others = peers_of_more xs ys ∙ (ap (λ (m : List Passage). m ++ peers_of ys) none ∙ others)

pub frames_on : (xs ys : List Incoming) → AreFrames xs → AreFrames ys → AreFrames (xs ++ ys)
frames_on xs ys first then_on = record {
  seats = no_seats_both xs ys first.seats then_on.seats;
  lives = subst (λ (m : List Passage). HasNoLife m) (sym (peers_of_more xs ys)) (no_life_both (peers_of xs) (peers_of ys) first.lives then_on.lives);
}

pub frames_to_life : (xs ys : List Incoming) → AreFrames xs → ComeOfPeers ys → ComeOfPeers (xs ++ ys)
frames_to_life xs ys first then_on = record {
  seats = no_seats_both xs ys first.seats then_on.seats;
  lives = subst (λ (m : List Passage). EndsAtLife m) (sym (peers_of_more xs ys)) (ends_both (peers_of xs) (peers_of ys) first.lives then_on.lives);
}

pub frames_are : (xs : List Incoming) → AreFrames xs → ComeOfPeers xs
frames_are xs are = record { seats = are.seats; lives = no_life_ends (peers_of xs) are.lives }

-- ---- of seats

pieces_both : (seat : ℕ) (xs ys : List Passage) → pieces_of seat (xs ++ ys) ≡ pieces_of seat xs ++ pieces_of seat ys
pieces_both seat [] ys = refl
pieces_both seat (Came line bytes ∷ xs) ys = ap (λ (m : List (List ℕ)). piece_over seat line bytes ++ m) (pieces_both seat xs ys) ∙ sym (append_assoc (piece_over seat line bytes) (pieces_of seat xs) (pieces_of seat ys))
pieces_both seat (other ∷ xs) ys = pieces_both seat xs ys

-- a seat of which a piece may have been taken, or none
abbrev IsTaken : Bool → List (List ℕ) → Type 0
IsTaken false pieces = pieces ≡ []
IsTaken true pieces = IsOnePiece pieces

-- of seats with numbers below this one alone, and of each one piece at most
pub record ComeOfSeatsBelow (at : ℕ) (things : List Incoming) : Type 0 where
  pub peers : peers_of things ≡ []
  pub pieces : (seat : ℕ) → IsTaken (nat_lt seat at) (pieces_of seat (seats_of things))

none_is_taken : (b : Bool) → IsTaken b []
none_is_taken true = tt
none_is_taken false = refl

taken_is_one : (b : Bool) (pieces : List (List ℕ)) → IsTaken b pieces → IsOnePiece pieces
taken_is_one true pieces is = is
taken_is_one false pieces is = subst (λ (m : List (List ℕ)). IsOnePiece m) (sym is) tt

pub none_below : (at : ℕ) → ComeOfSeatsBelow at []
none_below at = record { peers = refl; pieces = λ seat. none_is_taken (nat_lt seat at) }

below_is_all : (at : ℕ) (xs : List Incoming) → ComeOfSeatsBelow at xs → ((seat : ℕ) → seat < SEATS → things_at seat xs ≤ 1) → ComeOfSeats xs
below_is_all at xs are one = record { peers = are.peers; pieces = λ seat. taken_is_one (nat_lt seat at) (pieces_of seat (seats_of xs)) (are.pieces seat); one = one }

-- where no piece came, it is as before
taken_at : (at seat : ℕ) (pieces : List (List ℕ)) → IsTaken (nat_lt seat at) pieces → (seat < at) ⊎ (at ≤ seat) → IsTaken (nat_lt seat (at + 1)) pieces
taken_at at seat pieces is (inl below) =
    subst (λ (b : Bool). IsTaken b pieces) (sym (lt-ltb seat (at + 1) (omega arith))) (taken_is_one (nat_lt seat at) pieces is)
taken_at at seat pieces is (inr above) =
    let none : pieces ≡ [] = subst (λ (b : Bool). IsTaken b pieces) (le-ltb seat at above) is in
    subst (λ (m : List (List ℕ)). IsTaken (nat_lt seat (at + 1)) m) (sym none) (none_is_taken (nat_lt seat (at + 1)))

-- one piece more of the seat behind them
piece_at : (at seat : ℕ) (pieces : List (List ℕ)) (bytes : List ℕ) → length bytes ≤ PIECE → IsTaken (nat_lt seat at) pieces → ((eqb at seat ≡ true) × (at ≡ seat)) ⊎ ((eqb at seat ≡ false) × (at ≢ seat))
    → IsTaken (nat_lt seat (at + 1)) (pieces ++ ((if at == seat then bytes ∷ [] else []) ++ []))
piece_at at seat pieces bytes within is (inl here) =
    let none : pieces ≡ [] = subst (λ (b : Bool). IsTaken b pieces) (le-ltb seat at (omega (arith, here.1))) is in
    subst (λ (b : Bool). IsTaken b (pieces ++ ((if at == seat then bytes ∷ [] else []) ++ []))) (sym (lt-ltb seat (at + 1) (omega (arith, here.1))))
    (subst (λ (m : List (List ℕ)). IsOnePiece (m ++ ((if at == seat then bytes ∷ [] else []) ++ []))) (sym none) (subst (λ (b : Bool). IsOnePiece ((if b then bytes ∷ [] else []) ++ [])) (sym here.0) (within, refl)))
piece_at at seat pieces bytes within is (inr there) =
    subst (λ (b : Bool). IsTaken (nat_lt seat (at + 1)) (pieces ++ ((if b then bytes ∷ [] else []) ++ []))) (sym there.0)
    (subst (λ (m : List (List ℕ)). IsTaken (nat_lt seat (at + 1)) m) (sym (append-nil pieces)) (taken_at at seat pieces is (cases_lt seat at)))

more_below : (at : ℕ) (xs ys : List Incoming) → peers_of ys ≡ []
    → ((seat : ℕ) → IsTaken (nat_lt seat at) (pieces_of seat (seats_of xs)) → IsTaken (nat_lt seat (at + 1)) (pieces_of seat (seats_of xs) ++ pieces_of seat (seats_of ys)))
    → ComeOfSeatsBelow at xs → ComeOfSeatsBelow (at + 1) (xs ++ ys)
more_below at xs ys none step below = record {
  peers = no_peers_both xs ys below.peers none;
  pieces = λ seat.
      subst (λ (m : List (List ℕ)). IsTaken (nat_lt seat (at + 1)) m) (sym (ap (λ (m : List Passage). pieces_of seat m) (seats_of_more xs ys) ∙ pieces_both seat (seats_of xs) (seats_of ys))) (step seat (below.pieces seat));
}

no_piece_more : (at seat : ℕ) (pieces : List (List ℕ)) → IsTaken (nat_lt seat at) pieces → IsTaken (nat_lt seat (at + 1)) (pieces ++ [])
no_piece_more at seat pieces is = subst (λ (m : List (List ℕ)). IsTaken (nat_lt seat (at + 1)) m) (sym (append-nil pieces)) (taken_at at seat pieces is (cases_lt seat at))

below_by : (at : ℕ) (xs : List Incoming) (notice : Option SeatNotice) → IsPieceOf at PIECE notice → ComeOfSeatsBelow at xs → ComeOfSeatsBelow (at + 1) (xs ++ incoming_by notice)
below_by at xs None is = more_below at xs [] refl (λ seat. no_piece_more at seat (pieces_of seat (seats_of xs)))
below_by at xs (Some (notices.Came number)) is = more_below at xs (incoming_by (Some (notices.Came number))) refl (λ seat. no_piece_more at seat (pieces_of seat (seats_of xs)))
below_by at xs (Some (notices.Piece number bytes)) is =
    more_below at xs (incoming_by (Some (notices.Piece number bytes))) refl
    (λ seat so_far. subst (λ (n : ℕ). IsTaken (nat_lt seat (at + 1)) (pieces_of seat (seats_of xs) ++ ((if n == seat then bytes.items ∷ [] else []) ++ []))) (sym is.0)
    (piece_at at seat (pieces_of seat (seats_of xs)) bytes.items is.1 so_far (eqb_tells at seat)))
below_by at xs (Some other) is = more_below at xs [] refl (λ seat. no_piece_more at seat (pieces_of seat (seats_of xs)))

pub below_on : (at : ℕ) (xs ys : List Incoming) → ComeOfSeatsBelow at xs → IsNextOf at ys → ComeOfSeatsBelow (at + 1) (xs ++ ys)
below_on at xs ys below next = subst (λ (m : List Incoming). ComeOfSeatsBelow (at + 1) (xs ++ m)) (sym next.1.0) (below_by at xs next.0 next.1.1 below)

-- ---- who comes

begins_both : (seat : ℕ) (xs ys : List Passage) → begins_at seat (xs ++ ys) ≡ begins_at seat xs + begins_at seat ys
begins_both seat [] ys = omega arith
begins_both seat (Began line ∷ xs) ys = let e = begins_both seat xs ys in omega (arith, e)
begins_both seat (Gave place number ∷ xs) ys = let e = begins_both seat xs ys in omega (arith, e)
begins_both seat (other ∷ xs) ys = begins_both seat xs ys

begin_both : (seat : ℕ) (xs ys : List Incoming) → begins_at seat (seats_of (xs ++ ys)) ≡ begins_at seat (seats_of xs) + begins_at seat (seats_of ys)
begin_both seat xs ys = ap (λ (m : List Passage). begins_at seat m) (seats_of_more xs ys) ∙ begins_both seat (seats_of xs) (seats_of ys)

things_both : (seat : ℕ) (xs ys : List Incoming) → things_at seat (xs ++ ys) ≡ things_at seat xs + things_at seat ys
things_both seat xs ys =
    let begin = begin_both seat xs ys in
    let pieces : length (pieces_of seat (seats_of (xs ++ ys))) ≡ length (pieces_of seat (seats_of xs)) + length (pieces_of seat (seats_of ys)) =
    ap (λ (m : List Passage). length (pieces_of seat m)) (seats_of_more xs ys)
    ∙ (ap (λ (m : List (List ℕ)). length m) (pieces_both seat (seats_of xs) (seats_of ys)) ∙ length-append (pieces_of seat (seats_of xs)) (pieces_of seat (seats_of ys))) in
    omega (arith, begin, pieces)

-- ---- their bits

is_bit : (bit : ℕ) → bit < 2 → bit ≡ bit_of (eqb bit 1)
is_bit zero below = refl
is_bit (suc zero) below = refl
is_bit (suc (suc bit)) below = absurd (omega (arith, below))

pub is_lowest : (bits number : ℕ) → bit_at bits number ≡ bit_of (eqb (bit_and (bits / 2 ^ number) 1) 1)
is_lowest bits number = is_bit (bit_at bits number) (bit_at-lt bits number) ∙ ap (λ (bit : ℕ). bit_of (eqb bit 1)) (sym (shr_and_one bits number))

pub set_here : (bits number : ℕ) → number < 16 → bit_at (bit_or bits (1 * 2 ^ number % 2 ^ 16)) number ≡ 1
set_here bits number within = bit_at_set_same w16 bits number within

pub set_elsewhere : (bits number : ℕ) → number < 16 → (other : ℕ) → other ≢ number → bit_at (bit_or bits (1 * 2 ^ number % 2 ^ 16)) other ≡ bit_at bits other
set_elsewhere bits number within other differs = bit_at_set_other w16 bits number within other differs

pub none_counted : (taken : ℕ) → Counts taken taken []
none_counted taken seat within = omega arith

pub one_counted : (before after number : ℕ) → (number < SEATS → bit_at after number ≡ 1) → ((other : ℕ) → other ≢ number → bit_at after other ≡ bit_at before other) → (number < SEATS → bit_at before number ≡ 0)
    → Counts before after (OfSeat (Began (Seat number)) ∷ [])
one_counted before after number here others first seat within =
    elim (eqb_tells number seat) [
      | inl same ↦
          subst (λ (b : Bool). bit_at after seat ≡ bit_at before seat + (((if b then 1 else 0) + 0) + 0)) (sym same.0)
          (subst (λ (n : ℕ). bit_at after n ≡ bit_at before n + ((1 + 0) + 0)) same.1 (let one = here (omega (arith, same.1, within)) in let none = first (omega (arith, same.1, within)) in omega (arith, one, none)))
      | inr differs ↦
          subst (λ (b : Bool). bit_at after seat ≡ bit_at before seat + (((if b then 1 else 0) + 0) + 0)) (sym differs.0) (let stays = others seat (λ is. differs.1 (sym is)) in omega (arith, stays))
    ]

pub piece_counted : (before after number : ℕ) (bytes : List ℕ) → (number < SEATS → bit_at after number ≡ 1) → ((other : ℕ) → other ≢ number → bit_at after other ≡ bit_at before other) → (number < SEATS → bit_at before number ≡ 0)
    → Counts before after (OfSeat (Came (Seat number) bytes) ∷ [])
piece_counted before after number bytes here others first seat within =
    elim (eqb_tells number seat) [
      | inl same ↦
          subst (λ (b : Bool). bit_at after seat ≡ bit_at before seat + (0 + length ((if b then bytes ∷ [] else []) ++ []))) (sym same.0)
          (subst (λ (n : ℕ). bit_at after n ≡ bit_at before n + (0 + 1)) same.1 (let one = here (omega (arith, same.1, within)) in let none = first (omega (arith, same.1, within)) in omega (arith, one, none)))
      | inr differs ↦
          subst (λ (b : Bool). bit_at after seat ≡ bit_at before seat + (0 + length ((if b then bytes ∷ [] else []) ++ []))) (sym differs.0) (let stays = others seat (λ is. differs.1 (sym is)) in omega (arith, stays))
    ]

counts_on : (a b c : ℕ) (xs ys : List Incoming) → Counts a b xs → Counts b c ys → Counts a c (xs ++ ys)
counts_on a b c xs ys first then_on seat within =
    let one = first seat within in
    let two = then_on seat within in
    let both = things_both seat xs ys in
    omega (arith, one, two, both)

-- nobody was taken in at a seat whose bit is one of these, and where something was taken of the seat that is asked it isn't asked
none_of_both : (closed taken number : ℕ) → bit_at (bit_or closed taken) number ≡ 0 → (bit_at closed number ≡ 0) × (bit_at taken number ≡ 0)
none_of_both closed taken number none =
    let either : bit_at (bit_or closed taken) number ≡ max (bit_at closed number) (bit_at taken number) = bit_at_or closed taken number in
    (omega (arith, none, either), omega (arith, none, either))

pub first_of : (closed taken at : ℕ) (notice : SeatNotice) → (at < SEATS → bit_at taken at ≡ 0) → KeepsClosed (bit_or closed taken) (Some notice) → IsPieceOf at PIECE (Some notice) → IsFirstOf taken notice
first_of closed taken at (notices.Came number) none free piece = λ within. (none_of_both closed taken number free).1
first_of closed taken at (notices.Piece number bytes) none free piece = subst (λ (n : ℕ). n < SEATS → bit_at taken n ≡ 0) (sym piece.0) none
first_of closed taken at other none free piece = tt

spared_at : (closed number seat : ℕ) → bit_at closed number ≡ 0 → bit_at closed seat ≡ 1 → ((eqb number seat ≡ true) × (number ≡ seat)) ⊎ ((eqb number seat ≡ false) × (number ≢ seat)) → (if number == seat then 1 else 0) + 0 ≡ 0
spared_at closed number seat free shut (inl same) = absurd (let at : bit_at closed seat ≡ 0 = subst (λ (n : ℕ). bit_at closed n ≡ 0) same.1 free in omega (arith, at, shut))
spared_at closed number seat free shut (inr differs) = subst (λ (b : Bool). (if b then 1 else 0) + 0 ≡ 0) (sym differs.0) refl

pub spares_of : (closed taken : ℕ) (notice : SeatNotice) → KeepsClosed (bit_or closed taken) (Some notice) → Spares closed (incoming_by (Some notice))
spares_of closed taken (notices.Came number) free seat within shut = spared_at closed number seat (none_of_both closed taken number free).0 shut (eqb_tells number seat)
spares_of closed taken other free seat within shut = refl

spares_on : (closed : ℕ) (xs ys : List Incoming) → Spares closed xs → Spares closed ys → Spares closed (xs ++ ys)
spares_on closed xs ys first then_on seat within shut =
    let one = first seat within shut in
    let two = then_on seat within shut in
    let both = begin_both seat xs ys in
    omega (arith, one, two, both)

spares_peers : (closed : ℕ) (xs : List Incoming) → seats_of xs ≡ [] → Spares closed xs
spares_peers closed xs none seat within shut = ap (λ (m : List Passage). begins_at seat m) none

pub next_none : (at closed taken : ℕ) → IsNextBut at closed taken taken []
next_none at closed taken = record { next = (None, (refl, tt)); counts = none_counted taken; spares = λ seat within shut. refl }

-- of seats with numbers below this one, of which each of these gave one thing
pub record ComeBelow (at closed taken : ℕ) (things : List Incoming) : Type 0 where
  pub below : ComeOfSeatsBelow at things
  pub counts : Counts 0 taken things
  pub spares : Spares closed things

pub none_come : (closed : ℕ) → ComeBelow 0 closed 0 []
none_come closed = record { below = none_below 0; counts = none_counted 0; spares = λ seat within shut. refl }

pub come_on : (at closed before after : ℕ) (xs ys : List Incoming) → ComeBelow at closed before xs → IsNextBut at closed before after ys → ComeBelow (at + 1) closed after (xs ++ ys)
come_on at closed before after xs ys come next = record {
  below = below_on at xs ys come.below next.next;
  counts = counts_on 0 before after xs ys come.counts next.counts;
  spares = spares_on closed xs ys come.spares next.spares;
}

one_of : (taken : ℕ) (xs : List Incoming) → Counts 0 taken xs → (seat : ℕ) → seat < SEATS → things_at seat xs ≤ 1
one_of taken xs counts seat within =
    let is = counts seat within in
    let below = bit_at-lt taken seat in
    omega (arith, is, below)

pub come_is_all : (at closed taken : ℕ) (xs : List Incoming) → ComeBelow at closed taken xs → ComeOfSeatsBut closed xs
come_is_all at closed taken xs come = (below_is_all at xs come.below (one_of taken xs come.counts), come.spares)

-- ---- who came to ports

-- nobody
pub no_callers : (closed taken : ℕ) → AreCallersBut closed taken taken []
no_callers closed taken = record { peers = refl; pieces = λ seat. refl; counts = none_counted taken; spares = λ seat within shut. refl }

none_of_two : (seat : ℕ) (xs ys : List Incoming) → pieces_of seat (seats_of xs) ≡ [] → pieces_of seat (seats_of ys) ≡ [] → pieces_of seat (seats_of (xs ++ ys)) ≡ []
none_of_two seat xs ys none others =
    ap (λ (m : List Passage). pieces_of seat m) (seats_of_more xs ys) ∙ (pieces_both seat (seats_of xs) (seats_of ys) ∙ (ap (λ (m : List (List ℕ)). m ++ pieces_of seat (seats_of ys)) none ∙ others))

pub callers_on : (closed a b c : ℕ) (xs ys : List Incoming) → AreCallersBut closed a b xs → AreCallersBut closed b c ys → AreCallersBut closed a c (xs ++ ys)
callers_on closed a b c xs ys first then_on = record {
  peers = no_peers_both xs ys first.peers then_on.peers;
  pieces = λ seat. none_of_two seat xs ys (first.pieces seat) (then_on.pieces seat);
  counts = counts_on a b c xs ys first.counts then_on.counts;
  spares = spares_on closed xs ys first.spares then_on.spares;
}

-- before what came of seats with any numbers
pub callers_first : (closed taken : ℕ) (xs : List Incoming) → AreCallersBut closed 0 taken xs → ComeBelow 0 closed taken xs
callers_first closed taken xs are = record {
  below = record { peers = are.peers; pieces = λ seat. subst (λ (m : List (List ℕ)). IsTaken (nat_lt seat 0) m) (sym (are.pieces seat)) (none_is_taken (nat_lt seat 0)) };
  counts = are.counts;
  spares = are.spares;
}

-- no notice is a piece of two seats
pub caller_first : (closed taken : ℕ) (notice : SeatNotice) → KeepsClosed (bit_or closed taken) (Some notice) → ((number most : ℕ) → IsPieceOf number most (Some notice)) → IsFirstOf taken notice
caller_first closed taken (notices.Came number) free piece = λ within. (none_of_both closed taken number free).1
caller_first closed taken (notices.Piece number bytes) free piece = let one = (piece 0 0).0 in let two = (piece 1 0).0 in absurd (omega (arith, one, two))
caller_first closed taken other free piece = tt

no_piece_by : (notice : SeatNotice) → ((number most : ℕ) → IsPieceOf number most (Some notice)) → (seat : ℕ) → pieces_of seat (seats_of (incoming_by (Some notice))) ≡ []
no_piece_by (notices.Piece number bytes) piece seat = let one = (piece 0 0).0 in let two = (piece 1 0).0 in absurd (omega (arith, one, two))
no_piece_by other piece seat = refl

pub caller_but : (closed before after : ℕ) (notice : SeatNotice) → KeepsClosed (bit_or closed before) (Some notice) → ((number most : ℕ) → IsPieceOf number most (Some notice)) → Counts before after (incoming_by (Some notice))
    → AreCallersBut closed before after (incoming_by (Some notice))
caller_but closed before after notice free piece counts = record {
  peers = no_peer_told (Some notice);
  pieces = no_piece_by notice piece;
  counts = counts;
  spares = spares_of closed before notice free;
}

-- where more seats are closed
pub spares_fewer : (closed shut : ℕ) (xs : List Incoming) → Spares (bit_or closed shut) xs → Spares closed xs
spares_fewer closed shut xs spares seat within is =
    let either : bit_at (bit_or closed shut) seat ≡ max (bit_at closed seat) (bit_at shut seat) = bit_at_or closed shut seat in
    let below = bit_at-lt shut seat in
    spares seat within (omega (arith, either, is, below))

pub come_is_all_but : (at closed shut taken : ℕ) (xs : List Incoming) → ComeBelow at (bit_or closed shut) taken xs → ComeOfSeatsBut closed xs
come_is_all_but at closed shut taken xs come = let all = come_is_all at (bit_or closed shut) taken xs come in (all.0, spares_fewer closed shut xs all.1)

-- ---- a turn

pub nothing_of_seats : ComeOfSeats []
nothing_of_seats = record { peers = refl; pieces = λ seat. tt; one = λ seat within. omega arith }

pub all_read : (xs : List Incoming) → AreFrames xs → AreRead true xs
all_read xs are = record { peers = frames_are xs are; frames = λ all. are }

pub some_read : (xs : List Incoming) → ComeOfPeers xs → AreRead false xs
some_read xs come = record { peers = come; frames = λ all. absurd cc }

pub read_by : (all : Bool) (xs : List Incoming) → AreFrames xs → AreRead all xs
read_by all xs are = record { peers = frames_are xs are; frames = λ is. are }

pub then_seats : (read : Bool) (xs ys : List Incoming) → AreRead read xs → ComeOfSeats ys → ComeInTurn read (xs ++ ys)
then_seats read xs ys peers seats = record { first = xs; last = ys; all = refl; peers = peers; seats = seats }

pub peers_alone : (read : Bool) (xs : List Incoming) → AreRead read xs → ComeInTurn read xs
peers_alone read xs peers = record { first = xs; last = []; all = sym (append-nil xs); peers = peers; seats = nothing_of_seats }

pub nothing_late : (read : Bool) → IsLate read []
nothing_late read = record { frames = no_frames; most = omega arith; none = λ some. refl }

pub one_late : (read : Bool) (notice : Notice) → read ≡ true → IsFrame notice → IsLate read (told_of notice)
one_late true (peer_notices.Frame from frame) is one = record { frames = record { seats = refl; lives = tt }; most = omega arith; none = λ some. absurd cc }
one_late true (peer_notices.Joined peer life) is one = absurd one
one_late true (peer_notices.Gone peer) is one = absurd one
one_late true (peer_notices.Refused peer fault source) is one = absurd one
one_late true (peer_notices.Unreached peer refuses) is one = absurd one
one_late true (peer_notices.Strangers peer count fault) is one = absurd one
one_late true (peer_notices.Settings peer settings) is one = absurd one
one_late false notice is one = absurd cc

pub nothing_in_turn : IsTurn []
nothing_in_turn = record { read = true; early = []; late = []; all = refl; first = peers_alone true [] (all_read [] no_frames); then_on = nothing_late true }

-- of what came first and then of seats nothing stands behind a life
begun_to_life : (read : Bool) (xs : List Incoming) → ComeInTurn read xs → EndsAtLife (peers_of xs)
begun_to_life read xs turn =
    let none : peers_of (turn.first ++ turn.last) ≡ peers_of turn.first = peers_of_more turn.first turn.last ∙ (ap (λ (m : List Passage). peers_of turn.first ++ m) turn.seats.peers ∙ append-nil (peers_of turn.first)) in
    subst (λ (m : List Incoming). EndsAtLife (peers_of m)) (sym turn.all) (subst (λ (m : List Passage). EndsAtLife m) (sym none) turn.peers.peers.lives)

-- and where all of peers was taken none of it is a life
begun_without_life : (xs : List Incoming) → ComeInTurn true xs → HasNoLife (peers_of xs)
begun_without_life xs turn =
    let none : peers_of (turn.first ++ turn.last) ≡ peers_of turn.first = peers_of_more turn.first turn.last ∙ (ap (λ (m : List Passage). peers_of turn.first ++ m) turn.seats.peers ∙ append-nil (peers_of turn.first)) in
    let frames = turn.peers.frames refl in
    subst (λ (m : List Incoming). HasNoLife (peers_of m)) (sym turn.all) (subst (λ (m : List Passage). HasNoLife m) (sym none) frames.lives)

late_to_life : (read : Bool) (xs ys : List Incoming) → ComeInTurn read xs → IsLate read ys → EndsAtLife (peers_of (xs ++ ys))
late_to_life true xs ys turn late =
    subst (λ (m : List Passage). EndsAtLife m) (sym (peers_of_more xs ys)) (no_life_ends (peers_of xs ++ peers_of ys) (no_life_both (peers_of xs) (peers_of ys) (begun_without_life xs turn) late.frames.lives))
late_to_life false xs ys turn late =
    subst (λ (m : List Incoming). EndsAtLife (peers_of (xs ++ m))) (sym (late.none refl)) (subst (λ (m : List Incoming). EndsAtLife (peers_of m)) (sym (append-nil xs)) (begun_to_life false xs turn))

pub turn_to_life : (xs : List Incoming) → IsTurn xs → EndsAtLife (peers_of xs)
turn_to_life xs turn = subst (λ (m : List Incoming). EndsAtLife (peers_of m)) (sym turn.all) (late_to_life turn.read turn.early turn.late turn.first turn.then_on)

pub then_seats_but : (closed : ℕ) (read : Bool) (xs ys : List Incoming) → AreRead read xs → ComeOfSeatsBut closed ys → IsTurnBut closed read (xs ++ ys)
then_seats_but closed read xs ys peers seats = (then_seats read xs ys peers seats.0, spares_on closed xs ys (spares_peers closed xs peers.peers.seats) seats.1)

pub peers_but : (closed : ℕ) (read : Bool) (xs : List Incoming) → AreRead read xs → IsTurnBut closed read xs
peers_but closed read xs peers = (peers_alone read xs peers, spares_peers closed xs peers.peers.seats)

-- the closed seats are those at which these bots sit
one_at : (sits : Bool) (bit begins : ℕ) → bit ≡ bit_of sits → begins ≤ 1 → (bit ≡ 1 → begins ≡ 0) → begins + bit_of sits ≤ 1
one_at true bit begins is most spares = let none = spares is in omega (arith, none)
one_at false bit begins is most spares = omega (arith, most)

one_in_turn : (read : Bool) (xs : List Incoming) → ComeInTurn read xs → (seat : ℕ) → seat < SEATS → begins_at seat (seats_of xs) ≤ 1
one_in_turn read xs turn seat within =
    let all = ap (λ (m : List Incoming). begins_at seat (seats_of m)) turn.all in
    let both = begin_both seat turn.first turn.last in
    let none = ap (λ (m : List Passage). begins_at seat m) turn.peers.peers.seats in
    let one = turn.seats.one seat within in
    omega (arith, all, both, none, one)

pub turn_of : (closed : ℕ) (read : Bool) (bots : List Place) → ((seat : ℕ) → seat < 16 → bit_at closed seat ≡ bit_of (sits_at bots seat)) → (xs : List Incoming) → IsTurnBut closed read xs → IsBegunOf bots read xs
turn_of closed read bots are xs turn = (
  turn.0,
  λ seat within.
      one_at (sits_at bots seat) (bit_at closed seat) (begins_at seat (seats_of xs)) (are seat (omega (arith, within))) (one_in_turn read xs turn.0 seat within) (turn.1 seat within),
)

one_or_none : (b : Bool) → 0 + bit_of b ≤ 1
one_or_none true = omega arith
one_or_none false = omega arith

pub no_turn_of : (bots : List Place) → IsTurnOf bots []
no_turn_of bots = (nothing_in_turn, λ seat within. one_or_none (sits_at bots seat))

-- a turn without a frame behind it
pub turn_alone : (bots : List Place) (read : Bool) (xs : List Incoming) → IsBegunOf bots read xs → IsTurnOf bots xs
turn_alone bots read xs begun = (record { read = read; early = xs; late = []; all = sym (append-nil xs); first = begun.0; then_on = nothing_late read }, begun.1)

-- and with one
pub then_late : (bots : List Place) (read : Bool) (xs ys : List Incoming) → IsBegunOf bots read xs → IsLate read ys → IsTurnOf bots (xs ++ ys)
then_late bots read xs ys begun late = (
  record { read = read; early = xs; late = ys; all = refl; first = begun.0; then_on = late },
  λ seat within.
      let both = begin_both seat xs ys in
      let none = ap (λ (m : List Passage). begins_at seat m) late.frames.seats in
      let one = begun.1 seat within in
      omega (arith, both, none, one),
)

pub turn_of_to_life : (bots : List Place) (xs : List Incoming) → IsTurnOf bots xs → EndsAtLife (peers_of xs)
turn_of_to_life bots xs turn = turn_to_life xs turn.0
