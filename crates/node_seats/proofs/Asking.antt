-- What the bots of seats asked is read off what came of them, call by call.
use Rattle.std.proofs.Common.{◌≡◌, ◌≢◌, inl, inr, ℕ, ◌==◌, if◌then◌else◌, List, [], ◌∷◌, ◌++◌, append-nil, refl, ap, sym, subst, ◌∙◌}
use Rattle.std.proofs.lemmas.Bool.{cond-true, cond-false, eq-eqb, ne_eqb}
use Rattle.std.proofs.lemmas.Bool.Decides.{eqb_tells}
use Rattle.std.specs.Prelude.{Option, Some, None}
use Rattle.node_wires.specs.declared.line.Line.{Line}
use Rattle.node_wires.specs.declared.line.Line.TheVariants.{Peer, Caller, Seat as SeatOf, Guest, Asker}
use Rattle.node_wires.specs.Passages.{Passage, Began, Came, Wrote, Gave, Logged, Tried, Ended, Closed, Saw, Waited, Called, came_behind, came_over}
use Rattle.node_seats.specs.declared.bot.Bot.{Bot}
use Rattle.node_seats.specs.declared.seat.Seat.{Seat}
use Rattle.node_seats.specs.declared.seats.Seats.{Seats}
use Rattle.node_seats.specs.declared.seat_notice.SeatNotice.{SeatNotice}
use Rattle.node_seats.specs.declared.seat_notice.SeatNotice.TheVariants as notices
use Rattle.node_seats.specs.declared.token_digest.TokenDigest.{TokenDigest}
use Rattle.node_seats.specs.Words.{Reading, fresh, with_byte, with_bytes, read_of}
use Rattle.node_seats.specs.Passing.{AreOfGuests, HearsNothing, passed_by}
use Rattle.node_seats.specs.Guesting.{IsGuested, behind_by}
use Rattle.node_seats.specs.Writing.{AreToSeats, WritesToSeats}
use Rattle.node_seats.specs.Coming.{Comes, tokens_of, passed_of}
use Rattle.node_seats.specs.Seating.{newcomer, gone, heard, bot_at, Changes}
use Rattle.node_seats.specs.Telling.{IsAsked, SaysAt}
use Rattle.node_seats.proofs.Others.{came_both, came_coming}

bytes_both : (r : Reading) (xs ys : List ℕ) → with_bytes r (xs ++ ys) ≡ with_bytes (with_bytes r xs) ys
bytes_both r [] ys = refl
bytes_both r (x ∷ xs) ys = bytes_both (with_byte r x) xs ys

-- ---- what came of a seat

abbrev CameBy : Option SeatNotice → ℕ → List ℕ → List ℕ → Type 0
CameBy None seat old new = new ≡ old
CameBy (Some (notices.Came number)) seat old new = (seat ≡ number → new ≡ []) × ((seat ≢ number) → new ≡ old)
CameBy (Some (notices.Piece number bytes)) seat old new = (seat ≡ number → new ≡ old ++ bytes.items) × ((seat ≢ number) → new ≡ old)
CameBy (Some (notices.Gone number)) seat old new = new ≡ old
CameBy (Some (notices.Refused number source)) seat old new = new ≡ old
CameBy (Some (notices.Unread number)) seat old new = new ≡ old

none_came : (notice : Option SeatNotice) (seat : ℕ) (old new : List ℕ) → HearsNothing notice → new ≡ old → CameBy notice seat old new
none_came None seat old new hears e = e
none_came (Some (notices.Came number)) seat old new hears e = absurd hears
none_came (Some (notices.Piece number bytes)) seat old new hears e = absurd hears
none_came (Some (notices.Gone number)) seat old new hears e = e
none_came (Some (notices.Refused number source)) seat old new hears e = absurd hears
none_came (Some (notices.Unread number)) seat old new hears e = absurd hears

of_guests : (seat : ℕ) (before : List ℕ) (ps : List Passage) → AreOfGuests ps → came_behind (SeatOf seat) before ps ≡ before
of_guests seat before [] are = refl
of_guests seat before (Began (Guest place) ∷ ps) are = of_guests seat before ps are.1
of_guests seat before (Came (Guest place) bytes ∷ ps) are = of_guests seat before ps are.1
of_guests seat before (Began (Peer n) ∷ ps) are = absurd are.0
of_guests seat before (Began (Caller n) ∷ ps) are = absurd are.0
of_guests seat before (Began (SeatOf n) ∷ ps) are = absurd are.0
of_guests seat before (Began (Asker n) ∷ ps) are = absurd are.0
of_guests seat before (Came (Peer n) bytes ∷ ps) are = absurd are.0
of_guests seat before (Came (Caller n) bytes ∷ ps) are = absurd are.0
of_guests seat before (Came (SeatOf n) bytes ∷ ps) are = absurd are.0
of_guests seat before (Came (Asker n) bytes ∷ ps) are = absurd are.0
of_guests seat before (Wrote line bytes ∷ ps) are = absurd are.0
of_guests seat before (Gave place number ∷ ps) are = absurd are.0
of_guests seat before (Logged text ∷ ps) are = absurd are.0
of_guests seat before (Tried line way ∷ ps) are = of_guests seat before ps are.1
of_guests seat before (Ended line way ∷ ps) are = of_guests seat before ps are.1
of_guests seat before (Closed line ∷ ps) are = of_guests seat before ps are.1
of_guests seat before (Saw moment ∷ ps) are = absurd are.0
of_guests seat before (Waited most ∷ ps) are = absurd are.0
of_guests seat before (Called ∷ ps) are = absurd are.0

one_or_other : (number seat : ℕ) (here there new : List ℕ) → new ≡ (if number == seat then here else there) → (seat ≡ number → new ≡ here) × ((seat ≢ number) → new ≡ there)
one_or_other number seat here there new e = (
  λ same. e ∙ cond-true (number == seat) here there (eq-eqb number seat (sym same)),
  λ differs. e ∙ cond-false (number == seat) here there (ne_eqb number seat (λ same. differs (sym same))),
)

of_passed : (notice : Option SeatNotice) (seat : ℕ) (before : List ℕ) → CameBy notice seat before (came_behind (SeatOf seat) before (passed_by notice))
of_passed None seat before = refl
of_passed (Some (notices.Came number)) seat before = one_or_other number seat [] before (came_behind (SeatOf seat) before (Began (SeatOf number) ∷ [])) refl
of_passed (Some (notices.Piece number bytes)) seat before = one_or_other number seat (before ++ bytes.items) before (came_behind (SeatOf seat) before (Came (SeatOf number) bytes.items ∷ [])) refl
of_passed (Some (notices.Gone number)) seat before = refl
of_passed (Some (notices.Refused number source)) seat before = refl
of_passed (Some (notices.Unread number)) seat before = refl

-- behind what passed over guests' lines
behind_guests : (seat : ℕ) (before : List ℕ) (more last : List Passage) → AreOfGuests more → came_behind (SeatOf seat) before (more ++ last) ≡ came_behind (SeatOf seat) before last
behind_guests seat before more last are = came_both (SeatOf seat) before more last ∙ ap (λ (b : List ℕ). came_behind (SeatOf seat) b last) (of_guests seat before more are)

of_more : (tokens : Option (List TokenDigest)) (notice : Option SeatNotice) (old more : List Passage) (seat : ℕ) (before : List ℕ) → IsGuested tokens notice old more
    → CameBy notice seat before (came_behind (SeatOf seat) before (more ++ behind_by tokens notice))
of_more None notice old more seat before is = subst (λ (ps : List Passage). CameBy notice seat before (came_behind (SeatOf seat) before (ps ++ passed_by notice))) (sym is) (of_passed notice seat before)
of_more (Some tokens) None old more seat before is = behind_guests seat before more [] is
of_more (Some tokens) (Some (notices.Came number)) old more seat before is =
    one_or_other number seat [] before (came_behind (SeatOf seat) before (more ++ []))
    (ap (λ (ps : List Passage). came_behind (SeatOf seat) before ps) (append-nil more ∙ is.given) ∙ behind_guests seat before is.front (Gave is.place number ∷ []) is.of_guests)
of_more (Some tokens) (Some (notices.Piece number bytes)) old more seat before is =
    one_or_other number seat (before ++ bytes.items) before (came_behind (SeatOf seat) before (more ++ Came (SeatOf number) bytes.items ∷ [])) (behind_guests seat before more (Came (SeatOf number) bytes.items ∷ []) is)
of_more (Some tokens) (Some (notices.Gone number)) old more seat before is = behind_guests seat before more [] is
of_more (Some tokens) (Some (notices.Refused number source)) old more seat before is = behind_guests seat before more [] is
of_more (Some tokens) (Some (notices.Unread number)) old more seat before is = behind_guests seat before more [] is

-- ---- at a seat

abbrev AskedAt : ℕ → List Passage → List Seat → Type 0
AskedAt seat passed seats = IsAsked (came_over passed (SeatOf seat)) (bot_at seats seat).words

stays_asked : (seat : ℕ) (passed_old passed_new : List Passage) (old new : List Seat) → (bot_at new seat).words ≡ (bot_at old seat).words → came_over passed_new (SeatOf seat) ≡ came_over passed_old (SeatOf seat) → AskedAt seat passed_old old
    → AskedAt seat passed_new new
stays_asked seat passed_old passed_new old new words came is = words ∙ (is ∙ ap read_of (sym came))

comes_asked : (notice : Option SeatNotice) (seat : ℕ) (passed_old passed_new : List Passage) (old new : List Seat) → CameBy notice seat (came_over passed_old (SeatOf seat)) (came_over passed_new (SeatOf seat)) → Changes notice old new
    → AskedAt seat passed_old old → AskedAt seat passed_new new
comes_asked None seat passed_old passed_new old new came sits is = stays_asked seat passed_old passed_new old new (ap (λ (b : Bot). b.words) (sits seat)) came is
comes_asked (Some (notices.Piece number bytes)) seat passed_old passed_new old new came sits is = elim (eqb_tells seat number) as (λ _. AskedAt seat passed_new new) [
  | inl here ↦
      ap (λ (b : Bot). b.words) (subst (λ (n : ℕ). bot_at new n ≡ heard bytes.items (bot_at old n)) (sym here.1) sits.0)
      ∙ (ap (λ (r : Reading). with_bytes r bytes.items) is ∙ (sym (bytes_both fresh (came_over passed_old (SeatOf seat)) bytes.items) ∙ ap read_of (sym (came.0 here.1))))
  | inr there ↦ stays_asked seat passed_old passed_new old new (ap (λ (b : Bot). b.words) (sits.1 seat there.1)) (came.1 there.1) is
]
comes_asked (Some (notices.Refused number source)) seat passed_old passed_new old new came sits is = stays_asked seat passed_old passed_new old new (ap (λ (b : Bot). b.words) (sits seat)) came is
comes_asked (Some (notices.Unread number)) seat passed_old passed_new old new came sits is = stays_asked seat passed_old passed_new old new (ap (λ (b : Bot). b.words) (sits seat)) came is
comes_asked (Some (notices.Came number)) seat passed_old passed_new old new came sits is = elim (eqb_tells seat number) as (λ _. AskedAt seat passed_new new) [
  | inl here ↦ ap (λ (b : Bot). b.words) (subst (λ (n : ℕ). bot_at new n ≡ newcomer) (sym here.1) sits.1.0) ∙ ap read_of (sym (came.0 here.1))
  | inr there ↦ stays_asked seat passed_old passed_new old new (ap (λ (b : Bot). b.words) (sits.1.1 seat there.1)) (came.1 there.1) is
]
comes_asked (Some (notices.Gone number)) seat passed_old passed_new old new came sits is = elim (eqb_tells seat number) as (λ _. AskedAt seat passed_new new) [
  | inl here ↦ stays_asked seat passed_old passed_new old new (ap (λ (b : Bot). b.words) (subst (λ (n : ℕ). bot_at new n ≡ gone (bot_at old n)) (sym here.1) sits.0)) came is
  | inr there ↦ stays_asked seat passed_old passed_new old new (ap (λ (b : Bot). b.words) (sits.1 seat there.1)) came is
]

-- ---- calls

pub asked_coming : (notice : Option SeatNotice) (old new : Seats) (wired_old wired_new : List Passage) → Comes notice old new wired_old wired_new → (seat : ℕ) → AskedAt seat wired_old old.seats.items → AskedAt seat wired_new new.seats.items
asked_coming notice old new wired_old wired_new comes seat is =
    let more = comes.passes.more ++ behind_by (tokens_of old) notice in
    let came : came_over wired_new (SeatOf seat) ≡ came_behind (SeatOf seat) (came_over wired_old (SeatOf seat)) more = came_coming notice old new wired_old wired_new (SeatOf seat) comes in
    comes_asked notice seat wired_old wired_new old.seats.items new.seats.items
    (subst (λ (c : List ℕ). CameBy notice seat (came_over wired_old (SeatOf seat)) c) (sym came)
    (of_more (tokens_of old) notice (passed_of old) comes.passes.more seat (came_over wired_old (SeatOf seat)) comes.passes.guested))
    comes.sits is

pub asked_leaving : (notice : Option SeatNotice) (seat : ℕ) (passed_old passed_new : List Passage) (old new : List Seat) → HearsNothing notice → came_over passed_new (SeatOf seat) ≡ came_over passed_old (SeatOf seat) → Changes notice old new
    → AskedAt seat passed_old old → AskedAt seat passed_new new
asked_leaving notice seat passed_old passed_new old new hears same sits is =
    comes_asked notice seat passed_old passed_new old new (none_came notice seat (came_over passed_old (SeatOf seat)) (came_over passed_new (SeatOf seat)) hears same) sits is

pub asked_telling : (number : ℕ) (old new : List Seat) → SaysAt number old new → (passed : List Passage) (seat : ℕ) → AskedAt seat passed old → AskedAt seat passed new
asked_telling number old new says passed seat is = elim (eqb_tells seat number) as (λ _. AskedAt seat passed new) [
  | inl here ↦ stays_asked seat passed passed old new (subst (λ (n : ℕ). (bot_at new n).words ≡ (bot_at old n).words) (sym here.1) says.here.words) refl is
  | inr there ↦ stays_asked seat passed passed old new (ap (λ (b : Bot). b.words) (says.bots seat there.1)) refl is
]

-- ---- where pieces are written to seats

none_by_writing : (line : Line) (before : List ℕ) (ps : List Passage) → AreToSeats ps → came_behind line before ps ≡ before
none_by_writing line before [] are = refl
none_by_writing line before (Wrote at bytes ∷ ps) are = none_by_writing line before ps are.1
none_by_writing line before (Began at ∷ ps) are = absurd are.0
none_by_writing line before (Came at bytes ∷ ps) are = absurd are.0
none_by_writing line before (Gave place seat ∷ ps) are = absurd are.0
none_by_writing line before (Logged text ∷ ps) are = absurd are.0
none_by_writing line before (Tried at way ∷ ps) are = none_by_writing line before ps are.1
none_by_writing line before (Ended at way ∷ ps) are = none_by_writing line before ps are.1
none_by_writing line before (Closed at ∷ ps) are = none_by_writing line before ps are.1
none_by_writing line before (Saw moment ∷ ps) are = absurd are.0
none_by_writing line before (Waited most ∷ ps) are = absurd are.0
none_by_writing line before (Called ∷ ps) are = absurd are.0

pub nothing_came : (old new : List Passage) (line : Line) → WritesToSeats old new → came_over new line ≡ came_over old line
nothing_came old new line writes = ap (λ (ps : List Passage). came_over ps line) writes.passed ∙ (came_both line [] old writes.more ∙ none_by_writing line (came_over old line) writes.more writes.to_seats)
