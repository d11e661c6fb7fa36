-- How long a bot may go without naming the version, where one of the seats is another.
use Rattle.std.proofs.Common.{◌≡◌, ◌≢◌, ℕ, ◌<◌, ◌≤◌, Bool, false, List, length, get_or, set, refl, sym, ap, subst, ◌∙◌, arith}
use Rattle.std.specs.Prelude.{Option, Some, None, IfSome}
use Rattle.std.proofs.lemmas.List.{get_or-set_same, get_or-set_other, get_or_default}
use Rattle.node_seats.specs.declared.seat.Seat.{Seat}
use Rattle.node_seats.specs.declared.seat_notice.SeatNotice.{SeatNotice}
use Rattle.node_seats.specs.declared.seat_notice.SeatNotice.TheVariants as notices
use Rattle.node_seats.specs.Passing.{seat_of}
use Rattle.node_seats.specs.Seating.{nobody}
use Rattle.node_seats.specs.Hurrying.{since_at, Hurries, LastsAt}

since_elsewhere : (seats : List Seat) (number other : ℕ) (seat : Seat) → other ≢ number → since_at (set seats number seat) other ≡ since_at seats other
since_elsewhere seats number other seat differs = ap (λ (s : Seat). s.since) (get_or-set_other seats number other seat nobody differs)

-- what isn't told of another seat leaves its time
elsewhere_by : (now : ℕ) (notice : Option SeatNotice) (old new : List Seat) (number seat : ℕ) → IfSome notice (λ n. seat_of n ≡ number) → (seat ≡ number → ⊥) → since_at new seat ≡ since_at old seat → LastsAt now notice old new seat
elsewhere_by now None old new number seat is differs same = same
elsewhere_by now (Some (notices.Piece at bytes)) old new number seat is differs same = same
elsewhere_by now (Some (notices.Gone at)) old new number seat is differs same = same
elsewhere_by now (Some (notices.Refused at source)) old new number seat is differs same = same
elsewhere_by now (Some (notices.Unread at)) old new number seat is differs same = same
elsewhere_by now (Some (notices.Came at)) old new number seat is differs same = (λ here. absurd (differs (here ∙ is)), λ _. same)

-- the seat that is asked is another
pub asked_there : (greeted : Bool) (now number count : ℕ) (notice : Option SeatNotice) (seats : List Seat) (old new : Seat) → number < length seats → old ≡ get_or seats number old → IfSome notice (λ n. seat_of n ≡ number)
    → Hurries greeted now number notice old new → Hurries greeted now number notice (get_or seats number nobody) (get_or (set seats number new) number nobody)
asked_there greeted now number count notice seats old new within found is hurries =
    subst (λ (s : Seat). Hurries greeted now number notice s (get_or (set seats number new) number nobody)) (found ∙ get_or_default seats number old nobody within)
    (subst (λ (s : Seat). Hurries greeted now number notice old s) (sym (get_or-set_same seats number new nobody within)) hurries)

pub asked_elsewhere : (now number count : ℕ) (notice : Option SeatNotice) (seats : List Seat) (new : Seat) → number < count → IfSome notice (λ n. seat_of n ≡ number) → (seat : ℕ) → (seat ≡ number → count ≤ number) → LastsAt now notice seats (set seats number new) seat
asked_elsewhere now number count notice seats new within is seat apart =
    let differs : seat ≡ number → ⊥ = λ here. omega (arith, apart here, within) in
    elsewhere_by now notice seats (set seats number new) number seat is differs (since_elsewhere seats number seat new differs)

-- nothing is told, and no seat is another
pub nothing_asked : (greeted : Bool) (now number : ℕ) (seat : Seat) → seat.bot.sits ≡ false → Hurries greeted now number None seat seat
nothing_asked greeted now number seat nobody_sits = record { over = λ sits. absurd (cc (sits, nobody_sits)); ends = λ came sits. absurd (cc (sits, nobody_sits)); lasts = λ _. refl }
