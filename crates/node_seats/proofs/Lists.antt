-- What passed at one seat, where nothing is told of it or somebody is gone.
use Rattle.std.proofs.Common.{◌≡◌, ℕ, List, [], ◌∷◌, ◌++◌, append-nil, append_assoc, inl, inr, refl, ap, sym, ◌∙◌}
use Rattle.std.specs.Prelude.{Some, None, Vec}
use Rattle.std.specs.Global.{Global}
use Rattle.node_wires.specs.declared.line.Line.TheVariants.{Seat}
use Rattle.node_wires.specs.declared.way.Way.TheVariants.{Reading}
use Rattle.node_wires.specs.Passages.{Passage, Began, Came, Tried, Ended, Closed}
use Rattle.node_seats.specs.declared.seat_notice.SeatNotice.TheVariants as notices
use Rattle.node_seats.specs.Passing.{Passed, ReadsSeat}

pub nothing_more : {A : Type 0} (old new : List A) → new ≡ old → new ≡ old ++ []
nothing_more old new e = e ∙ sym (append-nil old)

pub nothing_passed : (old new : List Passage) → new ≡ old → Passed None old new
nothing_passed old new e = record { more = []; behind = e ∙ sym (append-nil old); by_it = inl refl }

pub tried_passed : (seat : ℕ) (old new : List Passage) → new ≡ old ++ Tried (Seat seat) Reading ∷ [] → Passed None old new
tried_passed seat old new e = record { more = Tried (Seat seat) Reading ∷ []; behind = e; by_it = inr (seat, refl) }

pub began_passed : (seat : ℕ) (old new : List Passage) → new ≡ old ++ Began (Seat seat) ∷ [] → Passed (Some (notices.Came seat)) old new
began_passed seat old new e = record { more = Began (Seat seat) ∷ []; behind = e; by_it = refl }

pub piece_passed : (seat : ℕ) (bytes : Vec ℕ Global) (old new : List Passage) → new ≡ old ++ Came (Seat seat) bytes.items ∷ [] → Passed (Some (notices.Piece seat bytes)) old new
piece_passed seat bytes old new e = record { more = Came (Seat seat) bytes.items ∷ []; behind = e; by_it = refl }

pub closed_passed : (seat : ℕ) (old new : List Passage) → new ≡ old ++ Closed (Seat seat) ∷ [] → Passed (Some (notices.Gone seat)) old new
closed_passed seat old new e = record { more = Closed (Seat seat) ∷ []; behind = e; by_it = inl refl }

pub unread_passed : (seat : ℕ) (old new : List Passage) → new ≡ old → Passed (Some (notices.Unread seat)) old new
unread_passed seat old new e = record { more = []; behind = nothing_more old new e; by_it = refl }

both_behind : (seat : ℕ) (old mid new : List Passage) → mid ≡ old ++ Ended (Seat seat) Reading ∷ [] → new ≡ mid ++ Closed (Seat seat) ∷ [] → new ≡ old ++ Ended (Seat seat) Reading ∷ Closed (Seat seat) ∷ []
both_behind seat old mid new e f = f ∙ (ap (λ (ps : List Passage). ps ++ Closed (Seat seat) ∷ []) e ∙ append_assoc old (Ended (Seat seat) Reading ∷ []) (Closed (Seat seat) ∷ []))

pub ended_passed : (seat : ℕ) (old mid new : List Passage) → mid ≡ old ++ Ended (Seat seat) Reading ∷ [] → new ≡ mid ++ Closed (Seat seat) ∷ [] → Passed (Some (notices.Gone seat)) old new
ended_passed seat old mid new e f = record { more = Ended (Seat seat) Reading ∷ Closed (Seat seat) ∷ []; behind = both_behind seat old mid new e f; by_it = inr refl }

-- ---- where somebody sits there

pub ended_reads : (seat : ℕ) (old mid new : List Passage) → mid ≡ old ++ Ended (Seat seat) Reading ∷ [] → new ≡ mid ++ Closed (Seat seat) ∷ [] → ReadsSeat seat (Some (notices.Gone seat)) old new
ended_reads seat old mid new e f = (refl, inr (both_behind seat old mid new e f))

pub closed_reads : (seat : ℕ) (old new : List Passage) → new ≡ old ++ Closed (Seat seat) ∷ [] → ReadsSeat seat (Some (notices.Gone seat)) old new
closed_reads seat old new e = (refl, inl e)
