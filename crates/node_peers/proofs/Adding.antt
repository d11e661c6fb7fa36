-- What is added stays so behind more calls, and is nothing of seats and of the log.
use Rattle.std.proofs.Common.{◌≡◌, ℕ, ◌-◌, Bool, true, false, if◌then◌else◌, nat_lt, List, [], ◌∷◌, ◌++◌, append_assoc, append-nil, refl, ap, sym, ◌∙◌}
use Rattle.node_peers.specs.declared.limits.TheConstants.{DIALLED}
use Rattle.node_wires.specs.declared.line.Line.{Line}
use Rattle.node_wires.specs.declared.line.Line.TheVariants.{Peer, Caller, Seat, Guest, Asker}
use Rattle.node_wires.specs.declared.way.Way.{Way}
use Rattle.node_wires.specs.declared.halt.Halt.{Halt}
use Rattle.node_wires.specs.declared.halt.Halt.TheVariants as halts
use Rattle.node_wires.specs.Passages.{Passage, Began, Came, Wrote, Gave, Logged, Tried, Ended, Closed, Saw, Waited, Called, halted_as, of_seat, seats_in, wrote_by, wrote_behind, wrote_over, logged_in}
use Rattle.node_peers.specs.Lines.{line_at}
use Rattle.node_peers.specs.Adding.{IsPeers, IsOfPeers, AreOfPeers, Adds}

-- ---- lines of peers

by_choice : (first : Bool) (one other : ℕ) → IsPeers (if first then Peer one else Caller other)
by_choice true one other = tt
by_choice false one other = tt

pub line_of_peers : (place : ℕ) → IsPeers (line_at place)
line_of_peers place = by_choice (nat_lt place DIALLED) place (place - DIALLED)

both_of_peers : (xs ys : List Passage) → AreOfPeers xs → AreOfPeers ys → AreOfPeers (xs ++ ys)
both_of_peers [] ys are_xs are_ys = are_ys
both_of_peers (p ∷ xs) ys are_xs are_ys = (are_xs.0, both_of_peers xs ys are_xs.1 are_ys)

-- ---- what is added

pub nothing_added : (old new wired_old wired_new : List Passage) → new ≡ old → wired_new ≡ wired_old → Adds old new wired_old wired_new
nothing_added old new wired_old wired_new e f = record {
  more = [];
  put_down = e ∙ sym (append-nil old);
  wired = f ∙ sym (append-nil wired_old);
  of_peers = tt;
}

pub added_on : (a b c w x y : List Passage) → Adds a b w x → Adds b c x y → Adds a c w y
added_on a b c w x y one two = record {
  more = one.more ++ two.more;
  put_down = two.put_down ∙ (ap (λ (xs : List Passage). xs ++ two.more) one.put_down ∙ append_assoc a one.more two.more);
  wired = two.wired ∙ (ap (λ (xs : List Passage). xs ++ two.more) one.wired ∙ append_assoc w one.more two.more);
  of_peers = both_of_peers one.more two.more one.of_peers two.of_peers;
}

pub one_added : (p : Passage) (old new wired_old wired_new : List Passage) → IsOfPeers p → new ≡ old ++ p ∷ [] → wired_new ≡ wired_old ++ p ∷ [] → Adds old new wired_old wired_new
one_added p old new wired_old wired_new is e f = record { more = p ∷ []; put_down = e; wired = f; of_peers = (is, tt) }

pub halted_added : (way : Way) (line : Line) (halt : Halt) (old new wired_old wired_new : List Passage) → IsPeers line → new ≡ old ++ halted_as way line halt ∷ [] → wired_new ≡ wired_old ++ halted_as way line halt ∷ [] → Adds old new wired_old wired_new
halted_added way line halts.Later old new wired_old wired_new is e f = one_added (Tried line way) old new wired_old wired_new is e f
halted_added way line halts.Ended old new wired_old wired_new is e f = one_added (Ended line way) old new wired_old wired_new is e f

-- ---- what it leaves of seats and of the log

no_seat : (p : Passage) → IsOfPeers p → of_seat p ≡ []
no_seat (Began (Peer n)) is = refl
no_seat (Began (Caller n)) is = refl
no_seat (Began (Seat n)) is = absurd is
no_seat (Began (Guest n)) is = absurd is
no_seat (Began (Asker n)) is = absurd is
no_seat (Came (Peer n) bytes) is = refl
no_seat (Came (Caller n) bytes) is = refl
no_seat (Came (Seat n) bytes) is = absurd is
no_seat (Came (Guest n) bytes) is = absurd is
no_seat (Came (Asker n) bytes) is = absurd is
no_seat (Wrote line bytes) is = refl
no_seat (Gave place seat) is = absurd is
no_seat (Logged text) is = absurd is
no_seat (Tried line way) is = refl
no_seat (Ended line way) is = refl
no_seat (Closed line) is = refl
no_seat (Saw moment) is = absurd is
no_seat (Waited most) is = absurd is
no_seat Called is = absurd is

no_seats : (ys : List Passage) → AreOfPeers ys → seats_in ys ≡ []
no_seats [] are = refl
no_seats (p ∷ ys) are = ap (λ (ps : List Passage). ps ++ seats_in ys) (no_seat p are.0) ∙ no_seats ys are.1

seats_of_both : (xs ys : List Passage) → AreOfPeers ys → seats_in (xs ++ ys) ≡ seats_in xs
seats_of_both [] ys are = no_seats ys are
seats_of_both (p ∷ xs) ys are = ap (λ (ps : List Passage). of_seat p ++ ps) (seats_of_both xs ys are)

log_of_both : (xs ys : List Passage) → AreOfPeers ys → logged_in (xs ++ ys) ≡ logged_in xs
log_of_both [] [] are = refl
log_of_both [] (Began line ∷ ys) are = log_of_both [] ys are.1
log_of_both [] (Came line bytes ∷ ys) are = log_of_both [] ys are.1
log_of_both [] (Wrote line bytes ∷ ys) are = log_of_both [] ys are.1
log_of_both [] (Gave place seat ∷ ys) are = absurd are.0
log_of_both [] (Logged text ∷ ys) are = absurd are.0
log_of_both [] (Tried line way ∷ ys) are = log_of_both [] ys are.1
log_of_both [] (Ended line way ∷ ys) are = log_of_both [] ys are.1
log_of_both [] (Closed line ∷ ys) are = log_of_both [] ys are.1
log_of_both [] (Saw moment ∷ ys) are = absurd are.0
log_of_both [] (Waited most ∷ ys) are = absurd are.0
log_of_both [] (Called ∷ ys) are = absurd are.0
log_of_both (Began line ∷ xs) ys are = log_of_both xs ys are
log_of_both (Came line bytes ∷ xs) ys are = log_of_both xs ys are
log_of_both (Wrote line bytes ∷ xs) ys are = log_of_both xs ys are
log_of_both (Gave place seat ∷ xs) ys are = log_of_both xs ys are
log_of_both (Tried line way ∷ xs) ys are = log_of_both xs ys are
log_of_both (Ended line way ∷ xs) ys are = log_of_both xs ys are
log_of_both (Closed line ∷ xs) ys are = log_of_both xs ys are
log_of_both (Saw moment ∷ xs) ys are = log_of_both xs ys are
log_of_both (Waited most ∷ xs) ys are = log_of_both xs ys are
log_of_both (Called ∷ xs) ys are = log_of_both xs ys are
log_of_both (Logged text ∷ xs) ys are = ap (λ (ls : List ℕ). text ++ ls) (log_of_both xs ys are)

not_written : (seat : ℕ) (before : List ℕ) (ys : List Passage) → AreOfPeers ys → wrote_behind (Seat seat) before ys ≡ before
not_written seat before [] are = refl
not_written seat before (Began (Peer n) ∷ ys) are = not_written seat before ys are.1
not_written seat before (Began (Caller n) ∷ ys) are = not_written seat before ys are.1
not_written seat before (Began (Seat n) ∷ ys) are = absurd are.0
not_written seat before (Began (Guest n) ∷ ys) are = absurd are.0
not_written seat before (Began (Asker n) ∷ ys) are = absurd are.0
not_written seat before (Came line bytes ∷ ys) are = not_written seat before ys are.1
not_written seat before (Wrote (Peer n) bytes ∷ ys) are = not_written seat before ys are.1
not_written seat before (Wrote (Caller n) bytes ∷ ys) are = not_written seat before ys are.1
not_written seat before (Wrote (Seat n) bytes ∷ ys) are = absurd are.0
not_written seat before (Wrote (Guest n) bytes ∷ ys) are = absurd are.0
not_written seat before (Wrote (Asker n) bytes ∷ ys) are = absurd are.0
not_written seat before (Gave place number ∷ ys) are = absurd are.0
not_written seat before (Logged text ∷ ys) are = absurd are.0
not_written seat before (Tried line way ∷ ys) are = not_written seat before ys are.1
not_written seat before (Ended line way ∷ ys) are = not_written seat before ys are.1
not_written seat before (Closed line ∷ ys) are = not_written seat before ys are.1
not_written seat before (Saw moment ∷ ys) are = absurd are.0
not_written seat before (Waited most ∷ ys) are = absurd are.0
not_written seat before (Called ∷ ys) are = absurd are.0

written_behind : (seat : ℕ) (before : List ℕ) (xs ys : List Passage) → AreOfPeers ys → wrote_behind (Seat seat) before (xs ++ ys) ≡ wrote_behind (Seat seat) before xs
written_behind seat before [] ys are = not_written seat before ys are
written_behind seat before (p ∷ xs) ys are = written_behind seat (wrote_by (Seat seat) before p) xs ys are

pub seats_stay : (old new wired_old wired_new : List Passage) → Adds old new wired_old wired_new → seats_in wired_new ≡ seats_in wired_old
seats_stay old new wired_old wired_new adds = ap seats_in adds.wired ∙ seats_of_both wired_old adds.more adds.of_peers

pub log_stays : (old new wired_old wired_new : List Passage) → Adds old new wired_old wired_new → logged_in wired_new ≡ logged_in wired_old
log_stays old new wired_old wired_new adds = ap logged_in adds.wired ∙ log_of_both wired_old adds.more adds.of_peers

pub writing_stays : (old new wired_old wired_new : List Passage) → Adds old new wired_old wired_new → (seat : ℕ) → wrote_over wired_new (Seat seat) ≡ wrote_over wired_old (Seat seat)
writing_stays old new wired_old wired_new adds seat = ap (λ (ps : List Passage). wrote_over ps (Seat seat)) adds.wired ∙ written_behind seat [] wired_old adds.more adds.of_peers
