-- What is written to the bots of seats, call by call.
use Rattle.std.proofs.Common.{◌≡◌, ℕ, ◌==◌, Bool, true, false, cond, List, [], ◌∷◌, ◌++◌, take, drop, append_assoc, append-nil, refl, ap, sym, subst, ◌∙◌}
use Rattle.std.proofs.lemmas.Bool.{eq-eqb, ne_eqb}
use Rattle.std.proofs.lemmas.List.{take-append-drop}
use Rattle.node_wires.specs.declared.line.Line.{Line}
use Rattle.node_wires.specs.declared.line.Line.TheVariants.{Peer, Caller, Seat, Guest, Asker}
use Rattle.node_wires.specs.Passages.{Passage, Began, Came, Wrote, Gave, Logged, Tried, Ended, Closed, Saw, Waited, Called, halted_as, of_seat, seats_in, came_by, came_behind, came_over, wrote_by, wrote_behind, wrote_over, logged_in}
use Rattle.node_wires.specs.declared.way.Way.TheVariants.{Writing}
use Rattle.node_wires.specs.declared.halt.Halt.{Halt}
use Rattle.node_wires.specs.declared.halt.Halt.TheVariants as halts
use Rattle.node_seats.specs.Others.{KeepsOthers, TellsNoGuest, Rests}
use Rattle.node_seats.specs.Writing.{Writes, AreToSeats, WritesToSeats}
use Rattle.node_seats.proofs.Others.{wrote_both, keeps_by, keeps_same, keeps_on, keeps_written}

-- ---- behind what passed, one passage more

seats_and_write : (xs : List Passage) (line : Line) (bytes : List ℕ) → seats_in (xs ++ Wrote line bytes ∷ []) ≡ seats_in xs
seats_and_write [] line bytes = refl
seats_and_write (p ∷ xs) line bytes = ap (λ (ps : List Passage). of_seat p ++ ps) (seats_and_write xs line bytes)

log_and_write : (xs : List Passage) (line : Line) (bytes : List ℕ) → logged_in (xs ++ Wrote line bytes ∷ []) ≡ logged_in xs
log_and_write [] line bytes = refl
log_and_write (Began at ∷ xs) line bytes = log_and_write xs line bytes
log_and_write (Came at got ∷ xs) line bytes = log_and_write xs line bytes
log_and_write (Wrote at sent ∷ xs) line bytes = log_and_write xs line bytes
log_and_write (Gave place seat ∷ xs) line bytes = log_and_write xs line bytes
log_and_write (Tried at way ∷ xs) line bytes = log_and_write xs line bytes
log_and_write (Ended at way ∷ xs) line bytes = log_and_write xs line bytes
log_and_write (Closed at ∷ xs) line bytes = log_and_write xs line bytes
log_and_write (Saw moment ∷ xs) line bytes = log_and_write xs line bytes
log_and_write (Waited most ∷ xs) line bytes = log_and_write xs line bytes
log_and_write (Called ∷ xs) line bytes = log_and_write xs line bytes
log_and_write (Logged text ∷ xs) line bytes = ap (λ (ls : List ℕ). text ++ ls) (log_and_write xs line bytes)

write_behind : (line : Line) (before : List ℕ) (xs : List Passage) (p : Passage) → wrote_behind line before (xs ++ p ∷ []) ≡ wrote_by line (wrote_behind line before xs) p
write_behind line before [] p = refl
write_behind line before (x ∷ xs) p = write_behind line (wrote_by line before x) xs p

to_the_seat : (same : Bool) (before bytes : List ℕ) → same ≡ true → cond same (before ++ bytes) before ≡ before ++ bytes
to_the_seat true before bytes e = refl
to_the_seat false before bytes e = absurd cc

to_another : (same : Bool) (before bytes : List ℕ) → same ≡ false → cond same (before ++ bytes) before ≡ before
to_another true before bytes e = absurd cc
to_another false before bytes e = refl

came_behind_one : (line : Line) (before : List ℕ) (xs : List Passage) (p : Passage) → came_behind line before (xs ++ p ∷ []) ≡ came_by line (came_behind line before xs) p
came_behind_one line before [] p = refl
came_behind_one line before (x ∷ xs) p = came_behind_one line (came_by line before x) xs p

seats_and_none : (xs : List Passage) (p : Passage) → of_seat p ≡ [] → seats_in (xs ++ p ∷ []) ≡ seats_in xs
seats_and_none [] p e = ap (λ (ps : List Passage). ps ++ []) e
seats_and_none (x ∷ xs) p e = ap (λ (ps : List Passage). of_seat x ++ ps) (seats_and_none xs p e)

log_and_none : (xs : List Passage) (p : Passage) → logged_in (p ∷ []) ≡ [] → logged_in (xs ++ p ∷ []) ≡ logged_in xs
log_and_none [] p e = e
log_and_none (Began at ∷ xs) p e = log_and_none xs p e
log_and_none (Came at got ∷ xs) p e = log_and_none xs p e
log_and_none (Wrote at sent ∷ xs) p e = log_and_none xs p e
log_and_none (Gave place seat ∷ xs) p e = log_and_none xs p e
log_and_none (Tried at way ∷ xs) p e = log_and_none xs p e
log_and_none (Ended at way ∷ xs) p e = log_and_none xs p e
log_and_none (Closed at ∷ xs) p e = log_and_none xs p e
log_and_none (Saw moment ∷ xs) p e = log_and_none xs p e
log_and_none (Waited most ∷ xs) p e = log_and_none xs p e
log_and_none (Called ∷ xs) p e = log_and_none xs p e
log_and_none (Logged text ∷ xs) p e = ap (λ (ls : List ℕ). text ++ ls) (log_and_none xs p e)

-- a passage that moves nothing
rests_by : (p : Passage) (old new : List Passage) → ((line : Line) (before : List ℕ) → wrote_by line before p ≡ before) → ((line : Line) (before : List ℕ) → came_by line before p ≡ before) → of_seat p ≡ [] → logged_in (p ∷ []) ≡ []
    → new ≡ old ++ p ∷ [] → Rests old new
rests_by p old new wrote came seats text e = record {
  wrote = λ line. ap (λ (ps : List Passage). wrote_over ps line) e ∙ (write_behind line [] old p ∙ wrote line (wrote_over old line));
  came = λ line. ap (λ (ps : List Passage). came_over ps line) e ∙ (came_behind_one line [] old p ∙ came line (came_over old line));
  seats = ap seats_in e ∙ seats_and_none old p seats;
  log = ap logged_in e ∙ log_and_none old p text;
}

pub rests_closed : (line : Line) (old new : List Passage) → new ≡ old ++ Closed line ∷ [] → Rests old new
rests_closed line old new e = rests_by (Closed line) old new (λ at before. refl) (λ at before. refl) refl refl e

pub rests_halted : (line : Line) (halt : Halt) (old new : List Passage) → new ≡ old ++ halted_as Writing line halt ∷ [] → Rests old new
rests_halted line halts.Later old new e = rests_by (Tried line Writing) old new (λ at before. refl) (λ at before. refl) refl refl e
rests_halted line halts.Ended old new e = rests_by (Ended line Writing) old new (λ at before. refl) (λ at before. refl) refl refl e

pub rests_same : (old new : List Passage) → new ≡ old → Rests old new
rests_same old new e = record {
  wrote = λ line. ap (λ (ps : List Passage). wrote_over ps line) e;
  came = λ line. ap (λ (ps : List Passage). came_over ps line) e;
  seats = ap seats_in e;
  log = ap logged_in e;
}

-- nobody is told anything by that
pub unsaid_rests : (old new : List Passage) → Rests old new → TellsNoGuest old new
unsaid_rests old new rests place none = rests.wrote (Guest place) ∙ none

-- ---- to seats alone

pub none_to_seats : (old new : List Passage) → new ≡ old → WritesToSeats old new
none_to_seats old new e = record { more = []; to_seats = tt; passed = e ∙ sym (append-nil old) }

both_to_seats : (xs ys : List Passage) → AreToSeats xs → AreToSeats ys → AreToSeats (xs ++ ys)
both_to_seats [] ys are others = others
both_to_seats (x ∷ xs) ys are others = (are.0, both_to_seats xs ys are.1 others)

pub to_seats_on : (a b c : List Passage) → WritesToSeats a b → WritesToSeats b c → WritesToSeats a c
to_seats_on a b c one two = record {
  more = one.more ++ two.more;
  to_seats = both_to_seats one.more two.more one.to_seats two.to_seats;
  passed = two.passed ∙ (ap (λ (ps : List Passage). ps ++ two.more) one.passed ∙ append_assoc a one.more two.more);
}

-- to guests nothing is
not_to_guests : (place : ℕ) (before : List ℕ) (ps : List Passage) → AreToSeats ps → wrote_behind (Guest place) before ps ≡ before
not_to_guests place before [] are = refl
not_to_guests place before (Wrote (Seat number) bytes ∷ ps) are = not_to_guests place before ps are.1
not_to_guests place before (Wrote (Peer n) bytes ∷ ps) are = absurd are.0
not_to_guests place before (Wrote (Caller n) bytes ∷ ps) are = absurd are.0
not_to_guests place before (Wrote (Guest n) bytes ∷ ps) are = absurd are.0
not_to_guests place before (Wrote (Asker n) bytes ∷ ps) are = absurd are.0
not_to_guests place before (Began line ∷ ps) are = absurd are.0
not_to_guests place before (Came line bytes ∷ ps) are = absurd are.0
not_to_guests place before (Gave at seat ∷ ps) are = absurd are.0
not_to_guests place before (Logged text ∷ ps) are = absurd are.0
not_to_guests place before (Tried line way ∷ ps) are = not_to_guests place before ps are.1
not_to_guests place before (Ended line way ∷ ps) are = not_to_guests place before ps are.1
not_to_guests place before (Closed line ∷ ps) are = not_to_guests place before ps are.1
not_to_guests place before (Saw moment ∷ ps) are = absurd are.0
not_to_guests place before (Waited most ∷ ps) are = absurd are.0
not_to_guests place before (Called ∷ ps) are = absurd are.0

pub no_guest_told : (old new : List Passage) → WritesToSeats old new → TellsNoGuest old new
no_guest_told old new writes place none =
    ap (λ (ps : List Passage). wrote_over ps (Guest place)) writes.passed
    ∙ (wrote_both (Guest place) [] old writes.more ∙ (not_to_guests place (wrote_over old (Guest place)) writes.more writes.to_seats ∙ none))

-- one is let go of
pub closed_to_seats : (number : ℕ) (old new : List Passage) → new ≡ old ++ Closed (Seat number) ∷ [] → WritesToSeats old new
closed_to_seats number old new e = record { more = Closed (Seat number) ∷ []; to_seats = (tt, tt); passed = e }

pub closed_keeps : (number : ℕ) (old new : List Passage) → new ≡ old ++ Closed (Seat number) ∷ [] → KeepsOthers old new
closed_keeps number old new e = keeps_by old new (Closed (Seat number) ∷ []) (refl, tt) e

-- ---- calls

halted_to_seats : (number : ℕ) (halt : Halt) (old new : List Passage) → new ≡ old ++ halted_as Writing (Seat number) halt ∷ [] → WritesToSeats old new × KeepsOthers old new
halted_to_seats number halts.Later old new e = (record { more = Tried (Seat number) Writing ∷ []; to_seats = (tt, tt); passed = e }, keeps_by old new (Tried (Seat number) Writing ∷ []) (refl, tt) e)
halted_to_seats number halts.Ended old new e = (record { more = Ended (Seat number) Writing ∷ []; to_seats = (tt, tt); passed = e }, keeps_by old new (Ended (Seat number) Writing ∷ []) (refl, tt) e)

pub written_in_vain : (number : ℕ) (halt : Halt) (old new : List ℕ) (passed_old passed_new : List Passage) → new ≡ old → passed_new ≡ passed_old ++ halted_as Writing (Seat number) halt ∷ [] → Writes number old new passed_old passed_new
written_in_vain number halt old new passed_old passed_new e f =
    let rests = rests_halted (Seat number) halt passed_old passed_new f in
    let both = halted_to_seats number halt passed_old passed_new f in
    record {
      said = ap (λ (w : List ℕ). w ++ new) (rests.wrote (Seat number)) ∙ ap (λ (xs : List ℕ). wrote_over passed_old (Seat number) ++ xs) e;
      others = λ seat differs. rests.wrote (Seat seat);
      seats = rests.seats;
      left = both.1;
      log = rests.log;
      all = both.0;
    }

pub nothing_written : (number : ℕ) (old new : List ℕ) (passed_old passed_new : List Passage) → new ≡ old → passed_new ≡ passed_old → Writes number old new passed_old passed_new
nothing_written number old new passed_old passed_new e f = record {
  said = cc (ap (λ (ps : List Passage). wrote_over ps (Seat number)) f, e);
  others = λ seat differs. ap (λ (ps : List Passage). wrote_over ps (Seat seat)) f;
  seats = ap seats_in f;
  left = keeps_same passed_old passed_new f;
  log = ap logged_in f;
  all = none_to_seats passed_old passed_new f;
}

pub written_on : (number : ℕ) (a b c : List ℕ) (x y z : List Passage) → Writes number a b x y → Writes number b c y z → Writes number a c x z
written_on number a b c x y z one two = record {
  said = two.said ∙ one.said;
  others = λ seat differs. two.others seat differs ∙ one.others seat differs;
  seats = two.seats ∙ one.seats;
  left = keeps_on x y z one.left two.left;
  log = two.log ∙ one.log;
  all = to_seats_on x y z one.all two.all;
}

pub some_written : (number count : ℕ) (old bytes new : List ℕ) (passed_old passed_new : List Passage) → bytes ≡ old → new ≡ drop count old
    → passed_new ≡ passed_old ++ Wrote (Seat number) (take count bytes) ∷ [] → Writes number old new passed_old passed_new
some_written number count old bytes new passed_old passed_new same e wrote =
    let f : passed_new ≡ passed_old ++ Wrote (Seat number) (take count old) ∷ [] =
    subst (λ (w : List ℕ). passed_new ≡ passed_old ++ Wrote (Seat number) (take count w) ∷ []) same wrote in
    let before : List ℕ = wrote_over passed_old (Seat number) in
    let piece : List ℕ = take count old in
    let grown : wrote_over passed_new (Seat number) ≡ before ++ piece =
    ap (λ (ps : List Passage). wrote_over ps (Seat number)) f ∙ (write_behind (Seat number) [] passed_old (Wrote (Seat number) piece) ∙ to_the_seat (number == number) before piece (eq-eqb number number refl)) in
    record {
      said = ap (λ (xs : List ℕ). xs ++ new) grown ∙ (ap (λ (xs : List ℕ). (before ++ piece) ++ xs) e ∙ (append_assoc before piece (drop count old) ∙ ap (λ (xs : List ℕ). before ++ xs) (take-append-drop count old)));
      others = λ seat differs.
          ap (λ (ps : List Passage). wrote_over ps (Seat seat)) f ∙ (write_behind (Seat seat) [] passed_old (Wrote (Seat number) piece) ∙ to_another (number == seat) (wrote_over passed_old (Seat seat)) piece (ne_eqb number seat (λ same. differs (sym same))));
      seats = ap seats_in f ∙ seats_and_write passed_old (Seat number) piece;
      left = keeps_written number piece passed_old passed_new f;
      log = ap logged_in f ∙ log_and_write passed_old (Seat number) piece;
      all = record { more = Wrote (Seat number) piece ∷ []; to_seats = (tt, tt); passed = f };
    }
