-- What passes over the lines of those who ask, call by call.
use Rattle.std.proofs.Common.{◌≡◌, ◌≢◌, ℕ, ◌+◌, ◌-◌, Bool, true, false, cond, List, [], ◌∷◌, ◌++◌, take, drop, length, length-drop, refl, ap, sym, subst, ◌∙◌, append_assoc, append-nil, arith}
use Rattle.std.proofs.lemmas.Bool.{eq-eqb, ne_eqb}
use Rattle.std.proofs.Math.Seq.{take-add}
use Rattle.std.proofs.lemmas.List.{take_all}
use Rattle.node_wires.specs.declared.line.Line.{Line}
use Rattle.node_wires.specs.declared.line.Line.TheVariants.{Peer, Caller, Seat, Guest, Asker as AskerAt}
use Rattle.node_wires.specs.declared.way.Way.TheVariants.{Writing}
use Rattle.node_wires.specs.declared.halt.Halt.{Halt}
use Rattle.node_wires.specs.declared.halt.Halt.TheVariants as halts
use Rattle.node_wires.specs.Passages.{Passage, Began, Came, Wrote, Gave, Logged, Tried, Ended, Closed, Saw, Waited, Called, halted_as, is_line, of_seat, came_by, came_behind, came_over, wrote_by, wrote_behind, wrote_over, seats_in, logged_in}
use Rattle.node_status.specs.Given.{Given}
use Rattle.node_status.specs.Asking.{is_asker, IsOfAskers, AreOfAskers, closed_by, KeepsOthers, Writes}

-- ---- behind what passed, one passage more

wrote_more : (line : Line) (before : List ℕ) (xs : List Passage) (p : Passage) → wrote_behind line before (xs ++ p ∷ []) ≡ wrote_by line (wrote_behind line before xs) p
wrote_more line before [] p = refl
wrote_more line before (x ∷ xs) p = wrote_more line (wrote_by line before x) xs p

came_more : (line : Line) (before : List ℕ) (xs : List Passage) (p : Passage) → came_behind line before (xs ++ p ∷ []) ≡ came_by line (came_behind line before xs) p
came_more line before [] p = refl
came_more line before (x ∷ xs) p = came_more line (came_by line before x) xs p

seats_more : (xs : List Passage) (p : Passage) → of_seat p ≡ [] → seats_in (xs ++ p ∷ []) ≡ seats_in xs
seats_more [] p e = ap (λ (ps : List Passage). ps ++ []) e
seats_more (x ∷ xs) p e = ap (λ (ps : List Passage). of_seat x ++ ps) (seats_more xs p e)

log_more : (xs : List Passage) (p : Passage) → logged_in (p ∷ []) ≡ [] → logged_in (xs ++ p ∷ []) ≡ logged_in xs
log_more [] p e = e
log_more (Began line ∷ xs) p e = log_more xs p e
log_more (Came line bytes ∷ xs) p e = log_more xs p e
log_more (Wrote line bytes ∷ xs) p e = log_more xs p e
log_more (Gave place seat ∷ xs) p e = log_more xs p e
log_more (Tried line way ∷ xs) p e = log_more xs p e
log_more (Ended line way ∷ xs) p e = log_more xs p e
log_more (Closed line ∷ xs) p e = log_more xs p e
log_more (Saw moment ∷ xs) p e = log_more xs p e
log_more (Waited most ∷ xs) p e = log_more xs p e
log_more (Called ∷ xs) p e = log_more xs p e
log_more (Logged text ∷ xs) p e = ap (λ (t : List ℕ). text ++ t) (log_more xs p e)

apart : (place : ℕ) (line : Line) → is_asker line ≡ false → is_line (AskerAt place) line ≡ false
apart place (Peer number) e = refl
apart place (Caller number) e = refl
apart place (Seat number) e = refl
apart place (Guest number) e = refl
apart place (AskerAt number) e = absurd cc

-- a line of one who asks is none of another
off : (at line : Line) → is_asker at ≡ true → is_asker line ≡ false → is_line at line ≡ false
off (AskerAt place) line is other = apart place line other
off (Peer number) line is other = absurd cc
off (Caller number) line is other = absurd cc
off (Seat number) line is other = absurd cc
off (Guest number) line is other = absurd cc

-- ---- other lines

not_written : (line : Line) (before : List ℕ) (p : Passage) → IsOfAskers p → is_asker line ≡ false → wrote_by line before p ≡ before
not_written line before (Began at) is other = ap (λ (b : Bool). cond b [] before) (off at line is other)
not_written line before (Came at bytes) is other = absurd is
not_written line before (Wrote at bytes) is other = ap (λ (b : Bool). cond b (before ++ bytes) before) (off at line is other)
not_written line before (Gave place seat) is other = absurd is
not_written line before (Logged text) is other = absurd is
not_written line before (Tried at way) is other = refl
not_written line before (Ended at way) is other = refl
not_written line before (Closed at) is other = refl
not_written line before (Saw moment) is other = absurd is
not_written line before (Waited most) is other = absurd is
not_written line before Called is other = absurd is

not_come : (line : Line) (before : List ℕ) (p : Passage) → IsOfAskers p → is_asker line ≡ false → came_by line before p ≡ before
not_come line before (Began at) is other = ap (λ (b : Bool). cond b [] before) (off at line is other)
not_come line before (Came at bytes) is other = absurd is
not_come line before (Wrote at bytes) is other = refl
not_come line before (Gave place seat) is other = absurd is
not_come line before (Logged text) is other = absurd is
not_come line before (Tried at way) is other = refl
not_come line before (Ended at way) is other = refl
not_come line before (Closed at) is other = refl
not_come line before (Saw moment) is other = absurd is
not_come line before (Waited most) is other = absurd is
not_come line before Called is other = absurd is

no_seat : (p : Passage) → IsOfAskers p → of_seat p ≡ []
no_seat (Began (AskerAt place)) is = refl
no_seat (Began (Peer number)) is = absurd cc
no_seat (Began (Caller number)) is = absurd cc
no_seat (Began (Seat number)) is = absurd cc
no_seat (Began (Guest number)) is = absurd cc
no_seat (Came at bytes) is = absurd is
no_seat (Wrote at bytes) is = refl
no_seat (Gave place seat) is = absurd is
no_seat (Logged text) is = absurd is
no_seat (Tried at way) is = refl
no_seat (Ended at way) is = refl
no_seat (Closed at) is = refl
no_seat (Saw moment) is = absurd is
no_seat (Waited most) is = absurd is
no_seat Called is = absurd is

no_text : (p : Passage) → IsOfAskers p → logged_in (p ∷ []) ≡ []
no_text (Began at) is = refl
no_text (Came at bytes) is = absurd is
no_text (Wrote at bytes) is = refl
no_text (Gave place seat) is = absurd is
no_text (Logged text) is = absurd is
no_text (Tried at way) is = refl
no_text (Ended at way) is = refl
no_text (Closed at) is = refl
no_text (Saw moment) is = absurd is
no_text (Waited most) is = absurd is
no_text Called is = absurd is

pub keeps_all : (old new : List Passage) → new ≡ old → KeepsOthers old new
keeps_all old new e = record {
  more = [];
  passed = e ∙ sym (append-nil old);
  of_askers = tt;
  wrote = λ line other. ap (λ (ps : List Passage). wrote_over ps line) e;
  came = λ line other. ap (λ (ps : List Passage). came_over ps line) e;
  seats = ap seats_in e;
  log = ap logged_in e;
}

of_both : (xs ys : List Passage) → AreOfAskers xs → AreOfAskers ys → AreOfAskers (xs ++ ys)
of_both [] ys are then = then
of_both (x ∷ xs) ys are then = (are.0, of_both xs ys are.1 then)

pub keeps_on : (one two three : List Passage) → KeepsOthers one two → KeepsOthers two three → KeepsOthers one three
keeps_on one two three first then = record {
  more = first.more ++ then.more;
  passed = then.passed ∙ (ap (λ (ps : List Passage). ps ++ then.more) first.passed ∙ append_assoc one first.more then.more);
  of_askers = of_both first.more then.more first.of_askers then.of_askers;
  wrote = λ line other. then.wrote line other ∙ first.wrote line other;
  came = λ line other. then.came line other ∙ first.came line other;
  seats = then.seats ∙ first.seats;
  log = then.log ∙ first.log;
}

pub keeps_one : (p : Passage) (old new : List Passage) → IsOfAskers p → new ≡ old ++ p ∷ [] → KeepsOthers old new
keeps_one p old new is e = record {
  more = p ∷ [];
  passed = e;
  of_askers = (is, tt);
  wrote = λ line other. ap (λ (ps : List Passage). wrote_over ps line) e ∙ (wrote_more line [] old p ∙ not_written line (wrote_over old line) p is other);
  came = λ line other. ap (λ (ps : List Passage). came_over ps line) e ∙ (came_more line [] old p ∙ not_come line (came_over old line) p is other);
  seats = ap seats_in e ∙ seats_more old p (no_seat p is);
  log = ap logged_in e ∙ log_more old p (no_text p is);
}

-- ---- the lines of those who ask

-- who comes was written nothing, and to the others nothing more is
pub began_here : (place : ℕ) (old new : List Passage) → new ≡ old ++ Began (AskerAt place) ∷ [] → wrote_over new (AskerAt place) ≡ []
began_here place old new e =
    ap (λ (ps : List Passage). wrote_over ps (AskerAt place)) e
    ∙ (wrote_more (AskerAt place) [] old (Began (AskerAt place)) ∙ ap (λ (b : Bool). cond b [] (wrote_over old (AskerAt place))) (eq-eqb place place refl))

pub began_elsewhere : (place other : ℕ) (old new : List Passage) → new ≡ old ++ Began (AskerAt place) ∷ [] → other ≢ place → wrote_over new (AskerAt other) ≡ wrote_over old (AskerAt other)
began_elsewhere place other old new e differs =
    ap (λ (ps : List Passage). wrote_over ps (AskerAt other)) e
    ∙ (wrote_more (AskerAt other) [] old (Began (AskerAt place)) ∙ ap (λ (b : Bool). cond b [] (wrote_over old (AskerAt other))) (ne_eqb place other (λ same. differs (sym same))))

-- nothing is written
pub nothing_written : (place : ℕ) (before after : Given) (old new : List Passage) → new ≡ old → after.since ≡ before.since → after.line ≡ before.line → after.written ≡ before.written → Writes place before after old new
nothing_written place before after old new e since line written = record {
  others = keeps_all old new e;
  answered = λ so_far.
      ap (λ (ps : List Passage). wrote_over ps (AskerAt place)) e ∙ (so_far ∙ (ap (λ (n : ℕ). take n before.line) (sym written) ∙ ap (λ (l : List ℕ). take after.written l) (sym line)));
  elsewhere = λ other differs. ap (λ (ps : List Passage). wrote_over ps (AskerAt other)) e;
  since = since;
  line = line;
}

-- nothing more is written, perhaps in vain
halted_one : (place : ℕ) (halt : Halt) (old new : List Passage) → new ≡ old ++ halted_as Writing (AskerAt place) halt ∷ [] → KeepsOthers old new × ((line : Line) → wrote_over new line ≡ wrote_over old line)
halted_one place halts.Later old new e = (keeps_one (Tried (AskerAt place) Writing) old new refl e, λ line. ap (λ (ps : List Passage). wrote_over ps line) e ∙ wrote_more line [] old (Tried (AskerAt place) Writing))
halted_one place halts.Ended old new e = (keeps_one (Ended (AskerAt place) Writing) old new refl e, λ line. ap (λ (ps : List Passage). wrote_over ps line) e ∙ wrote_more line [] old (Ended (AskerAt place) Writing))

pub written_in_vain : (place : ℕ) (halt : Halt) (before after : Given) (old new : List Passage) → new ≡ old ++ halted_as Writing (AskerAt place) halt ∷ []
    → after.since ≡ before.since → after.line ≡ before.line → after.written ≡ before.written → Writes place before after old new
written_in_vain place halt before after old new e since line written =
    let both = halted_one place halt old new e in
    record {
      others = both.0;
      answered = λ so_far. both.1 (AskerAt place) ∙ (so_far ∙ (ap (λ (n : ℕ). take n before.line) (sym written) ∙ ap (λ (l : List ℕ). take after.written l) (sym line)));
      elsewhere = λ other differs. both.1 (AskerAt other);
      since = since;
      line = line;
    }

-- he is let go of
closed_one : (place : ℕ) (old new : List Passage) → new ≡ old ++ Closed (AskerAt place) ∷ [] → (line : Line) → wrote_over new line ≡ wrote_over old line
closed_one place old new e line = ap (λ (ps : List Passage). wrote_over ps line) e ∙ wrote_more line [] old (Closed (AskerAt place))

pub closed_behind : (place : ℕ) (before then after : Given) (old mid new : List Passage) → Writes place before then old mid → new ≡ mid ++ Closed (AskerAt place) ∷ []
    → after.since ≡ then.since → after.line ≡ then.line → after.written ≡ then.written → Writes place before after old new
closed_behind place before then after old mid new writes e since line written = record {
  others = keeps_on old mid new writes.others (keeps_one (Closed (AskerAt place)) mid new refl e);
  answered = λ so_far.
      closed_one place mid new e (AskerAt place)
      ∙ (writes.answered so_far ∙ (ap (λ (n : ℕ). take n then.line) (sym written) ∙ ap (λ (l : List ℕ). take after.written l) (sym line)));
  elsewhere = λ other differs. closed_one place mid new e (AskerAt other) ∙ writes.elsewhere other differs;
  since = since ∙ writes.since;
  line = line ∙ writes.line;
}

-- who comes where there is no place is
pub closed_beyond : (is_there : Bool) (place : ℕ) (old new : List Passage) → new ≡ old ++ closed_by is_there place → KeepsOthers old new × ((line : Line) → wrote_over new line ≡ wrote_over old line)
closed_beyond true place old new e =
    let same : new ≡ old = e ∙ append-nil old in
    (keeps_all old new same, λ line. ap (λ (ps : List Passage). wrote_over ps line) same)
closed_beyond false place old new e = (keeps_one (Closed (AskerAt place)) old new refl e, closed_one place old new e)

pub rest_of : (count : ℕ) (found line : List ℕ) → found ≡ line → take (length found - count) (drop count found) ≡ drop count line
rest_of count found line e = take_all (length found - count) (drop count found) (omega (arith, length-drop count found)) ∙ ap (λ (l : List ℕ). drop count l) e

-- some more of his line is
pub some_written : (place count : ℕ) (bytes : List ℕ) (before after : Given) (old new : List Passage) → bytes ≡ drop before.written before.line → new ≡ old ++ Wrote (AskerAt place) (take count bytes) ∷ []
    → after.since ≡ before.since → after.line ≡ before.line → after.written ≡ before.written + count → Writes place before after old new
some_written place count bytes before after old new rest wrote since line written =
    let piece : List ℕ = take count (drop before.written before.line) in
    let e : new ≡ old ++ Wrote (AskerAt place) piece ∷ [] = subst (λ (w : List ℕ). new ≡ old ++ Wrote (AskerAt place) (take count w) ∷ []) rest wrote in
    record {
      others = keeps_one (Wrote (AskerAt place) piece) old new refl e;
      answered = λ so_far.
          ap (λ (ps : List Passage). wrote_over ps (AskerAt place)) e
          ∙ (wrote_more (AskerAt place) [] old (Wrote (AskerAt place) piece)
          ∙ (ap (λ (b : Bool). cond b (wrote_over old (AskerAt place) ++ piece) (wrote_over old (AskerAt place))) (eq-eqb place place refl)
          ∙ (ap (λ (t : List ℕ). t ++ piece) so_far
          ∙ (sym (take-add before.written count before.line)
          ∙ (ap (λ (n : ℕ). take n before.line) (sym written) ∙ ap (λ (l : List ℕ). take after.written l) (sym line))))));
      elsewhere = λ other differs.
          ap (λ (ps : List Passage). wrote_over ps (AskerAt other)) e
          ∙ (wrote_more (AskerAt other) [] old (Wrote (AskerAt place) piece)
          ∙ ap (λ (b : Bool). cond b (wrote_over old (AskerAt other) ++ piece) (wrote_over old (AskerAt other))) (ne_eqb place other (λ same. differs (sym same))));
      since = since;
      line = line;
    }
