-- What those who ask were given and what is written to them, call by call.
use Rattle.std.proofs.Common.{◌≡◌, ◌≢◌, ◌⊎◌, inl, inr, ℕ, ◌+◌, ◌<◌, ◌≤◌, Bool, true, false, cond, List, [], ◌∷◌, ◌++◌, length, length-append, map, take, Result, Ok, Err, eqb, nat_lt, refl, ap, sym, subst, ◌∙◌, append_assoc, arith}
use Rattle.std.proofs.Math.ListN.{get_or-eq_default}
use Rattle.std.proofs.Math.Seq.{take-nil}
use Rattle.std.proofs.lemmas.Bool.{cases_lt, ne_eqb}
use Rattle.std.proofs.lemmas.Bool.Decides.{eqb_tells}
use Rattle.std.proofs.lemmas.List.{length-map}
use Rattle.std.specs.declared.alloc.AllocError.{AllocError}
use Rattle.node_wires.specs.declared.line.Line.{Line}
use Rattle.node_wires.specs.declared.line.Line.TheVariants.{Asker as AskerAt}
use Rattle.node_wires.specs.Passages.{Passage, Began, wrote_over}
use Rattle.node_status.specs.declared.asker.Asker.{Asker}
use Rattle.node_status.specs.Given.{Given, given_of, given_at, nobody, with_line, IsServed}
use Rattle.node_status.specs.Asking.{IsAnswered, AreAnswered, Comes, closed_by, arrived, Arrivals, Accepts, IsGiven, Gives, Serves}
use Rattle.node_status.proofs.Passing.{keeps_all, keeps_on, keeps_one, closed_beyond, began_here, began_elsewhere}

-- ---- one who comes

pub nobody_accepted : (now : ℕ) (before after : List Asker) (old new : List Passage) → new ≡ old → after ≡ before → (most : ℕ) → Accepts now most before after old new
nobody_accepted now before after old new e f most = record {
  places = [];
  within = omega arith;
  arrivals = (e, f);
  others = keeps_all old new e;
  answered = λ so_far place. subst (λ (askers : List Asker). IsAnswered new place (given_at askers place)) (sym f) (subst (λ (ps : List Passage). IsAnswered ps place (given_at before place)) (sym e) (so_far place));
}

come_there : (now place : ℕ) (before after : List Asker) (new : List Passage) → wrote_over new (AskerAt place) ≡ [] → Comes now place before after → (place < length before) ⊎ (length before ≤ place) → IsAnswered new place (given_at after place)
come_there now place before after new none comes (inl within) = subst (λ (g : Given). IsAnswered new place g) (sym (comes.here within)) none
come_there now place before after new none comes (inr beyond) =
    subst (λ (g : Given). IsAnswered new place g)
    (sym (comes.beyond beyond ∙ get_or-eq_default (map given_of before) nobody (subst (λ (n : ℕ). n ≤ place) (sym (length-map before given_of)) beyond))) none

at_one : (now place q : ℕ) (before after : List Asker) (old mid new : List Passage) → mid ≡ old ++ Began (AskerAt place) ∷ [] → ((line : Line) → wrote_over new line ≡ wrote_over mid line) → Comes now place before after
    → AreAnswered old before → ((eqb q place ≡ true) × (q ≡ place)) ⊎ ((eqb q place ≡ false) × (q ≢ place)) → IsAnswered new q (given_at after q)
at_one now place q before after old mid new e silent comes so_far (inl here) =
    subst (λ (n : ℕ). IsAnswered new n (given_at after n)) (sym here.1) (come_there now place before after new (silent (AskerAt place) ∙ began_here place old mid e) comes (cases_lt place (length before)))
at_one now place q before after old mid new e silent comes so_far (inr elsewhere) =
    subst (λ (g : Given). IsAnswered new q g) (sym (comes.others q elsewhere.1)) (silent (AskerAt q) ∙ (began_elsewhere place q old mid e elsewhere.1 ∙ so_far q))

-- and where there is no place for him he is let go of
pub one_accepted : (now place : ℕ) (is_there : Bool) (before after : List Asker) (old mid new : List Passage) → is_there ≡ nat_lt place (length before) → mid ≡ old ++ Began (AskerAt place) ∷ []
    → new ≡ mid ++ closed_by is_there place → Comes now place before after → Accepts now 1 before after old new
one_accepted now place is_there before after old mid new there e closes comes =
    let closed = closed_beyond is_there place mid new closes in
    record {
      places = place ∷ [];
      within = omega arith;
      arrivals = (
        after,
        (
          comes,
          (
            closes
                ∙ (ap (λ (ps : List Passage). ps ++ closed_by is_there place) e
                ∙ (append_assoc old (Began (AskerAt place) ∷ []) (closed_by is_there place)
                ∙ ap (λ (b : Bool). old ++ Began (AskerAt place) ∷ closed_by b place) there)),
            refl,
          ),
        ),
      );
      others = keeps_on old mid new (keeps_one (Began (AskerAt place)) old mid refl e) closed.0;
      answered = λ so_far q. at_one now place q before after old mid new e closed.1 comes so_far (eqb_tells q place);
    }

-- ---- several

arrivals_on : (now : ℕ) (places more : List ℕ) (one two three : List Asker) (a b c : List Passage) → Arrivals now places one two a b → Arrivals now more two three b c → Arrivals now (places ++ more) one three a c
arrivals_on now [] more one two three a b c here then_on =
    subst (λ (askers : List Asker). Arrivals now more askers three a c) here.1 (subst (λ (ps : List Passage). Arrivals now more two three ps c) here.0 then_on)
arrivals_on now (place ∷ places) more one two three a b c here then_on =
    (here.0, (here.1.0, arrivals_on now places more here.0 two three (a ++ arrived one place) b c here.1.1 then_on))

pub accepted_on : (now most : ℕ) (one two three : List Asker) (a b c : List Passage) → Accepts now most one two a b → Accepts now 1 two three b c → Accepts now (most + 1) one three a c
accepted_on now most one two three a b c first then_on = record {
  places = first.places ++ then_on.places;
  within = omega (arith, length-append first.places then_on.places, first.within, then_on.within);
  arrivals = arrivals_on now first.places then_on.places one two three a b c first.arrivals then_on.arrivals;
  others = keeps_on a b c first.others then_on.others;
  answered = λ so_far. then_on.answered (first.answered so_far);
}

pub accepted_within : (now few most : ℕ) (before after : List Asker) (old new : List Passage) → few ≤ most → Accepts now few before after old new → Accepts now most before after old new
accepted_within now few most before after old new within accepts = record {
  places = accepts.places;
  within = omega (arith, accepts.within);
  arrivals = accepts.arrivals;
  others = accepts.others;
  answered = accepts.answered;
}

-- ---- a line that is given

given_fields : (passed : List Passage) (place : ℕ) (line : List ℕ) (here : Bool) (since : ℕ) (got : List ℕ) (written : ℕ) → wrote_over passed (AskerAt place) ≡ take written got
    → IsAnswered passed place (with_line line (record { is_here = here; since = since; line = got; written = written }))
given_fields passed place line false since got written so_far = so_far
given_fields passed place line true since [] written so_far = so_far ∙ take-nil written
given_fields passed place line true since (byte ∷ more) written so_far =
    let g : Given = record { is_here = true; since = since; line = byte ∷ more; written = written } in
    let given : Given = record { is_here = true; since = since; line = line; written = 0 } in
    subst (λ (b : Bool). IsAnswered passed place (cond b given g)) (sym (ne_eqb (length (byte ∷ more)) 0 (omega arith))) so_far

with_line_answered : (passed : List Passage) (place : ℕ) (line : List ℕ) (g : Given) → IsAnswered passed place g → IsAnswered passed place (with_line line g)
with_line_answered passed place line g so_far = given_fields passed place line g.is_here g.since g.line g.written so_far

pub given_answered : (passed : List Passage) (place : ℕ) (line : List ℕ) (result : Result Unit AllocError) (before after : Given) → IsGiven line result before after → IsAnswered passed place before → IsAnswered passed place after
given_answered passed place line (Ok done) before after given so_far = subst (λ (g : Given). IsAnswered passed place g) (sym given) (with_line_answered passed place line before so_far)
given_answered passed place line (Err refused) before after (inl same) so_far = subst (λ (g : Given). IsAnswered passed place g) (sym same) so_far
given_answered passed place line (Err refused) before after (inr given) so_far = subst (λ (g : Given). IsAnswered passed place g) (sym given) (with_line_answered passed place line before so_far)

given_at_one : (place q : ℕ) (line : List ℕ) (result : Result Unit AllocError) (before after : List Asker) (passed : List Passage) → Gives place line result before after → AreAnswered passed before
    → ((eqb q place ≡ true) × (q ≡ place)) ⊎ ((eqb q place ≡ false) × (q ≢ place)) → IsAnswered passed q (given_at after q)
given_at_one place q line result before after passed gives so_far (inl here) =
    subst (λ (n : ℕ). IsAnswered passed n (given_at after n)) (sym here.1) (given_answered passed place line result (given_at before place) (given_at after place) gives.given (so_far place))
given_at_one place q line result before after passed gives so_far (inr elsewhere) = subst (λ (g : Given). IsAnswered passed q g) (sym (gives.others q elsewhere.1)) (so_far q)

-- behind the answer to one more
pub given_on : (place : ℕ) (line : List ℕ) (result : Result Unit AllocError) (before after : List Asker) (passed : List Passage) → Gives place line result before after → AreAnswered passed before → AreAnswered passed after
given_on place line result before after passed gives so_far q = given_at_one place q line result before after passed gives so_far (eqb_tells q place)

-- ---- what is written

served_at_one : (now place q : ℕ) (before after : List Asker) (old new : List Passage) → Serves now place before after old new → AreAnswered old before
    → ((eqb q place ≡ true) × (q ≡ place)) ⊎ ((eqb q place ≡ false) × (q ≢ place)) → IsAnswered new q (given_at after q)
served_at_one now place q before after old new serves so_far (inl here) = subst (λ (n : ℕ). IsAnswered new n (given_at after n)) (sym here.1) (serves.wrote.answered (so_far place))
served_at_one now place q before after old new serves so_far (inr elsewhere) = subst (λ (g : Given). IsAnswered new q g) (sym (serves.others q elsewhere.1)) (serves.wrote.elsewhere q elsewhere.1 ∙ so_far q)

-- behind what is written to one more
pub served_on : (now place : ℕ) (before after : List Asker) (old new : List Passage) → Serves now place before after old new → AreAnswered old before → AreAnswered new after
served_on now place before after old new serves so_far q = served_at_one now place q before after old new serves so_far (eqb_tells q place)

line_at_one : (now place q : ℕ) (before after : List Asker) (old new : List Passage) → Serves now place before after old new
    → ((eqb q place ≡ true) × (q ≡ place)) ⊎ ((eqb q place ≡ false) × (q ≢ place)) → (given_at after q).line ≡ (given_at before q).line
line_at_one now place q before after old new serves (inl here) = subst (λ (n : ℕ). (given_at after n).line ≡ (given_at before n).line) (sym here.1) serves.wrote.line
line_at_one now place q before after old new serves (inr elsewhere) = ap (λ (g : Given). g.line) (serves.others q elsewhere.1)

pub lines_stay : (now place : ℕ) (before after : List Asker) (old new : List Passage) → Serves now place before after old new → (q : ℕ) → (given_at after q).line ≡ (given_at before q).line
lines_stay now place before after old new serves q = line_at_one now place q before after old new serves (eqb_tells q place)

served_where : (now place q : ℕ) (before after : List Asker) (old new : List Passage) → Serves now place before after old new → ((at : ℕ) → at < place → IsServed now (given_at before at)) → q < place + 1
    → ((eqb q place ≡ true) × (q ≡ place)) ⊎ ((eqb q place ≡ false) × (q ≢ place)) → IsServed now (given_at after q)
served_where now place q before after old new serves so_far within (inl here) = subst (λ (n : ℕ). IsServed now (given_at after n)) (sym here.1) serves.served
served_where now place q before after old new serves so_far within (inr elsewhere) =
    subst (λ (g : Given). IsServed now g) (sym (serves.others q elsewhere.1)) (so_far q (omega (arith, within, elsewhere.1)))

pub served_below : (now place : ℕ) (before after : List Asker) (old new : List Passage) → Serves now place before after old new → ((at : ℕ) → at < place → IsServed now (given_at before at)) → (q : ℕ) → q < place + 1
    → IsServed now (given_at after q)
served_below now place before after old new serves so_far q within = served_where now place q before after old new serves so_far within (eqb_tells q place)
