-- What the calls of a connection do to how far it is: at most one thing each, which is named.
use Rattle.std.proofs.Common.{◌≡◌, ◌⊎◌, inl, inr, ℕ, ◌<◌, Bool, true, false, cond, eqb, ltb, List, ◌++◌, length, Option, Some, None, Result, refl, sym, ap, ◌∙◌}
use Rattle.std.proofs.lemmas.Bool.{eqb-true, ltb-true}
use Rattle.std.proofs.lemmas.List.{take-append-drop}
use Rattle.peer_codes.specs.declared.limits.TheConstants.{LAST_NUMBER}
use Rattle.peer_codes.specs.declared.fault.RecordFault.TheVariants.{BadHello}
use Rattle.peer_codes.specs.declared.connection_fault.ConnectionFault.{ConnectionFault}
use Rattle.peer_codes.specs.declared.connection_fault.ConnectionFault.TheVariants as faults
use Rattle.peer_codes.specs.declared.role.Role.TheVariants.{Caller, Called}
use Rattle.peer_codes.specs.declared.hello.Hello.{Hello}
use Rattle.peer_codes.specs.declared.beat.Beat.{Beat}
use Rattle.peer_codes.specs.declared.frame.Frame.{Frame}
use Rattle.peer_codes.specs.declared.more.More.{More}
use Rattle.peer_codes.specs.declared.records.Proof.{Proof}
use Rattle.peer_codes.specs.declared.kind.Kind.{Kind}
use Rattle.peer_codes.specs.declared.kind.Kind.TheVariants as kind_of
use Rattle.peer_codes.specs.declared.event.Event.{Event}
use Rattle.peer_codes.specs.declared.phase.Ways.{Ways}
use Rattle.peer_codes.specs.declared.phase.Phase.{Phase}
use Rattle.peer_codes.specs.declared.phase.Phase.TheVariants as phases
use Rattle.peer_codes.specs.declared.outgoing.Outgoing.{Outgoing}
use Rattle.peer_codes.specs.declared.connection.Connection.{Connection}
use Rattle.peer_codes.specs.Versions.{same_version}
use Rattle.peer_codes.specs.Spelling.{beat_text}
use Rattle.peer_codes.specs.Faults.{needed, front}
use Rattle.peer_codes.specs.Outgoings.{unwritten}
use Rattle.peer_codes.specs.Steps.{proving}
use Rattle.peer_codes.specs.Connections.{Reads, ReadsOrWaits, Next, met, turned_away, answered, said, begun_on, begun_coded, begun_first, begun_next}
use Rattle.peer_codes.specs.Histories.{Answered, answered_phase, said_phase, phase_after, FrontCame}
use Rattle.peer_codes.specs.Beginning.{CodedBegun, Begins}

-- ---- what came

came_by : (old : Connection) (told : Result Event ConnectionFault) (new : Connection) → Reads old new told → FrontCame old new
came_by old told new h = record {
  key = ap (λ (c : Connection). c.key) h.others;
  phase = ap (λ (c : Connection). c.phase) h.others;
  came = sym (take-append-drop (needed old.came.waiting) old.came.waiting) ∙ ap (λ (w : List ℕ). front old.came.waiting ++ w) (sym h.came);
}

reads : (old : Connection) (result : Option (Result Event ConnectionFault)) (new : Connection) → ReadsOrWaits old result new → (new ≡ old) ⊎ FrontCame old new
reads old None new h = inl h.1
reads old (Some told) new h = inr (came_by old told new h)

next_by : (phase : Phase) (old : Connection) (result : Option (Result Event ConnectionFault)) (new : Connection) → Next phase old result new → (new ≡ old) ⊎ FrontCame old new
next_by (phases.Asked caller) old result new h = inl h.1
next_by (phases.Closed fault) old result new h = inl h.1
next_by phases.Refused old result new h = inl h.1
next_by (phases.Greeting own) old result new h = reads old result new h
next_by (phases.Proving theirs ways) old result new h = reads old result new h
next_by (phases.Open ways) old result new h = reads old result new h

pub next_happens : (old new : Connection) (result : Option (Result Event ConnectionFault)) → Next old.phase old result new → (new ≡ old) ⊎ FrontCame old new
next_happens old new result h = next_by old.phase old result new h

waits_by : (phase : Phase) (old new : Connection) → Next phase old None new → new ≡ old
waits_by (phases.Asked caller) old new h = h.1
waits_by (phases.Closed fault) old new h = h.1
waits_by phases.Refused old new h = h.1
waits_by (phases.Greeting own) old new h = h.1
waits_by (phases.Proving theirs ways) old new h = h.1
waits_by (phases.Open ways) old new h = h.1

pub next_waits : (old new : Connection) → Next old.phase old None new → new ≡ old
next_waits old new h = waits_by old.phase old new h

-- ---- what is answered

asked_by : (same : Bool) (old : Connection) (caller own : Hello)
    → ((cond same (met caller own old) (turned_away own old)).key ≡ old.key)
    × ((cond same (met caller own old) (turned_away own old)).phase ≡ cond same (proving old.key.bytes Called Caller (record { caller = caller; called = own })) (phases.Closed (faults.Record BadHello)))
asked_by true old caller own = (refl, refl)
asked_by false old caller own = (refl, refl)

answered_by : (phase : Phase) (old : Connection) (own : Hello) → old.phase ≡ phase → ((answered phase own old).key ≡ old.key) × ((answered phase own old).phase ≡ phase_after old.key.bytes old.phase (Answered own))
answered_by (phases.Asked caller) old own e =
    let is = asked_by (same_version caller.version own.version) old caller own in
    (is.0, is.1 ∙ sym (ap (λ (p : Phase). answered_phase old.key.bytes own p) e))
answered_by phases.Refused old own e = (refl, sym (ap (λ (p : Phase). answered_phase old.key.bytes own p) e))
answered_by (phases.Greeting mine) old own e = (refl, e ∙ sym (ap (λ (p : Phase). answered_phase old.key.bytes own p) e))
answered_by (phases.Proving theirs ways) old own e = (refl, e ∙ sym (ap (λ (p : Phase). answered_phase old.key.bytes own p) e))
answered_by (phases.Open ways) old own e = (refl, e ∙ sym (ap (λ (p : Phase). answered_phase old.key.bytes own p) e))
answered_by (phases.Closed fault) old own e = (refl, e ∙ sym (ap (λ (p : Phase). answered_phase old.key.bytes own p) e))

pub answer_happens : (old : Connection) (own : Hello) → ((answered old.phase own old).key ≡ old.key) × ((answered old.phase own old).phase ≡ phase_after old.key.bytes old.phase (Answered own))
answer_happens old own = answered_by old.phase old own refl

-- ---- what is begun

-- nothing waits that goes before frames and beats, and no record is unfinished
record IsFree (old : Connection) : Type 0 where
  pub finished : length (unwritten old.out) ≡ 0
  pub hello : old.out.hello ≡ None
  pub proof : old.out.proof ≡ None

said_by : (old : Connection) (ways : Ways) (count : ℕ) → old.phase ≡ phases.Open ways → said_phase count (phases.Open ways) ≡ said_phase count old.phase
said_by old ways count e = sym (ap (λ (p : Phase). said_phase count p) e)

coded_by : (old : Connection) (ways : Ways) (kind : Kind) (body : List ℕ) (left : Outgoing) → IsFree old → old.phase ≡ phases.Open ways → ways.writing.number < LAST_NUMBER
    → CodedBegun kind body left old (said ways kind body old.key old.came left)
coded_by old ways kind body left free e number = record {
  ways = ways;
  hello = free.hello;
  proof = free.proof;
  open_was = e;
  number = number;
  phase = said_by old ways (length body) e;
  begun = record { finished = free.finished; key = refl; came = refl; out = refl };
}

nothing_by : (old : Connection) (phase : Phase) → old.phase ≡ phase → Begins old (record { key = old.key; phase = phase; came = old.came; out = old.out })
nothing_by old phase e = inl (record { key = refl; phase = sym e; came = refl; out = refl })

begun_on_by : (old : Connection) (ways : Ways) (beat : Option Beat) (more : Option More) (frame : Option Frame) → IsFree old → old.phase ≡ phases.Open ways → ways.writing.number < LAST_NUMBER
    → old.out.beat ≡ beat → old.out.more ≡ more → old.out.frame ≡ frame → Begins old (begun_on ways beat more frame old.key old.came old.out)
begun_on_by old ways (Some beat) more frame free e number b m f = inr (inr (inr (inl (record { beat = beat; waited = b; begun = coded_by old ways kind_of.Beat (beat_text beat) (record old.out { beat = None }) free e number }))))
begun_on_by old ways None (Some more) frame free e number b m f =
    inr (inr (inr (inr (inl (record { more = more; beat = b; waited = m; begun = coded_by old ways (kind_of.More more.kind) more.bytes.items (record old.out { more = None }) free e number })))))
begun_on_by old ways None None (Some frame) free e number b m f =
    inr (inr (inr (inr (inr (record { frame = frame; beat = b; more = m; waited = f; begun = coded_by old ways kind_of.Frame frame.bytes.items (record old.out { frame = None }) free e number })))))
begun_on_by old ways None None None free e number b m f = nothing_by old (phases.Open ways) e

begun_open_by : (old : Connection) (ways : Ways) (left : Bool) → IsFree old → old.phase ≡ phases.Open ways → ltb ways.writing.number LAST_NUMBER ≡ left
    → Begins old (cond left (begun_on ways old.out.beat old.out.more old.out.frame old.key old.came old.out) (record { key = old.key; phase = phases.Open ways; came = old.came; out = old.out }))
begun_open_by old ways true free e number = begun_on_by old ways old.out.beat old.out.more old.out.frame free e (ltb-true _ _ number) refl refl refl
begun_open_by old ways false free e number = nothing_by old (phases.Open ways) e

begun_coded_by : (old : Connection) (phase : Phase) → IsFree old → old.phase ≡ phase → Begins old (begun_coded phase old.key old.came old.out)
begun_coded_by old (phases.Open ways) free e = begun_open_by old ways (ltb ways.writing.number LAST_NUMBER) free e refl
begun_coded_by old (phases.Greeting own) free e = nothing_by old (phases.Greeting own) e
begun_coded_by old (phases.Asked caller) free e = nothing_by old (phases.Asked caller) e
begun_coded_by old phases.Refused free e = nothing_by old phases.Refused e
begun_coded_by old (phases.Proving theirs ways) free e = nothing_by old (phases.Proving theirs ways) e
begun_coded_by old (phases.Closed fault) free e = nothing_by old (phases.Closed fault) e

begun_first_by : (old : Connection) (hello : Option Hello) (proof : Option Proof) → length (unwritten old.out) ≡ 0 → old.out.hello ≡ hello → old.out.proof ≡ proof → Begins old (begun_first hello proof old)
begun_first_by old (Some hello) proof finished h p = inr (inl (record { hello = hello; waited = h; phase = refl; begun = record { finished = finished; key = refl; came = refl; out = refl } }))
begun_first_by old None (Some proof) finished h p =
    inr (inr (inl (record { proof = proof; hello = h; waited = p; phase = refl; begun = record { finished = finished; key = refl; came = refl; out = refl } })))
begun_first_by old None None finished h p = begun_coded_by old old.phase (record { finished = finished; hello = h; proof = p }) refl

begun_by : (old : Connection) (free : Bool) → eqb (length (unwritten old.out)) 0 ≡ free → Begins old (cond free (begun_first old.out.hello old.out.proof old) old)
begun_by old true e = begun_first_by old old.out.hello old.out.proof (eqb-true _ _ e) refl refl
begun_by old false e = inl (record { key = refl; phase = refl; came = refl; out = refl })

pub begin_happens : (old : Connection) → Begins old (begun_next old)
unfolding begun_next
begin_happens old = begun_by old (eqb (length (unwritten old.out)) 0) refl
