-- What an open connection goes by, shown over all that happens to one.
use Rattle.std.proofs.Common.{◌≡◌, inl, inr, ℕ, Bool, true, false, not, cond, eqb, List, [], ◌∷◌, ◌++◌, length, drop, Option, Some, None, IfSome, Result, Ok, Err, refl, sym, ap, subst, ◌∙◌}
use Rattle.std.specs.Str.{bytes_eq}
use Rattle.std.proofs.lemmas.Slice.Eq.{bytes_eq-Decides}
use Rattle.peer_codes.specs.declared.limits.TheConstants.{TAG_BYTES}
use Rattle.peer_codes.specs.declared.fault.RecordFault.{RecordFault}
use Rattle.peer_codes.specs.declared.fault.RecordFault.TheVariants.{BadLength, BadHello}
use Rattle.peer_codes.specs.declared.connection_fault.ConnectionFault.{ConnectionFault}
use Rattle.peer_codes.specs.declared.connection_fault.ConnectionFault.TheVariants as faults
use Rattle.peer_codes.specs.declared.version.Version.{Version}
use Rattle.peer_codes.specs.declared.version.Version.TheVariants.{First, Second}
use Rattle.peer_codes.specs.declared.role.Role.{Role}
use Rattle.peer_codes.specs.declared.role.Role.TheVariants.{Caller, Called}
use Rattle.peer_codes.specs.declared.hello.Hello.{Hello}
use Rattle.peer_codes.specs.declared.hellos.Hellos.{Hellos}
use Rattle.peer_codes.specs.declared.beat.Beat.{Beat}
use Rattle.peer_codes.specs.declared.records.Proof.{Proof}
use Rattle.peer_codes.specs.declared.kind.Kind.{Kind}
use Rattle.peer_codes.specs.declared.kind.Kind.TheVariants as kind_of
use Rattle.peer_codes.specs.declared.event.Event.TheVariants as events
use Rattle.peer_codes.specs.declared.way.Way.{Way}
use Rattle.peer_codes.specs.declared.phase.Ways.{Ways}
use Rattle.peer_codes.specs.declared.phase.Phase.{Phase}
use Rattle.peer_codes.specs.declared.phase.Phase.TheVariants as phases
use Rattle.peer_codes.specs.Versions.{same_version}
use Rattle.peer_codes.specs.Reading.{hello_of, beat_of, is_frame}
use Rattle.peer_codes.specs.Faults.{kind_in}
use Rattle.peer_codes.specs.Codes.{proof_tag, after, uncovered}
use Rattle.peer_codes.specs.Steps.{is_coded, closed, proof_of, ways_of, proving, only_coded, of_version, greeted, heard, frame_heard, beat_told, beat_heard, more_heard, on_more, stepped, step_by, front_step, opened}
use Rattle.peer_codes.specs.Histories.{Happening, Came, Answered, Said, answered_phase, said_phase, phase_after, phase_behind, IsClosed, Happened, HelloCame, ProofCame, Met, across, IsCoded, AnswersCoded, body_length, IsProved}
use Rattle.peer_codes.proofs.VersionLaws.{same_is, of_version_is}

-- both Hellos are said, and the proof that is awaited is that of the other side over them
record IsMet (key : List ℕ) (own : Option Hello) (before : List Happening) (theirs : Proof) (ways : Ways) : Type 0 where
  pub role : Role
  pub hellos : Hellos
  pub nonces : IsCoded hellos.caller × IsCoded hellos.called
  pub version : hellos.called.version ≡ hellos.caller.version
  pub met : Met own role hellos before
  pub awaited : theirs ≡ proof_of key (across role) hellos
  pub ways_are : ways ≡ ways_of key role (across role) hellos

-- what holds of each phase that a connection comes to
abbrev IsSound : List ℕ → Option Hello → List Happening → Phase → Type 0
IsSound key own before (phases.Greeting hello) = (hello ≡ own) × IfSome hello IsCoded
IsSound key own before (phases.Asked caller) = (own ≡ None) × Happened (HelloCame caller) before × IsCoded caller
IsSound key own before (phases.Proving theirs ways) = IsMet key own before theirs ways
IsSound key own before (phases.Open ways) = IsProved key own before ways
IsSound key own before phases.Refused = Unit {0}
IsSound key own before (phases.Closed fault) = Unit {0}

-- what happened stays so
met_still : (own : Option Hello) (role : Role) (hellos : Hellos) (before : List Happening) (happening : Happening) → Met own role hellos before → Met own role hellos (happening ∷ before)
met_still own Caller hellos before happening met = (met.0, inr met.1)
met_still own Called hellos before happening met = (met.0, inr met.1, inr met.2)

still_met : (key : List ℕ) (own : Option Hello) (before : List Happening) (happening : Happening) (theirs : Proof) (ways : Ways) → IsMet key own before theirs ways → IsMet key own (happening ∷ before) theirs ways
still_met key own before happening theirs ways is = record {
  role = is.role;
  hellos = is.hellos;
  nonces = is.nonces;
  version = is.version;
  met = met_still own is.role is.hellos before happening is.met;
  awaited = is.awaited;
  ways_are = is.ways_are;
}

-- a Hello of a connection with codes has a nonce
coded_if : (coded : Bool) (found hello : Hello) → is_coded found.link ≡ coded → ◌≡◌ {A = Option Hello} (cond coded (Some found) None) (Some hello) → IsCoded hello
coded_if true found hello e s =
    let same : found ≡ hello = cc in
    subst (λ (h : Hello). IsCoded h) same e
coded_if false found hello e s = absurd cc

coded_is : (read : Option Hello) (hello : Hello) → only_coded read ≡ Some hello → IsCoded hello
coded_is None hello e = absurd cc
coded_is (Some found) hello e = coded_if (is_coded found.link) found hello refl e

-- ---- a record came

greeted_sound : (key : List ℕ) (own : Option Hello) (before : List Happening) (front : List ℕ) (mine theirs : Option Hello)
    → kind_in front ≡ Ok kind_of.Hello → of_version mine (only_coded (hello_of (drop 5 front))) ≡ theirs → mine ≡ own → IfSome mine IsCoded → IsSound key own (Came front ∷ before) (greeted key mine theirs).phase
greeted_sound key own before front None None kind read is has = tt
greeted_sound key own before front (Some hello) None kind read is has = tt
greeted_sound key own before front None (Some hello) kind read is has = (sym is, inl (kind, read), coded_is (hello_of (drop 5 front)) hello read)
greeted_sound key own before front (Some hello) (Some theirs) kind read is has =
    let found = of_version_is (Some hello) (only_coded (hello_of (drop 5 front))) theirs read in
    record {
      role = Caller;
      hellos = record { caller = hello; called = theirs };
      nonces = (has, coded_is (hello_of (drop 5 front)) theirs found.0);
      version = sym found.1;
      met = (sym is, inl (kind, found.0));
      awaited = refl;
      ways_are = refl;
    }

proved_sound : (key : List ℕ) (own : Option Hello) (before : List Happening) (front : List ℕ) (theirs : Proof) (ways : Ways) (long right : Bool)
    → kind_in front ≡ Ok kind_of.Proof → bytes_eq (drop 5 front) theirs.tag ≡ right → IsMet key own before theirs ways
    → IsSound key own (Came front ∷ before) (cond long (closed (faults.Record BadLength)) (cond right (opened ways) (closed faults.WrongProof))).phase
proved_sound key own before front theirs ways true right kind is met = tt
proved_sound key own before front theirs ways false false kind is met = tt
proved_sound key own before front theirs ways false true kind is met = record {
  role = met.role;
  hellos = met.hellos;
  nonces = met.nonces;
  version = record { called = met.version; reading = ap (λ (w : Ways). w.reading.version) met.ways_are; writing = ap (λ (w : Ways). w.writing.version) met.ways_are };
  since = [];
  opening = Came front;
  earlier = before;
  parts = refl;
  met = met.met;
  proved = (kind, (bytes_eq-Decides (drop 5 front) theirs.tag).0 is ∙ ap (λ (p : Proof). p.tag) met.awaited);
  reading = ap (λ (w : Ways). w.reading) met.ways_are;
  writing = ap (λ (w : Ways). w.writing) met.ways_are;
}

-- the connection stays open, and the other's way goes on
heard_sound : (key : List ℕ) (own : Option Hello) (before : List Happening) (front : List ℕ) (ways : Ways)
    → IsProved key own before ways → IsProved key own (Came front ∷ before) (record { reading = after ways.reading (body_length front); writing = ways.writing })
heard_sound key own before front ways is = record {
  role = is.role;
  hellos = is.hellos;
  nonces = is.nonces;
  version = record { called = is.version.called; reading = is.version.reading; writing = is.version.writing };
  since = Came front ∷ is.since;
  opening = is.opening;
  earlier = is.earlier;
  parts = ap (λ (l : List Happening). Came front ∷ l) is.parts;
  met = is.met;
  proved = is.proved;
  reading = ap (λ (w : Way). after w (body_length front)) is.reading;
  writing = is.writing;
}

frame_sound : (key : List ℕ) (own : Option Hello) (before : List Happening) (front : List ℕ) (ways : Ways) (fits : Bool) (body : List ℕ) → IsProved key own before ways
    → IsSound key own (Came front ∷ before) (cond fits (heard ways (body_length front) (events.Frame (record { bytes = record { items = body } }))) (closed (faults.Record BadLength))).phase
frame_sound key own before front ways true body is = heard_sound key own before front ways is
frame_sound key own before front ways false body is = tt

frame_heard_sound : (key : List ℕ) (own : Option Hello) (before : List Happening) (front : List ℕ) (ways : Ways) (read : Result (List ℕ) ConnectionFault) → IsProved key own before ways
    → IsSound key own (Came front ∷ before) (frame_heard ways (body_length front) read).phase
frame_heard_sound key own before front ways (Err fault) is = tt
frame_heard_sound key own before front ways (Ok body) is = frame_sound key own before front ways (is_frame body) body is

told_sound : (key : List ℕ) (own : Option Hello) (before : List Happening) (front : List ℕ) (ways : Ways) (read : Result Beat RecordFault) → IsProved key own before ways
    → IsSound key own (Came front ∷ before) (beat_told ways (body_length front) read).phase
told_sound key own before front ways (Err fault) is = tt
told_sound key own before front ways (Ok beat) is = heard_sound key own before front ways is

beat_heard_sound : (key : List ℕ) (own : Option Hello) (before : List Happening) (front : List ℕ) (ways : Ways) (read : Result (List ℕ) ConnectionFault) → IsProved key own before ways
    → IsSound key own (Came front ∷ before) (beat_heard ways (body_length front) read).phase
beat_heard_sound key own before front ways (Err fault) is = tt
beat_heard_sound key own before front ways (Ok body) is = told_sound key own before front ways (beat_of body) is

more_heard_sound : (key : List ℕ) (own : Option Hello) (before : List Happening) (front : List ℕ) (ways : Ways) (byte : ℕ) (read : Result (List ℕ) ConnectionFault) → IsProved key own before ways
    → IsSound key own (Came front ∷ before) (more_heard ways (body_length front) byte read).phase
more_heard_sound key own before front ways byte (Err fault) is = tt
more_heard_sound key own before front ways byte (Ok body) is = heard_sound key own before front ways is

on_more_sound : (v : Version) (key : List ℕ) (own : Option Hello) (before : List Happening) (front : List ℕ) (ways : Ways) (byte : ℕ) → IsProved key own before ways
    → IsSound key own (Came front ∷ before) (on_more v ways byte (drop 5 front)).phase
on_more_sound First key own before front ways byte is = tt
on_more_sound Second key own before front ways byte is = more_heard_sound key own before front ways byte (uncovered ways.reading (kind_of.More byte) (drop 5 front)) is

stepped_sound : (key : List ℕ) (own : Option Hello) (before : List Happening) (front : List ℕ) (phase : Phase) (kind : Kind) → kind_in front ≡ Ok kind → IsSound key own before phase
    → IsSound key own (Came front ∷ before) (stepped key phase kind (drop 5 front)).phase
unfolding stepped
stepped_sound key own before front (phases.Greeting hello) kind_of.Hello kind is = greeted_sound key own before front hello (of_version hello (only_coded (hello_of (drop 5 front)))) kind refl is.0 is.1
stepped_sound key own before front (phases.Greeting hello) kind_of.Proof kind is = tt
stepped_sound key own before front (phases.Greeting hello) kind_of.Frame kind is = tt
stepped_sound key own before front (phases.Greeting hello) kind_of.Beat kind is = tt
stepped_sound key own before front (phases.Greeting hello) (kind_of.More byte) kind is = tt
stepped_sound key own before front (phases.Asked caller) found kind is = tt
stepped_sound key own before front (phases.Proving theirs ways) kind_of.Hello kind is = tt
stepped_sound key own before front (phases.Proving theirs ways) kind_of.Proof kind is =
    proved_sound key own before front theirs ways (not (eqb (length (drop 5 front)) TAG_BYTES)) (bytes_eq (drop 5 front) theirs.tag) kind refl is
stepped_sound key own before front (phases.Proving theirs ways) kind_of.Frame kind is = tt
stepped_sound key own before front (phases.Proving theirs ways) kind_of.Beat kind is = tt
stepped_sound key own before front (phases.Proving theirs ways) (kind_of.More byte) kind is = tt
stepped_sound key own before front (phases.Open ways) kind_of.Hello kind is = tt
stepped_sound key own before front (phases.Open ways) kind_of.Proof kind is = tt
stepped_sound key own before front (phases.Open ways) kind_of.Frame kind is =
    frame_heard_sound key own before front ways (uncovered ways.reading kind_of.Frame (drop 5 front)) is
stepped_sound key own before front (phases.Open ways) kind_of.Beat kind is =
    beat_heard_sound key own before front ways (uncovered ways.reading kind_of.Beat (drop 5 front)) is
stepped_sound key own before front (phases.Open ways) (kind_of.More byte) kind is = on_more_sound ways.reading.version key own before front ways byte is
stepped_sound key own before front phases.Refused found kind is = tt
stepped_sound key own before front (phases.Closed fault) found kind is = tt

step_by_sound : (key : List ℕ) (own : Option Hello) (before : List Happening) (front : List ℕ) (phase : Phase) (found : Result Kind RecordFault) → kind_in front ≡ found → IsSound key own before phase
    → IsSound key own (Came front ∷ before) (step_by key phase found (drop 5 front)).phase
step_by_sound key own before front phase (Err fault) kind is = tt
step_by_sound key own before front phase (Ok kind) found is = stepped_sound key own before front phase kind found is

came_sound : (key : List ℕ) (own : Option Hello) (before : List Happening) (front : List ℕ) (phase : Phase) → IsSound key own before phase → IsSound key own (Came front ∷ before) (front_step key phase front).phase
unfolding front_step
came_sound key own before front phase is = step_by_sound key own before front phase (kind_in front) refl is

-- ---- what this side does

asked_sound : (key : List ℕ) (own : Option Hello) (before : List Happening) (hello caller : Hello) (same : Bool) → same_version caller.version hello.version ≡ same → IsCoded hello → IsSound key own before (phases.Asked caller)
    → IsSound key own (Answered hello ∷ before) (cond same (proving key Called Caller (record { caller = caller; called = hello })) (phases.Closed (faults.Record BadHello)))
asked_sound key own before hello caller false version has is = tt
asked_sound key own before hello caller true version has is = record {
  role = Called;
  hellos = record { caller = caller; called = hello };
  nonces = (is.2, has);
  version = sym (same_is caller.version hello.version version);
  met = (is.0, inr is.1, inl refl);
  awaited = refl;
  ways_are = refl;
}

answered_sound : (key : List ℕ) (own : Option Hello) (before : List Happening) (hello : Hello) (phase : Phase) → IsCoded hello → IsSound key own before phase
    → IsSound key own (Answered hello ∷ before) (answered_phase key hello phase)
answered_sound key own before hello (phases.Asked caller) has is = asked_sound key own before hello caller (same_version caller.version hello.version) refl has is
answered_sound key own before hello (phases.Greeting mine) has is = is
answered_sound key own before hello (phases.Proving theirs ways) has is = still_met key own before (Answered hello) theirs ways is
answered_sound key own before hello (phases.Open ways) has is = record {
  role = is.role;
  hellos = is.hellos;
  nonces = is.nonces;
  version = is.version;
  since = Answered hello ∷ is.since;
  opening = is.opening;
  earlier = is.earlier;
  parts = ap (λ (l : List Happening). Answered hello ∷ l) is.parts;
  met = is.met;
  proved = is.proved;
  reading = is.reading;
  writing = is.writing;
}
answered_sound key own before hello phases.Refused has is = tt
answered_sound key own before hello (phases.Closed fault) has is = tt

said_sound : (key : List ℕ) (own : Option Hello) (before : List Happening) (count : ℕ) (phase : Phase) → IsSound key own before phase → IsSound key own (Said count ∷ before) (said_phase count phase)
said_sound key own before count (phases.Open ways) is = record {
  role = is.role;
  hellos = is.hellos;
  nonces = is.nonces;
  version = record { called = is.version.called; reading = is.version.reading; writing = is.version.writing };
  since = Said count ∷ is.since;
  opening = is.opening;
  earlier = is.earlier;
  parts = ap (λ (l : List Happening). Said count ∷ l) is.parts;
  met = is.met;
  proved = is.proved;
  reading = is.reading;
  writing = ap (λ (w : Way). after w count) is.writing;
}
said_sound key own before count (phases.Greeting mine) is = is
said_sound key own before count (phases.Asked caller) is = (is.0, inr is.1, is.2)
said_sound key own before count (phases.Proving theirs ways) is = still_met key own before (Said count) theirs ways is
said_sound key own before count phases.Refused is = tt
said_sound key own before count (phases.Closed fault) is = tt

-- ---- all that happens

sound : (key : List ℕ) (own : Option Hello) (before : List Happening) → IfSome own IsCoded → AnswersCoded before → IsSound key own before (phase_behind key own before)
sound key own [] has answers = (refl, has)
sound key own (Came front ∷ before) has answers = came_sound key own before front (phase_behind key own before) (sound key own before has answers)
sound key own (Answered hello ∷ before) has answers = answered_sound key own before hello (phase_behind key own before) answers.0 (sound key own before has answers.1)
sound key own (Said count ∷ before) has answers = said_sound key own before count (phase_behind key own before) (sound key own before has answers)

pub open_is_proved : (key : List ℕ) (own : Option Hello) (before : List Happening) (ways : Ways) → IfSome own IsCoded → AnswersCoded before → phase_behind key own before ≡ phases.Open ways → IsProved key own before ways
open_is_proved key own before ways has answers e = subst (λ (phase : Phase). IsSound key own before phase) e (sound key own before has answers)

-- ---- the proof is among what happened

happened_in : (P : Happening → Type 0) (since : List Happening) (opening : Happening) (earlier : List Happening) → P opening → Happened P (since ++ opening ∷ earlier)
happened_in P [] opening earlier p = inl p
happened_in P (happening ∷ since) opening earlier p = inr (happened_in P since opening earlier p)

pub proof_happened : (key : List ℕ) (own : Option Hello) (before : List Happening) (ways : Ways) (is : IsProved key own before ways) → Happened (ProofCame (proof_tag key (across is.role) is.hellos)) before
proof_happened key own before ways is =
    subst (λ (l : List Happening). Happened (ProofCame (proof_tag key (across is.role) is.hellos)) l) (sym is.parts)
    (happened_in (ProofCame (proof_tag key (across is.role) is.hellos)) is.since is.opening is.earlier is.proved)

-- ---- what is closed stays closed

closed_by : (key : List ℕ) (fault : ConnectionFault) (found : Result Kind RecordFault) (content : List ℕ) → IsClosed (step_by key (phases.Closed fault) found content).phase
unfolding stepped
closed_by key fault (Err other) content = (faults.Record other, refl)
closed_by key fault (Ok kind) content = (fault, refl)

pub closed_stays : (key : List ℕ) (fault : ConnectionFault) (happening : Happening) → IsClosed (phase_after key (phases.Closed fault) happening)
unfolding front_step
closed_stays key fault (Came bytes) = closed_by key fault (kind_in bytes) (drop 5 bytes)
closed_stays key fault (Answered hello) = (fault, refl)
closed_stays key fault (Said count) = (fault, refl)
