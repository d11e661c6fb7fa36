-- An event that a connection tells goes by what stands in front, and where it waits little came.
use Rattle.std.proofs.Common.{◌≡◌, ◌⊎◌, inl, inr, ℕ, ◌-◌, ◌+◌, ◌<◌, ◌≤◌, arith, Bool, true, false, not, cond, eqb, ltb, leb, List, length, drop, Option, Some, None, Result, Ok, Err, refl, sym, ap, ◌∙◌}
use Rattle.std.specs.Str.{bytes_eq}
use Rattle.std.proofs.lemmas.Bool.{and_parts, leb-true}
use Rattle.peer_codes.specs.declared.limits.TheConstants.{TAG_BYTES, MOST_LENGTH, MOST_RECORD}
use Rattle.peer_codes.specs.declared.fault.RecordFault.{RecordFault}
use Rattle.peer_codes.specs.declared.fault.RecordFault.TheVariants.{BadLength}
use Rattle.peer_codes.specs.declared.connection_fault.ConnectionFault.{ConnectionFault}
use Rattle.peer_codes.specs.declared.connection_fault.ConnectionFault.TheVariants as faults
use Rattle.peer_codes.specs.declared.version.Version.{Version}
use Rattle.peer_codes.specs.declared.version.Version.TheVariants.{First, Second}
use Rattle.peer_codes.specs.declared.role.Role.TheVariants.{Called}
use Rattle.peer_codes.specs.declared.hello.Hello.{Hello}
use Rattle.peer_codes.specs.declared.beat.Beat.{Beat}
use Rattle.peer_codes.specs.declared.records.Proof.{Proof}
use Rattle.peer_codes.specs.declared.kind.Kind.{Kind}
use Rattle.peer_codes.specs.declared.kind.Kind.TheVariants as kind_of
use Rattle.peer_codes.specs.declared.event.Event.{Event}
use Rattle.peer_codes.specs.declared.event.Event.TheVariants as events
use Rattle.peer_codes.specs.declared.phase.Ways.{Ways}
use Rattle.peer_codes.specs.declared.phase.Phase.{Phase}
use Rattle.peer_codes.specs.declared.phase.Phase.TheVariants as phases
use Rattle.peer_codes.specs.declared.step.Step.{Step}
use Rattle.peer_codes.specs.declared.outgoing.Outgoing.{Outgoing}
use Rattle.peer_codes.specs.declared.connection.Connection.{Connection}
use Rattle.peer_codes.specs.Reading.{hello_of, beat_of, is_frame}
use Rattle.peer_codes.specs.Faults.{length_field, is_length, needed, front, kind_in, IsPartial}
use Rattle.peer_codes.specs.Codes.{covered, uncovered}
use Rattle.peer_codes.specs.Steps.{closed, proof_of, opened, only_coded, of_version, greeted, heard, frame_heard, beat_told, beat_heard, more_heard, on_more, stepped, step_by, front_step}
use Rattle.peer_codes.specs.Outgoings.{later}
use Rattle.peer_codes.specs.Connections.{Reads, ReadsOrWaits, Next, met, turned_away, answered}
use Rattle.peer_codes.specs.Telling.{InFront, own_proof, IsHeard, IsMoreHeard, ToldBy, IsAsked}
use Rattle.peer_codes.proofs.CodeLaws.{covered_length}
use Rattle.peer_codes.proofs.StepLaws.{Told, next_ways, frame_said, beat_said, more_said, opening_said}
use Rattle.peer_codes.proofs.VersionLaws.{is_same, not_same, of_version_is}

-- ---- a Hello

same_greeting : (h g : Hello) → ◌≡◌ {A = Told} (Ok (events.Greeted h)) (Ok (events.Greeted g)) → h ≡ g
same_greeting h g e = cc

greeted_hello : (key : List ℕ) (own theirs : Option Hello) (hello : Hello) → (greeted key own theirs).event ≡ Ok (events.Greeted hello) → theirs ≡ Some hello
greeted_hello key None None hello e = absurd cc
greeted_hello key (Some own) None hello e = absurd cc
greeted_hello key None (Some h) hello e = ap (λ (x : Hello). Some x) (same_greeting h hello e)
greeted_hello key (Some own) (Some h) hello e = ap (λ (x : Hello). Some x) (same_greeting h hello e)

proof_no_greeting : (long right : Bool) (ways : Ways) (h : Hello) → (cond long (closed (faults.Record BadLength)) (cond right (opened ways) (closed faults.WrongProof))).event ≡ Ok (events.Greeted h) → ⊥
proof_no_greeting true right ways h e = absurd cc
proof_no_greeting false true ways h e = absurd cc
proof_no_greeting false false ways h e = absurd cc

fits_no_greeting : (fits : Bool) (ways : Ways) (count : ℕ) (body : List ℕ) (h : Hello)
    → (cond fits (heard ways count (events.Frame (record { bytes = record { items = body } }))) (closed (faults.Record BadLength))).event ≡ Ok (events.Greeted h) → ⊥
fits_no_greeting true ways count body h e = absurd cc
fits_no_greeting false ways count body h e = absurd cc

frame_no_greeting : (ways : Ways) (count : ℕ) (read : Result (List ℕ) ConnectionFault) (h : Hello) → (frame_heard ways count read).event ≡ Ok (events.Greeted h) → ⊥
frame_no_greeting ways count (Err fault) h e = absurd cc
frame_no_greeting ways count (Ok body) h e = fits_no_greeting (is_frame body) ways count body h e

told_no_greeting : (ways : Ways) (count : ℕ) (read : Result Beat RecordFault) (h : Hello) → (beat_told ways count read).event ≡ Ok (events.Greeted h) → ⊥
told_no_greeting ways count (Err fault) h e = absurd cc
told_no_greeting ways count (Ok beat) h e = absurd cc

beat_no_greeting : (ways : Ways) (count : ℕ) (read : Result (List ℕ) ConnectionFault) (h : Hello) → (beat_heard ways count read).event ≡ Ok (events.Greeted h) → ⊥
beat_no_greeting ways count (Err fault) h e = absurd cc
beat_no_greeting ways count (Ok body) h e = told_no_greeting ways count (beat_of body) h e

more_no_greeting : (ways : Ways) (count byte : ℕ) (read : Result (List ℕ) ConnectionFault) (h : Hello) → (more_heard ways count byte read).event ≡ Ok (events.Greeted h) → ⊥
more_no_greeting ways count byte (Err fault) h e = absurd cc
more_no_greeting ways count byte (Ok body) h e = absurd cc

on_more_no_greeting : (v : Version) (ways : Ways) (byte : ℕ) (content : List ℕ) (h : Hello) → (on_more v ways byte content).event ≡ Ok (events.Greeted h) → ⊥
on_more_no_greeting First ways byte content h e = absurd cc
on_more_no_greeting Second ways byte content h e = more_no_greeting ways (length content - TAG_BYTES) byte (uncovered ways.reading (kind_of.More byte) content) h e

-- no Hello came yet, and this one is that
record Greets (phase : Phase) (kind : Kind) (content : List ℕ) (hello : Hello) : Type 0 where
  pub own : Option Hello
  pub phase_is : phase ≡ phases.Greeting own
  pub kind_is : kind ≡ kind_of.Hello
  pub taken : of_version own (only_coded (hello_of content)) ≡ Some hello

greeting_said : (key : List ℕ) (phase : Phase) (kind : Kind) (content : List ℕ) (hello : Hello) → (stepped key phase kind content).event ≡ Ok (events.Greeted hello) → Greets phase kind content hello
unfolding stepped
greeting_said key (phases.Greeting own) kind_of.Hello content hello e = record { own = own; phase_is = refl; kind_is = refl; taken = greeted_hello key own (of_version own (only_coded (hello_of content))) hello e }
greeting_said key (phases.Greeting own) kind_of.Proof content hello e = absurd cc
greeting_said key (phases.Greeting own) kind_of.Frame content hello e = absurd cc
greeting_said key (phases.Greeting own) kind_of.Beat content hello e = absurd cc
greeting_said key (phases.Greeting own) (kind_of.More byte) content hello e = absurd cc
greeting_said key (phases.Asked caller) kind content hello e = absurd cc
greeting_said key phases.Refused kind content hello e = absurd cc
greeting_said key (phases.Proving theirs ways) kind_of.Hello content hello e = absurd cc
greeting_said key (phases.Proving theirs ways) kind_of.Proof content hello e = absurd (proof_no_greeting (not (eqb (length content) TAG_BYTES)) (bytes_eq content theirs.tag) ways hello e)
greeting_said key (phases.Proving theirs ways) kind_of.Frame content hello e = absurd cc
greeting_said key (phases.Proving theirs ways) kind_of.Beat content hello e = absurd cc
greeting_said key (phases.Proving theirs ways) (kind_of.More byte) content hello e = absurd cc
greeting_said key (phases.Open ways) kind_of.Hello content hello e = absurd cc
greeting_said key (phases.Open ways) kind_of.Proof content hello e = absurd cc
greeting_said key (phases.Open ways) kind_of.Frame content hello e = absurd (frame_no_greeting ways (length content - TAG_BYTES) (uncovered ways.reading kind_of.Frame content) hello e)
greeting_said key (phases.Open ways) kind_of.Beat content hello e = absurd (beat_no_greeting ways (length content - TAG_BYTES) (uncovered ways.reading kind_of.Beat content) hello e)
greeting_said key (phases.Open ways) (kind_of.More byte) content hello e = absurd (on_more_no_greeting ways.reading.version ways byte content hello e)
greeting_said key (phases.Closed fault) kind content hello e = absurd cc

-- ---- how far it is then

opens_by : (long right : Bool) (ways : Ways) → (cond long (closed (faults.Record BadLength)) (cond right (opened ways) (closed faults.WrongProof))).event ≡ Ok events.Opened
    → (cond long (closed (faults.Record BadLength)) (cond right (opened ways) (closed faults.WrongProof))).phase ≡ phases.Open ways
opens_by true right ways e = absurd cc
opens_by false true ways e = refl
opens_by false false ways e = absurd cc

proof_opens_it : (key : List ℕ) (theirs : Proof) (ways : Ways) (kind : Kind) (content : List ℕ) → (stepped key (phases.Proving theirs ways) kind content).event ≡ Ok events.Opened
    → (stepped key (phases.Proving theirs ways) kind content).phase ≡ phases.Open ways
unfolding stepped
proof_opens_it key theirs ways kind_of.Hello content e = absurd cc
proof_opens_it key theirs ways kind_of.Proof content e = opens_by (not (eqb (length content) TAG_BYTES)) (bytes_eq content theirs.tag) ways e
proof_opens_it key theirs ways kind_of.Frame content e = absurd cc
proof_opens_it key theirs ways kind_of.Beat content e = absurd cc
proof_opens_it key theirs ways (kind_of.More byte) content e = absurd cc

fits_stays : (fits : Bool) (ways : Ways) (count : ℕ) (body : List ℕ) (event : Event)
    → (cond fits (heard ways count (events.Frame (record { bytes = record { items = body } }))) (closed (faults.Record BadLength))).event ≡ Ok event
    → (cond fits (heard ways count (events.Frame (record { bytes = record { items = body } }))) (closed (faults.Record BadLength))).phase ≡ phases.Open (next_ways ways count)
fits_stays true ways count body event e = refl
fits_stays false ways count body event e = absurd cc

frame_stays : (ways : Ways) (count : ℕ) (read : Result (List ℕ) ConnectionFault) (event : Event) → (frame_heard ways count read).event ≡ Ok event → (frame_heard ways count read).phase ≡ phases.Open (next_ways ways count)
frame_stays ways count (Err fault) event e = absurd cc
frame_stays ways count (Ok body) event e = fits_stays (is_frame body) ways count body event e

told_stays : (ways : Ways) (count : ℕ) (read : Result Beat RecordFault) (event : Event) → (beat_told ways count read).event ≡ Ok event → (beat_told ways count read).phase ≡ phases.Open (next_ways ways count)
told_stays ways count (Err fault) event e = absurd cc
told_stays ways count (Ok beat) event e = refl

beat_stays : (ways : Ways) (count : ℕ) (read : Result (List ℕ) ConnectionFault) (event : Event) → (beat_heard ways count read).event ≡ Ok event → (beat_heard ways count read).phase ≡ phases.Open (next_ways ways count)
beat_stays ways count (Err fault) event e = absurd cc
beat_stays ways count (Ok body) event e = told_stays ways count (beat_of body) event e

more_stays : (ways : Ways) (count byte : ℕ) (read : Result (List ℕ) ConnectionFault) (event : Event) → (more_heard ways count byte read).event ≡ Ok event → (more_heard ways count byte read).phase ≡ phases.Open (next_ways ways count)
more_stays ways count byte (Err fault) event e = absurd cc
more_stays ways count byte (Ok body) event e = refl

on_more_stays : (v : Version) (ways : Ways) (byte : ℕ) (content : List ℕ) (event : Event) → (on_more v ways byte content).event ≡ Ok event
    → (on_more v ways byte content).phase ≡ phases.Open (next_ways ways (length content - TAG_BYTES))
on_more_stays First ways byte content event e = absurd cc
on_more_stays Second ways byte content event e = more_stays ways (length content - TAG_BYTES) byte (uncovered ways.reading (kind_of.More byte) content) event e

stays_open : (key : List ℕ) (ways : Ways) (kind : Kind) (content : List ℕ) (event : Event) → (stepped key (phases.Open ways) kind content).event ≡ Ok event
    → (stepped key (phases.Open ways) kind content).phase ≡ phases.Open (next_ways ways (length content - TAG_BYTES))
unfolding stepped
stays_open key ways kind_of.Hello content event e = absurd cc
stays_open key ways kind_of.Proof content event e = absurd cc
stays_open key ways kind_of.Frame content event e = frame_stays ways (length content - TAG_BYTES) (uncovered ways.reading kind_of.Frame content) event e
stays_open key ways kind_of.Beat content event e = beat_stays ways (length content - TAG_BYTES) (uncovered ways.reading kind_of.Beat content) event e
stays_open key ways (kind_of.More byte) content event e = on_more_stays ways.reading.version ways byte content event e

-- ---- what stood in front

-- a coded record that was heard, as it stood in front
heard_by : (old new : Connection) (kind : Kind) (body content : List ℕ) (ways : Ways) (event : Event)
    → InFront kind content old → old.phase ≡ phases.Open ways → content ≡ covered ways.reading kind body
    → (stepped old.key.bytes old.phase kind content).event ≡ Ok event → new.phase ≡ (stepped old.key.bytes old.phase kind content).phase → IsHeard kind body old new
heard_by old new kind body content ways event came is_open text told goes =
    let opens : (stepped old.key.bytes (phases.Open ways) kind content).event ≡ Ok event = ap (λ (p : Phase). (stepped old.key.bytes p kind content).event) (sym is_open) ∙ told in
    let count : length content - TAG_BYTES ≡ length body = omega (arith, ap length text, covered_length ways.reading kind body) in
    record {
      ways = ways;
      open_was = is_open;
      came = record { kind_is = came.kind_is; content_is = came.content_is ∙ text };
      goes_on = goes
          ∙ ap (λ (p : Phase). (stepped old.key.bytes p kind content).phase) is_open
          ∙ stays_open old.key.bytes ways kind content event opens
          ∙ ap (λ (n : ℕ). phases.Open (next_ways ways n)) count;
    }

as_kind : (kind other : Kind) (content : List ℕ) (old : Connection) → kind ≡ other → InFront kind content old → InFront other content old
as_kind kind other content old is came = record { kind_is = came.kind_is ∙ ap (λ (k : Kind). let r : Result Kind RecordFault = Ok k in r) is; content_is = came.content_is }

-- the proof that is to be said once a Hello came
says_by : (key : List ℕ) (own read : Option Hello) (hello : Hello) (earlier : Option Proof) → read ≡ Some hello → later earlier (greeted key own read).proof ≡ own_proof key own hello earlier
says_by key own None hello earlier e = absurd cc
says_by key None (Some theirs) hello earlier e = refl
says_by key (Some own) (Some theirs) hello earlier e =
    let same : theirs ≡ hello = cc in
    ap (λ (h : Hello). own_proof key (Some own) h earlier) same

greets_with : (key : List ℕ) (own : Option Hello) (content : List ℕ) (hello : Hello) (earlier : Option Proof) → of_version own (only_coded (hello_of content)) ≡ Some hello
    → later earlier (stepped key (phases.Greeting own) kind_of.Hello content).proof ≡ own_proof key own hello earlier
unfolding stepped
greets_with key own content hello earlier e = says_by key own (of_version own (only_coded (hello_of content))) hello earlier e

abbrev with_proof : Outgoing → Option Proof → Outgoing
with_proof o proof = record o { proof = proof }

open_ways : (v w : Ways) → phases.Open v ≡ phases.Open w → v ≡ w
open_ways v w e = cc

on_the_second : (old new : Connection) (byte : ℕ) (body : List ℕ) (ways : Ways) → ways.reading.version ≡ Second → old.phase ≡ phases.Open ways → IsHeard (kind_of.More byte) body old new → IsMoreHeard byte body old new
on_the_second old new byte body ways second is_open heard = record {
  heard = heard;
  second = ap (λ (w : Ways). w.reading.version) (open_ways heard.ways ways (sym heard.open_was ∙ is_open)) ∙ second;
}

told_by : (old new : Connection) (kind : Kind) (content : List ℕ) (event : Event) → InFront kind content old
    → (stepped old.key.bytes old.phase kind content).event ≡ Ok event → new.phase ≡ (stepped old.key.bytes old.phase kind content).phase
    → new.out ≡ record old.out { proof = later old.out.proof (stepped old.key.bytes old.phase kind content).proof } → ToldBy event old new
told_by old new kind content (events.Greeted hello) came told goes out =
    let is = greeting_said old.key.bytes old.phase kind content hello told in
    let proof : later old.out.proof (stepped old.key.bytes old.phase kind content).proof ≡ own_proof old.key.bytes is.own hello old.out.proof =
    ap (λ (p : Phase). later old.out.proof (stepped old.key.bytes p kind content).proof) is.phase_is
    ∙ ap (λ (k : Kind). later old.out.proof (stepped old.key.bytes (phases.Greeting is.own) k content).proof) is.kind_is
    ∙ greets_with old.key.bytes is.own content hello old.out.proof is.taken in
    let found = of_version_is is.own (only_coded (hello_of content)) hello is.taken in
    record {
      own = is.own;
      content = content;
      greeting = is.phase_is;
      came = as_kind kind kind_of.Hello content old is.kind_is came;
      hello_is = found.0;
      version = found.1;
      out = out ∙ ap (λ (p : Option Proof). with_proof old.out p) proof;
    }
told_by old new kind content events.Opened came told goes out =
    let is = opening_said old.key.bytes old.phase kind content told in
    let awaited : (stepped old.key.bytes (phases.Proving is.theirs is.ways) kind content).event ≡ Ok events.Opened = ap (λ (p : Phase). (stepped old.key.bytes p kind content).event) (sym is.phase_is) ∙ told in
    let here = as_kind kind kind_of.Proof content old is.kind_is came in
    record {
      theirs = is.theirs;
      ways = is.ways;
      awaited = is.phase_is;
      came = record { kind_is = here.kind_is; content_is = here.content_is ∙ is.text };
      opens = goes ∙ ap (λ (p : Phase). (stepped old.key.bytes p kind content).phase) is.phase_is ∙ proof_opens_it old.key.bytes is.theirs is.ways kind content awaited;
    }
told_by old new kind content (events.Frame frame) came told goes out =
    let is = frame_said old.key.bytes old.phase kind content frame told in
    heard_by old new kind_of.Frame frame.bytes.items content is.ways (events.Frame frame) (as_kind kind kind_of.Frame content old is.kind_is came) is.phase_is is.text
    (ap (λ (k : Kind). (stepped old.key.bytes old.phase k content).event) (sym is.kind_is) ∙ told)
    (goes ∙ ap (λ (k : Kind). (stepped old.key.bytes old.phase k content).phase) is.kind_is)
told_by old new kind content (events.Beat beat) came told goes out =
    let is = beat_said old.key.bytes old.phase kind content beat told in (
      is.body,
      is.beat_is,
      heard_by old new kind_of.Beat is.body content is.ways (events.Beat beat) (as_kind kind kind_of.Beat content old is.kind_is came) is.phase_is is.text
          (ap (λ (k : Kind). (stepped old.key.bytes old.phase k content).event) (sym is.kind_is) ∙ told)
          (goes ∙ ap (λ (k : Kind). (stepped old.key.bytes old.phase k content).phase) is.kind_is),
    )
told_by old new kind content (events.More more) came told goes out =
    let is = more_said old.key.bytes old.phase kind content more told in
    on_the_second old new more.kind more.bytes.items is.ways is.version is.phase_is
    (heard_by old new (kind_of.More more.kind) more.bytes.items content is.ways (events.More more) (as_kind kind (kind_of.More more.kind) content old is.kind_is came) is.phase_is is.text
    (ap (λ (k : Kind). (stepped old.key.bytes old.phase k content).event) (sym is.kind_is) ∙ told)
    (goes ∙ ap (λ (k : Kind). (stepped old.key.bytes old.phase k content).phase) is.kind_is))

found_by : (old new : Connection) (found : Result Kind RecordFault) (event : Event) → kind_in (front old.came.waiting) ≡ found
    → (step_by old.key.bytes old.phase found (drop 5 (front old.came.waiting))).event ≡ Ok event
    → new.phase ≡ (step_by old.key.bytes old.phase found (drop 5 (front old.came.waiting))).phase
    → new.out ≡ record old.out { proof = later old.out.proof (step_by old.key.bytes old.phase found (drop 5 (front old.came.waiting))).proof } → ToldBy event old new
found_by old new (Err fault) event found told goes out = absurd cc
found_by old new (Ok kind) event found told goes out = told_by old new kind (drop 5 (front old.came.waiting)) event (record { kind_is = found; content_is = refl }) told goes out

read_by : (old new : Connection) (event : Event) → Reads old new (Ok event) → ToldBy event old new
unfolding front_step
read_by old new event reads = found_by old new (kind_in (front old.came.waiting)) event refl (sym reads.told_is) (ap (λ (c : Connection). c.phase) reads.others) (ap (λ (c : Connection). c.out) reads.others)

next_by : (phase : Phase) (old new : Connection) (event : Event) → Next phase old (Some (Ok event)) new → ToldBy event old new
next_by (phases.Asked caller) old new event h = let e = h.0 in absurd cc
next_by phases.Refused old new event h = let e = h.0 in absurd cc
next_by (phases.Closed fault) old new event h = let e = h.0 in absurd cc
next_by (phases.Greeting own) old new event h = read_by old new event h
next_by (phases.Proving theirs ways) old new event h = read_by old new event h
next_by (phases.Open ways) old new event h = read_by old new event h

pub event_told : (old new : Connection) (event : Event) → Next old.phase old (Some (Ok event)) new → ToldBy event old new
event_told old new event h = next_by old.phase old new event h

-- ---- what it has to say then

-- it tells a Hello, or has no other proof to say
abbrev SaysOrGreets : Step → Type 0
SaysOrGreets step = (step.proof ≡ None) ⊎ ((hello : Hello) × (step.event ≡ Ok (events.Greeted hello)))

greeted_says : (key : List ℕ) (own read : Option Hello) → SaysOrGreets (greeted key own read)
greeted_says key None None = inl refl
greeted_says key (Some own) None = inl refl
greeted_says key None (Some hello) = inr (hello, refl)
greeted_says key (Some own) (Some hello) = inr (hello, refl)

proof_says : (long right : Bool) (ways : Ways) → SaysOrGreets (cond long (closed (faults.Record BadLength)) (cond right (opened ways) (closed faults.WrongProof)))
proof_says true right ways = inl refl
proof_says false true ways = inl refl
proof_says false false ways = inl refl

fits_says : (fits : Bool) (ways : Ways) (count : ℕ) (event : Event) → SaysOrGreets (cond fits (heard ways count event) (closed (faults.Record BadLength)))
fits_says true ways count event = inl refl
fits_says false ways count event = inl refl

frame_says : (ways : Ways) (count : ℕ) (read : Result (List ℕ) ConnectionFault) → SaysOrGreets (frame_heard ways count read)
frame_says ways count (Err fault) = inl refl
frame_says ways count (Ok body) = fits_says (is_frame body) ways count (events.Frame (record { bytes = record { items = body } }))

told_says : (ways : Ways) (count : ℕ) (read : Result Beat RecordFault) → SaysOrGreets (beat_told ways count read)
told_says ways count (Err fault) = inl refl
told_says ways count (Ok beat) = inl refl

beat_says : (ways : Ways) (count : ℕ) (read : Result (List ℕ) ConnectionFault) → SaysOrGreets (beat_heard ways count read)
beat_says ways count (Err fault) = inl refl
beat_says ways count (Ok body) = told_says ways count (beat_of body)

more_says : (ways : Ways) (count byte : ℕ) (read : Result (List ℕ) ConnectionFault) → SaysOrGreets (more_heard ways count byte read)
more_says ways count byte (Err fault) = inl refl
more_says ways count byte (Ok body) = inl refl

on_more_says : (v : Version) (ways : Ways) (byte : ℕ) (content : List ℕ) → SaysOrGreets (on_more v ways byte content)
on_more_says First ways byte content = inl refl
on_more_says Second ways byte content = more_says ways (length content - TAG_BYTES) byte (uncovered ways.reading (kind_of.More byte) content)

stepped_says : (key : List ℕ) (phase : Phase) (kind : Kind) (content : List ℕ) → SaysOrGreets (stepped key phase kind content)
unfolding stepped
stepped_says key (phases.Greeting own) kind_of.Hello content = greeted_says key own (of_version own (only_coded (hello_of content)))
stepped_says key (phases.Greeting own) kind_of.Proof content = inl refl
stepped_says key (phases.Greeting own) kind_of.Frame content = inl refl
stepped_says key (phases.Greeting own) kind_of.Beat content = inl refl
stepped_says key (phases.Greeting own) (kind_of.More byte) content = inl refl
stepped_says key (phases.Asked caller) kind content = inl refl
stepped_says key phases.Refused kind content = inl refl
stepped_says key (phases.Proving theirs ways) kind_of.Hello content = inl refl
stepped_says key (phases.Proving theirs ways) kind_of.Proof content = proof_says (not (eqb (length content) TAG_BYTES)) (bytes_eq content theirs.tag) ways
stepped_says key (phases.Proving theirs ways) kind_of.Frame content = inl refl
stepped_says key (phases.Proving theirs ways) kind_of.Beat content = inl refl
stepped_says key (phases.Proving theirs ways) (kind_of.More byte) content = inl refl
stepped_says key (phases.Open ways) kind_of.Hello content = inl refl
stepped_says key (phases.Open ways) kind_of.Proof content = inl refl
stepped_says key (phases.Open ways) kind_of.Frame content = frame_says ways (length content - TAG_BYTES) (uncovered ways.reading kind_of.Frame content)
stepped_says key (phases.Open ways) kind_of.Beat content = beat_says ways (length content - TAG_BYTES) (uncovered ways.reading kind_of.Beat content)
stepped_says key (phases.Open ways) (kind_of.More byte) content = on_more_says ways.reading.version ways byte content
stepped_says key (phases.Closed fault) kind content = inl refl

step_says : (key : List ℕ) (phase : Phase) (found : Result Kind RecordFault) (content : List ℕ) → SaysOrGreets (step_by key phase found content)
step_says key phase (Err fault) content = inl refl
step_says key phase (Ok kind) content = stepped_says key phase kind content

front_says : (key : List ℕ) (phase : Phase) (bytes : List ℕ) → SaysOrGreets (front_step key phase bytes)
unfolding front_step
front_says key phase bytes = step_says key phase (kind_in bytes) (drop 5 bytes)

abbrev pub OutStays : Connection → Option Told → Connection → Type 0
OutStays old result new = (new.out ≡ old.out) ⊎ ((hello : Hello) × (result ≡ Some (Ok (events.Greeted hello))))

read_says : (old new : Connection) (told : Told) → Reads old new told → OutStays old (Some told) new
read_says old new told reads =
    elim (front_says old.key.bytes old.phase (front old.came.waiting)) [
      | inl none ↦ inl (ap (λ (c : Connection). c.out) reads.others ∙ ap (λ (p : Option Proof). with_proof old.out (later old.out.proof p)) none)
      | inr greets ↦ inr (greets.0, ap (λ (t : Told). Some t) (reads.told_is ∙ greets.1))
    ]

reads_say : (old new : Connection) (result : Option Told) → ReadsOrWaits old result new → OutStays old result new
reads_say old new None h = inl (ap (λ (c : Connection). c.out) h.1)
reads_say old new (Some told) h = read_says old new told h

says_next : (phase : Phase) (old new : Connection) (result : Option Told) → Next phase old result new → OutStays old result new
says_next (phases.Asked caller) old new result h = inl (ap (λ (c : Connection). c.out) h.1)
says_next phases.Refused old new result h = inl (ap (λ (c : Connection). c.out) h.1)
says_next (phases.Closed fault) old new result h = inl (ap (λ (c : Connection). c.out) h.1)
says_next (phases.Greeting own) old new result h = reads_say old new result h
says_next (phases.Proving theirs ways) old new result h = reads_say old new result h
says_next (phases.Open ways) old new result h = reads_say old new result h

pub out_stays : (old new : Connection) (result : Option Told) → Next old.phase old result new → OutStays old result new
out_stays old new result h = says_next old.phase old new result h

pub asked_answers : (old : Connection) (own caller : Hello) → old.phase ≡ phases.Asked caller → own.version ≡ caller.version
    → (answered old.phase own old).out ≡ record old.out { hello = Some own; proof = Some (proof_of old.key.bytes Called (record { caller = caller; called = own })) }
asked_answers old own caller e same =
    ap (λ (p : Phase). (answered p own old).out) e ∙ ap (λ (b : Bool). (cond b (met caller own old) (turned_away own old)).out) (is_same caller.version own.version (sym same))

pub asked_in_another : (old : Connection) (own caller : Hello) → old.phase ≡ phases.Asked caller → (own.version ≡ caller.version → ⊥) → (answered old.phase own old).out ≡ record old.out { hello = Some own }
asked_in_another old own caller e differ =
    ap (λ (p : Phase). (answered p own old).out) e ∙ ap (λ (b : Bool). (cond b (met caller own old) (turned_away own old)).out) (not_same caller.version own.version (λ same. differ (sym same)))

pub refused_answers : (old : Connection) (own : Hello) → old.phase ≡ phases.Refused → (answered old.phase own old).out ≡ record old.out { hello = Some own }
refused_answers old own e = ap (λ (p : Phase). (answered p own old).out) e

answers_by : (phase : Phase) (old : Connection) (own : Hello) → old.phase ≡ phase → (answered phase own old ≡ old) ⊎ (IsAsked old.phase ⊎ (old.phase ≡ phases.Refused))
answers_by (phases.Asked caller) old own e = inr (inl (caller, e))
answers_by phases.Refused old own e = inr (inr e)
answers_by (phases.Greeting mine) old own e = inl refl
answers_by (phases.Proving theirs ways) old own e = inl refl
answers_by (phases.Open ways) old own e = inl refl
answers_by (phases.Closed fault) old own e = inl refl

pub others_answer_nothing : (old : Connection) (own : Hello) → (answered old.phase own old ≡ old) ⊎ (IsAsked old.phase ⊎ (old.phase ≡ phases.Refused))
others_answer_nothing old own = answers_by old.phase old own refl

-- ---- while it waits

needed_by : (short : Bool) (n : ℕ) (fits : Bool) → is_length n ≡ fits → cond short 4 (cond fits (4 + n) 4) ≤ MOST_RECORD
needed_by true n fits is = omega arith
needed_by false n true is =
    let most : n ≤ MOST_LENGTH = leb-true _ _ (and_parts (leb 1 n) (leb n MOST_LENGTH) is).1 in
    omega (arith, most)
needed_by false n false is = omega arith

needed_most : (bytes : List ℕ) → needed bytes ≤ MOST_RECORD
unfolding needed
needed_most bytes = needed_by (ltb (length bytes) 4) (length_field bytes) (is_length (length_field bytes)) refl

partial_is_little : (old : Connection) → IsPartial old.came.waiting → length old.came.waiting < MOST_RECORD
partial_is_little old partial = omega (arith, partial, needed_most old.came.waiting)

waits_by : (phase : Phase) (old new : Connection) → old.phase ≡ phase → Next phase old None new → IsAsked old.phase ⊎ (length old.came.waiting < MOST_RECORD)
waits_by (phases.Asked caller) old new e h = inl (caller, e)
waits_by phases.Refused old new e h = let f = h.0 in absurd cc
waits_by (phases.Closed fault) old new e h = let f = h.0 in absurd cc
waits_by (phases.Greeting own) old new e h = inr (partial_is_little old h.0)
waits_by (phases.Proving theirs ways) old new e h = inr (partial_is_little old h.0)
waits_by (phases.Open ways) old new e h = inr (partial_is_little old h.0)

pub little_waits : (old new : Connection) → Next old.phase old None new → IsAsked old.phase ⊎ (length old.came.waiting < MOST_RECORD)
little_waits old new h = waits_by old.phase old new refl h
