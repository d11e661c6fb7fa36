-- What opens a connection, and what a frame that comes was said by.
use Rattle.std.proofs.Common.{◌≡◌, ◌⊎◌, inl, inr, ℕ, ◌-◌, ◌<◌, arith, Bool, true, false, not, cond, eqb, List, length, Option, Some, None, Result, Ok, Err, refl, sym, ap, ◌∙◌}
use Rattle.std.specs.Str.{bytes_eq}
use Rattle.std.proofs.lemmas.Bool.{eq-eqb, le-leb}
use Rattle.std.proofs.lemmas.Slice.Eq.{bytes_eq-Decides}
use Rattle.peer_codes.specs.declared.limits.TheConstants.{TAG_BYTES, LEAST_FRAME, MOST_FRAME, LAST_NUMBER}
use Rattle.peer_codes.specs.declared.fault.RecordFault.{RecordFault}
use Rattle.peer_codes.specs.declared.fault.RecordFault.TheVariants.{BadLength, BadKind}
use Rattle.peer_codes.specs.declared.connection_fault.ConnectionFault.{ConnectionFault}
use Rattle.peer_codes.specs.declared.connection_fault.ConnectionFault.TheVariants as faults
use Rattle.peer_codes.specs.declared.role.Role.{Role}
use Rattle.peer_codes.specs.declared.hello.Hello.{Hello}
use Rattle.peer_codes.specs.declared.hellos.Hellos.{Hellos}
use Rattle.peer_codes.specs.declared.beat.Beat.{Beat}
use Rattle.peer_codes.specs.declared.frame.Frame.{Frame}
use Rattle.peer_codes.specs.declared.more.More.{More}
use Rattle.peer_codes.specs.declared.version.Version.{Version}
use Rattle.peer_codes.specs.declared.version.Version.TheVariants.{First, Second}
use Rattle.peer_codes.specs.declared.kind.Kind.{Kind}
use Rattle.peer_codes.specs.declared.kind.Kind.TheVariants as kind_of
use Rattle.peer_codes.specs.declared.event.Event.{Event}
use Rattle.peer_codes.specs.declared.event.Event.TheVariants as events
use Rattle.peer_codes.specs.declared.phase.Ways.{Ways}
use Rattle.peer_codes.specs.declared.phase.Phase.{Phase}
use Rattle.peer_codes.specs.declared.phase.Phase.TheVariants as phases
use Rattle.peer_codes.specs.declared.step.Step.{Step}
use Rattle.peer_codes.specs.Reading.{hello_of, beat_of, is_frame}
use Rattle.peer_codes.specs.Fits.{IsFrame, IsBeat}
use Rattle.peer_codes.specs.Spelling.{beat_text}
use Rattle.peer_codes.specs.Codes.{proof_tag, after, covered, uncovered}
use Rattle.peer_codes.specs.Steps.{closed, proving, ways_of, opened, only_coded, of_version, greeted, heard, frame_heard, beat_told, beat_heard, more_heard, on_more, stepped, IsFrameSaid, IsBeatSaid, IsMoreSaid, IsOpening}
use Rattle.peer_codes.specs.Telling.{IsOpen}
use Rattle.peer_codes.proofs.RecordLaws.{beat_again}
use Rattle.peer_codes.proofs.CodeLaws.{hmac_length, covered_length, covered_again, covered_is}

abbrev pub Told : Type 0
Told = Result Event ConnectionFault

-- what is told isn't two things
greeting_no_frame : (h : Hello) (f : Frame) → ◌≡◌ {A = Told} (Ok (events.Greeted h)) (Ok (events.Frame f)) → ⊥
greeting_no_frame h f e = absurd cc

greeted_no_frame : (key : List ℕ) (own theirs : Option Hello) (f : Frame) → (greeted key own theirs).event ≡ Ok (events.Frame f) → ⊥
greeted_no_frame key None None f e = absurd cc
greeted_no_frame key (Some own) None f e = absurd cc
greeted_no_frame key None (Some h) f e = absurd cc
greeted_no_frame key (Some own) (Some h) f e = absurd cc

greeted_no_opening : (key : List ℕ) (own theirs : Option Hello) → (greeted key own theirs).event ≡ Ok events.Opened → ⊥
greeted_no_opening key None None e = absurd cc
greeted_no_opening key (Some own) None e = absurd cc
greeted_no_opening key None (Some h) e = absurd cc
greeted_no_opening key (Some own) (Some h) e = absurd cc

proof_no_frame : (long right : Bool) (ways : Ways) (f : Frame) → (cond long (closed (faults.Record BadLength)) (cond right (opened ways) (closed faults.WrongProof))).event ≡ Ok (events.Frame f) → ⊥
proof_no_frame true right ways f e = absurd cc
proof_no_frame false true ways f e = absurd cc
proof_no_frame false false ways f e = absurd cc

proof_opens : (long right : Bool) (ways : Ways) → (cond long (closed (faults.Record BadLength)) (cond right (opened ways) (closed faults.WrongProof))).event ≡ Ok events.Opened → right ≡ true
proof_opens true right ways e = absurd cc
proof_opens false true ways e = refl
proof_opens false false ways e = absurd cc

frame_is_body : (fits : Bool) (ways : Ways) (count : ℕ) (body : List ℕ) (f : Frame)
    → (cond fits (heard ways count (events.Frame (record { bytes = record { items = body } }))) (closed (faults.Record BadLength))).event ≡ Ok (events.Frame f) → body ≡ f.bytes.items
frame_is_body true ways count body f e =
    let made : Frame = record { bytes = record { items = body } } in
    let same : made ≡ f = cc in
    ap (λ (x : Frame). x.bytes.items) same
frame_is_body false ways count body f e = absurd cc

frame_heard_is : (ways : Ways) (count : ℕ) (read : Result (List ℕ) ConnectionFault) (f : Frame) → (frame_heard ways count read).event ≡ Ok (events.Frame f) → read ≡ Ok f.bytes.items
frame_heard_is ways count (Err fault) f e = absurd cc
frame_heard_is ways count (Ok body) f e = ap (λ (b : List ℕ). let r : Result (List ℕ) ConnectionFault = Ok b in r) (frame_is_body (is_frame body) ways count body f e)

frame_no_opening : (fits : Bool) (ways : Ways) (count : ℕ) (body : List ℕ)
    → (cond fits (heard ways count (events.Frame (record { bytes = record { items = body } }))) (closed (faults.Record BadLength))).event ≡ Ok events.Opened → ⊥
frame_no_opening true ways count body e = absurd cc
frame_no_opening false ways count body e = absurd cc

frame_heard_no_opening : (ways : Ways) (count : ℕ) (read : Result (List ℕ) ConnectionFault) → (frame_heard ways count read).event ≡ Ok events.Opened → ⊥
frame_heard_no_opening ways count (Err fault) e = absurd cc
frame_heard_no_opening ways count (Ok body) e = frame_no_opening (is_frame body) ways count body e

told_no_frame : (ways : Ways) (count : ℕ) (read : Result Beat RecordFault) (f : Frame) → (beat_told ways count read).event ≡ Ok (events.Frame f) → ⊥
told_no_frame ways count (Err fault) f e = absurd cc
told_no_frame ways count (Ok beat) f e = absurd cc

told_no_opening : (ways : Ways) (count : ℕ) (read : Result Beat RecordFault) → (beat_told ways count read).event ≡ Ok events.Opened → ⊥
told_no_opening ways count (Err fault) e = absurd cc
told_no_opening ways count (Ok beat) e = absurd cc

beat_no_frame : (ways : Ways) (count : ℕ) (read : Result (List ℕ) ConnectionFault) (f : Frame) → (beat_heard ways count read).event ≡ Ok (events.Frame f) → ⊥
beat_no_frame ways count (Err fault) f e = absurd cc
beat_no_frame ways count (Ok body) f e = told_no_frame ways count (beat_of body) f e

beat_no_opening : (ways : Ways) (count : ℕ) (read : Result (List ℕ) ConnectionFault) → (beat_heard ways count read).event ≡ Ok events.Opened → ⊥
beat_no_opening ways count (Err fault) e = absurd cc
beat_no_opening ways count (Ok body) e = told_no_opening ways count (beat_of body) e

more_no_frame : (ways : Ways) (count byte : ℕ) (read : Result (List ℕ) ConnectionFault) (f : Frame) → (more_heard ways count byte read).event ≡ Ok (events.Frame f) → ⊥
more_no_frame ways count byte (Err fault) f e = absurd cc
more_no_frame ways count byte (Ok body) f e = absurd cc

on_more_no_frame : (v : Version) (ways : Ways) (byte : ℕ) (content : List ℕ) (f : Frame) → (on_more v ways byte content).event ≡ Ok (events.Frame f) → ⊥
on_more_no_frame First ways byte content f e = absurd cc
on_more_no_frame Second ways byte content f e = more_no_frame ways (length content - TAG_BYTES) byte (uncovered ways.reading (kind_of.More byte) content) f e

more_no_opening : (ways : Ways) (count byte : ℕ) (read : Result (List ℕ) ConnectionFault) → (more_heard ways count byte read).event ≡ Ok events.Opened → ⊥
more_no_opening ways count byte (Err fault) e = absurd cc
more_no_opening ways count byte (Ok body) e = absurd cc

on_more_no_opening : (v : Version) (ways : Ways) (byte : ℕ) (content : List ℕ) → (on_more v ways byte content).event ≡ Ok events.Opened → ⊥
on_more_no_opening First ways byte content e = absurd cc
on_more_no_opening Second ways byte content e = more_no_opening ways (length content - TAG_BYTES) byte (uncovered ways.reading (kind_of.More byte) content) e

-- a frame that comes is the body of a record that is coded as the next one of the other's way
pub frame_said : (key : List ℕ) (phase : Phase) (kind : Kind) (content : List ℕ) (f : Frame) → (stepped key phase kind content).event ≡ Ok (events.Frame f) → IsFrameSaid phase kind content f.bytes.items
unfolding stepped
frame_said key (phases.Greeting own) kind_of.Hello content f e = absurd (greeted_no_frame key own (of_version own (only_coded (hello_of content))) f e)
frame_said key (phases.Greeting own) kind_of.Proof content f e = absurd cc
frame_said key (phases.Greeting own) kind_of.Frame content f e = absurd cc
frame_said key (phases.Greeting own) kind_of.Beat content f e = absurd cc
frame_said key (phases.Greeting own) (kind_of.More byte) content f e = absurd cc
frame_said key (phases.Asked caller) kind content f e = absurd cc
frame_said key (phases.Proving theirs ways) kind_of.Hello content f e = absurd cc
frame_said key (phases.Proving theirs ways) kind_of.Proof content f e = absurd (proof_no_frame (not (eqb (length content) TAG_BYTES)) (bytes_eq content theirs.tag) ways f e)
frame_said key (phases.Proving theirs ways) kind_of.Frame content f e = absurd cc
frame_said key (phases.Proving theirs ways) kind_of.Beat content f e = absurd cc
frame_said key (phases.Proving theirs ways) (kind_of.More byte) content f e = absurd cc
frame_said key (phases.Open ways) kind_of.Hello content f e = absurd cc
frame_said key (phases.Open ways) kind_of.Proof content f e = absurd cc
frame_said key (phases.Open ways) kind_of.Frame content f e = record {
  ways = ways;
  phase_is = refl;
  kind_is = refl;
  text = covered_is ways.reading kind_of.Frame content f.bytes.items (frame_heard_is ways (length content - TAG_BYTES) (uncovered ways.reading kind_of.Frame content) f e);
}
frame_said key (phases.Open ways) kind_of.Beat content f e = absurd (beat_no_frame ways (length content - TAG_BYTES) (uncovered ways.reading kind_of.Beat content) f e)
frame_said key (phases.Open ways) (kind_of.More byte) content f e = absurd (on_more_no_frame ways.reading.version ways byte content f e)
frame_said key phases.Refused kind content f e = absurd cc
frame_said key (phases.Closed fault) kind content f e = absurd cc

-- a connection is opened by the proof that is awaited and by nothing else
pub opening_said : (key : List ℕ) (phase : Phase) (kind : Kind) (content : List ℕ) → (stepped key phase kind content).event ≡ Ok events.Opened → IsOpening phase kind content
unfolding stepped
opening_said key (phases.Greeting own) kind_of.Hello content e = absurd (greeted_no_opening key own (of_version own (only_coded (hello_of content))) e)
opening_said key (phases.Greeting own) kind_of.Proof content e = absurd cc
opening_said key (phases.Greeting own) kind_of.Frame content e = absurd cc
opening_said key (phases.Greeting own) kind_of.Beat content e = absurd cc
opening_said key (phases.Greeting own) (kind_of.More byte) content e = absurd cc
opening_said key (phases.Asked caller) kind content e = absurd cc
opening_said key (phases.Proving theirs ways) kind_of.Hello content e = absurd cc
opening_said key (phases.Proving theirs ways) kind_of.Proof content e = record {
  theirs = theirs;
  ways = ways;
  phase_is = refl;
  kind_is = refl;
  text = (bytes_eq-Decides content theirs.tag).0 (proof_opens (not (eqb (length content) TAG_BYTES)) (bytes_eq content theirs.tag) ways e);
}
opening_said key (phases.Proving theirs ways) kind_of.Frame content e = absurd cc
opening_said key (phases.Proving theirs ways) kind_of.Beat content e = absurd cc
opening_said key (phases.Proving theirs ways) (kind_of.More byte) content e = absurd cc
opening_said key (phases.Open ways) kind_of.Hello content e = absurd cc
opening_said key (phases.Open ways) kind_of.Proof content e = absurd cc
opening_said key (phases.Open ways) kind_of.Frame content e = absurd (frame_heard_no_opening ways (length content - TAG_BYTES) (uncovered ways.reading kind_of.Frame content) e)
opening_said key (phases.Open ways) kind_of.Beat content e = absurd (beat_no_opening ways (length content - TAG_BYTES) (uncovered ways.reading kind_of.Beat content) e)
opening_said key (phases.Open ways) (kind_of.More byte) content e = absurd (on_more_no_opening ways.reading.version ways byte content e)
opening_said key phases.Refused kind content e = absurd cc
opening_said key (phases.Closed fault) kind content e = absurd cc

-- the proof that is awaited opens it
pub proof_is_taken : (key : List ℕ) (own other : Role) (hellos : Hellos) → stepped key (proving key own other hellos) kind_of.Proof (proof_tag key other hellos) ≡ opened (ways_of key own other hellos)
unfolding stepped
proof_is_taken key own other hellos =
    let long : eqb (length (proof_tag key other hellos)) TAG_BYTES ≡ true = eq-eqb _ _ (hmac_length _ _) in
    let same : bytes_eq (proof_tag key other hellos) (proof_tag key other hellos) ≡ true = (bytes_eq-Decides (proof_tag key other hellos) (proof_tag key other hellos)).1 refl in
    rw (long, same) refl

frame_is_heard : (fits : Bool) (ways : Ways) (count : ℕ) (f : Frame) → fits ≡ true → cond fits (heard ways count (events.Frame f)) (closed (faults.Record BadLength)) ≡ heard ways count (events.Frame f)
frame_is_heard true ways count f e = refl
frame_is_heard false ways count f e = absurd cc

frame_fits : (bytes : List ℕ) → IsFrame bytes → is_frame bytes ≡ true
frame_fits bytes fits = rw (le-leb LEAST_FRAME (length bytes) fits.least, le-leb (length bytes) MOST_FRAME fits.most) refl

-- a frame that is coded as the next record of the other's way comes
pub frame_is_taken : (key : List ℕ) (ways : Ways) (f : Frame) → ways.reading.number < LAST_NUMBER → IsFrame f.bytes.items
    → stepped key (phases.Open ways) kind_of.Frame (covered ways.reading kind_of.Frame f.bytes.items) ≡ heard ways (length f.bytes.items) (events.Frame f)
unfolding stepped
frame_is_taken key ways f number fits =
    let body : List ℕ = f.bytes.items in
    let size : length (covered ways.reading kind_of.Frame body) - TAG_BYTES ≡ length body = omega (arith, covered_length ways.reading kind_of.Frame body) in
    ap (λ (n : ℕ). frame_heard ways n (uncovered ways.reading kind_of.Frame (covered ways.reading kind_of.Frame body))) size
    ∙ ap (λ (read : Result (List ℕ) ConnectionFault). frame_heard ways (length body) read) (covered_again ways.reading kind_of.Frame body number)
    ∙ frame_is_heard (is_frame body) ways (length body) f (frame_fits body fits)

-- ---- beats

greeted_no_beat : (key : List ℕ) (own theirs : Option Hello) (b : Beat) → (greeted key own theirs).event ≡ Ok (events.Beat b) → ⊥
greeted_no_beat key None None b e = absurd cc
greeted_no_beat key (Some own) None b e = absurd cc
greeted_no_beat key None (Some h) b e = absurd cc
greeted_no_beat key (Some own) (Some h) b e = absurd cc

proof_no_beat : (long right : Bool) (ways : Ways) (b : Beat) → (cond long (closed (faults.Record BadLength)) (cond right (opened ways) (closed faults.WrongProof))).event ≡ Ok (events.Beat b) → ⊥
proof_no_beat true right ways b e = absurd cc
proof_no_beat false true ways b e = absurd cc
proof_no_beat false false ways b e = absurd cc

fits_no_beat : (fits : Bool) (ways : Ways) (count : ℕ) (body : List ℕ) (b : Beat)
    → (cond fits (heard ways count (events.Frame (record { bytes = record { items = body } }))) (closed (faults.Record BadLength))).event ≡ Ok (events.Beat b) → ⊥
fits_no_beat true ways count body b e = absurd cc
fits_no_beat false ways count body b e = absurd cc

frame_no_beat : (ways : Ways) (count : ℕ) (read : Result (List ℕ) ConnectionFault) (b : Beat) → (frame_heard ways count read).event ≡ Ok (events.Beat b) → ⊥
frame_no_beat ways count (Err fault) b e = absurd cc
frame_no_beat ways count (Ok body) b e = fits_no_beat (is_frame body) ways count body b e

told_is : (ways : Ways) (count : ℕ) (read : Result Beat RecordFault) (b : Beat) → (beat_told ways count read).event ≡ Ok (events.Beat b) → read ≡ Ok b
told_is ways count (Err fault) b e = absurd cc
told_is ways count (Ok beat) b e =
    let same : beat ≡ b = cc in
    ap (λ (x : Beat). let r : Result Beat RecordFault = Ok x in r) same

beat_heard_is : (ways : Ways) (count : ℕ) (read : Result (List ℕ) ConnectionFault) (b : Beat) → (beat_heard ways count read).event ≡ Ok (events.Beat b)
    → (body : List ℕ) × (read ≡ Ok body) × (beat_of body ≡ Ok b)
beat_heard_is ways count (Err fault) b e = absurd cc
beat_heard_is ways count (Ok body) b e = (body, refl, told_is ways count (beat_of body) b e)

beat_by : (ways : Ways) (content : List ℕ) (b : Beat) → (body : List ℕ) × (uncovered ways.reading kind_of.Beat content ≡ Ok body) × (beat_of body ≡ Ok b) → IsBeatSaid (phases.Open ways) kind_of.Beat content b
beat_by ways content b x = record {
  ways = ways;
  body = x.0;
  phase_is = refl;
  kind_is = refl;
  text = covered_is ways.reading kind_of.Beat content x.0 x.1;
  beat_is = x.2;
}

more_no_beat : (ways : Ways) (count byte : ℕ) (read : Result (List ℕ) ConnectionFault) (b : Beat) → (more_heard ways count byte read).event ≡ Ok (events.Beat b) → ⊥
more_no_beat ways count byte (Err fault) b e = absurd cc
more_no_beat ways count byte (Ok body) b e = absurd cc

on_more_no_beat : (v : Version) (ways : Ways) (byte : ℕ) (content : List ℕ) (b : Beat) → (on_more v ways byte content).event ≡ Ok (events.Beat b) → ⊥
on_more_no_beat First ways byte content b e = absurd cc
on_more_no_beat Second ways byte content b e = more_no_beat ways (length content - TAG_BYTES) byte (uncovered ways.reading (kind_of.More byte) content) b e

-- a beat that comes is that of a record that is coded as the next one of the other's way
pub beat_said : (key : List ℕ) (phase : Phase) (kind : Kind) (content : List ℕ) (b : Beat) → (stepped key phase kind content).event ≡ Ok (events.Beat b) → IsBeatSaid phase kind content b
unfolding stepped
beat_said key (phases.Greeting own) kind_of.Hello content b e = absurd (greeted_no_beat key own (of_version own (only_coded (hello_of content))) b e)
beat_said key (phases.Greeting own) kind_of.Proof content b e = absurd cc
beat_said key (phases.Greeting own) kind_of.Frame content b e = absurd cc
beat_said key (phases.Greeting own) kind_of.Beat content b e = absurd cc
beat_said key (phases.Greeting own) (kind_of.More byte) content b e = absurd cc
beat_said key (phases.Asked caller) kind content b e = absurd cc
beat_said key (phases.Proving theirs ways) kind_of.Hello content b e = absurd cc
beat_said key (phases.Proving theirs ways) kind_of.Proof content b e = absurd (proof_no_beat (not (eqb (length content) TAG_BYTES)) (bytes_eq content theirs.tag) ways b e)
beat_said key (phases.Proving theirs ways) kind_of.Frame content b e = absurd cc
beat_said key (phases.Proving theirs ways) kind_of.Beat content b e = absurd cc
beat_said key (phases.Proving theirs ways) (kind_of.More byte) content b e = absurd cc
beat_said key (phases.Open ways) kind_of.Hello content b e = absurd cc
beat_said key (phases.Open ways) kind_of.Proof content b e = absurd cc
beat_said key (phases.Open ways) kind_of.Frame content b e = absurd (frame_no_beat ways (length content - TAG_BYTES) (uncovered ways.reading kind_of.Frame content) b e)
beat_said key (phases.Open ways) kind_of.Beat content b e = beat_by ways content b (beat_heard_is ways (length content - TAG_BYTES) (uncovered ways.reading kind_of.Beat content) b e)
beat_said key (phases.Open ways) (kind_of.More byte) content b e = absurd (on_more_no_beat ways.reading.version ways byte content b e)
beat_said key phases.Refused kind content b e = absurd cc
beat_said key (phases.Closed fault) kind content b e = absurd cc

-- a beat that is coded as the next record of the other's way comes
pub beat_is_taken : (key : List ℕ) (ways : Ways) (b : Beat) → ways.reading.number < LAST_NUMBER → IsBeat b
    → stepped key (phases.Open ways) kind_of.Beat (covered ways.reading kind_of.Beat (beat_text b)) ≡ heard ways (length (beat_text b)) (events.Beat b)
unfolding stepped
beat_is_taken key ways b number fits =
    let body : List ℕ = beat_text b in
    let size : length (covered ways.reading kind_of.Beat body) - TAG_BYTES ≡ length body = omega (arith, covered_length ways.reading kind_of.Beat body) in
    ap (λ (n : ℕ). beat_heard ways n (uncovered ways.reading kind_of.Beat (covered ways.reading kind_of.Beat body))) size
    ∙ ap (λ (read : Result (List ℕ) ConnectionFault). beat_heard ways (length body) read) (covered_again ways.reading kind_of.Beat body number)
    ∙ ap (λ (read : Result Beat RecordFault). beat_told ways (length body) read) (beat_again b fits)

-- ---- records of further kinds

greeted_no_more : (key : List ℕ) (own theirs : Option Hello) (m : More) → (greeted key own theirs).event ≡ Ok (events.More m) → ⊥
greeted_no_more key None None m e = absurd cc
greeted_no_more key (Some own) None m e = absurd cc
greeted_no_more key None (Some h) m e = absurd cc
greeted_no_more key (Some own) (Some h) m e = absurd cc

proof_no_more : (long right : Bool) (ways : Ways) (m : More) → (cond long (closed (faults.Record BadLength)) (cond right (opened ways) (closed faults.WrongProof))).event ≡ Ok (events.More m) → ⊥
proof_no_more true right ways m e = absurd cc
proof_no_more false true ways m e = absurd cc
proof_no_more false false ways m e = absurd cc

fits_no_more : (fits : Bool) (ways : Ways) (count : ℕ) (body : List ℕ) (m : More)
    → (cond fits (heard ways count (events.Frame (record { bytes = record { items = body } }))) (closed (faults.Record BadLength))).event ≡ Ok (events.More m) → ⊥
fits_no_more true ways count body m e = absurd cc
fits_no_more false ways count body m e = absurd cc

frame_no_more : (ways : Ways) (count : ℕ) (read : Result (List ℕ) ConnectionFault) (m : More) → (frame_heard ways count read).event ≡ Ok (events.More m) → ⊥
frame_no_more ways count (Err fault) m e = absurd cc
frame_no_more ways count (Ok body) m e = fits_no_more (is_frame body) ways count body m e

told_no_more : (ways : Ways) (count : ℕ) (read : Result Beat RecordFault) (m : More) → (beat_told ways count read).event ≡ Ok (events.More m) → ⊥
told_no_more ways count (Err fault) m e = absurd cc
told_no_more ways count (Ok beat) m e = absurd cc

beat_no_more : (ways : Ways) (count : ℕ) (read : Result (List ℕ) ConnectionFault) (m : More) → (beat_heard ways count read).event ≡ Ok (events.More m) → ⊥
beat_no_more ways count (Err fault) m e = absurd cc
beat_no_more ways count (Ok body) m e = told_no_more ways count (beat_of body) m e

same_more : (a b : More) → ◌≡◌ {A = Told} (Ok (events.More a)) (Ok (events.More b)) → a ≡ b
same_more a b e = cc

abbrev more_of : ℕ → List ℕ → More
more_of byte body = record { kind = byte; bytes = record { items = body } }

more_heard_is : (ways : Ways) (count byte : ℕ) (read : Result (List ℕ) ConnectionFault) (m : More) → (more_heard ways count byte read).event ≡ Ok (events.More m) → (read ≡ Ok m.bytes.items) × (byte ≡ m.kind)
more_heard_is ways count byte (Err fault) m e = absurd cc
more_heard_is ways count byte (Ok body) m e =
    let same : more_of byte body ≡ m = same_more (more_of byte body) m e in
    (ap (λ (x : More). let r : Result (List ℕ) ConnectionFault = Ok x.bytes.items in r) same, ap (λ (x : More). x.kind) same)

on_more_is : (v : Version) (ways : Ways) (byte : ℕ) (content : List ℕ) (m : More) → (on_more v ways byte content).event ≡ Ok (events.More m)
    → (v ≡ Second) × (uncovered ways.reading (kind_of.More byte) content ≡ Ok m.bytes.items) × (byte ≡ m.kind)
on_more_is First ways byte content m e = absurd cc
on_more_is Second ways byte content m e =
    let is = more_heard_is ways (length content - TAG_BYTES) byte (uncovered ways.reading (kind_of.More byte) content) m e in
    (refl, is.0, is.1)

more_by : (ways : Ways) (byte : ℕ) (content : List ℕ) (m : More) → (ways.reading.version ≡ Second) × (uncovered ways.reading (kind_of.More byte) content ≡ Ok m.bytes.items) × (byte ≡ m.kind)
    → IsMoreSaid (phases.Open ways) (kind_of.More byte) content m
more_by ways byte content m (version, read, kind) = record {
  ways = ways;
  phase_is = refl;
  version = version;
  kind_is = ap (λ (b : ℕ). kind_of.More b) kind;
  text = covered_is ways.reading (kind_of.More byte) content m.bytes.items read ∙ ap (λ (b : ℕ). covered ways.reading (kind_of.More b) m.bytes.items) kind;
}

-- one that comes is that of a record that is coded as the next one of the other's way, behind Hellos of the second version
pub more_said : (key : List ℕ) (phase : Phase) (kind : Kind) (content : List ℕ) (m : More) → (stepped key phase kind content).event ≡ Ok (events.More m) → IsMoreSaid phase kind content m
unfolding stepped
more_said key (phases.Greeting own) kind_of.Hello content m e = absurd (greeted_no_more key own (of_version own (only_coded (hello_of content))) m e)
more_said key (phases.Greeting own) kind_of.Proof content m e = absurd cc
more_said key (phases.Greeting own) kind_of.Frame content m e = absurd cc
more_said key (phases.Greeting own) kind_of.Beat content m e = absurd cc
more_said key (phases.Greeting own) (kind_of.More byte) content m e = absurd cc
more_said key (phases.Asked caller) kind content m e = absurd cc
more_said key (phases.Proving theirs ways) kind_of.Hello content m e = absurd cc
more_said key (phases.Proving theirs ways) kind_of.Proof content m e = absurd (proof_no_more (not (eqb (length content) TAG_BYTES)) (bytes_eq content theirs.tag) ways m e)
more_said key (phases.Proving theirs ways) kind_of.Frame content m e = absurd cc
more_said key (phases.Proving theirs ways) kind_of.Beat content m e = absurd cc
more_said key (phases.Proving theirs ways) (kind_of.More byte) content m e = absurd cc
more_said key (phases.Open ways) kind_of.Hello content m e = absurd cc
more_said key (phases.Open ways) kind_of.Proof content m e = absurd cc
more_said key (phases.Open ways) kind_of.Frame content m e = absurd (frame_no_more ways (length content - TAG_BYTES) (uncovered ways.reading kind_of.Frame content) m e)
more_said key (phases.Open ways) kind_of.Beat content m e = absurd (beat_no_more ways (length content - TAG_BYTES) (uncovered ways.reading kind_of.Beat content) m e)
more_said key (phases.Open ways) (kind_of.More byte) content m e = more_by ways byte content m (on_more_is ways.reading.version ways byte content m e)
more_said key phases.Refused kind content m e = absurd cc
more_said key (phases.Closed fault) kind content m e = absurd cc

-- one that is coded as the next record of the other's way comes
pub more_is_taken : (key : List ℕ) (ways : Ways) (m : More) → ways.reading.version ≡ Second → ways.reading.number < LAST_NUMBER
    → stepped key (phases.Open ways) (kind_of.More m.kind) (covered ways.reading (kind_of.More m.kind) m.bytes.items) ≡ heard ways (length m.bytes.items) (events.More m)
unfolding stepped
more_is_taken key ways m version number =
    let body : List ℕ = m.bytes.items in
    let content : List ℕ = covered ways.reading (kind_of.More m.kind) body in
    let size : length content - TAG_BYTES ≡ length body = omega (arith, covered_length ways.reading (kind_of.More m.kind) body) in
    ap (λ (v : Version). on_more v ways m.kind content) version
    ∙ ap (λ (n : ℕ). more_heard ways n m.kind (uncovered ways.reading (kind_of.More m.kind) content)) size
    ∙ ap (λ (read : Result (List ℕ) ConnectionFault). more_heard ways (length body) m.kind read) (covered_again ways.reading (kind_of.More m.kind) body number)

-- behind Hellos of the first version none does
pub more_is_refused : (key : List ℕ) (ways : Ways) (byte : ℕ) (content : List ℕ) → ways.reading.version ≡ First → stepped key (phases.Open ways) (kind_of.More byte) content ≡ closed (faults.Record BadKind)
unfolding stepped
more_is_refused key ways byte content version = ap (λ (v : Version). on_more v ways byte content) version

-- ---- a connection that stays open goes on by one number

abbrev pub next_ways : Ways → ℕ → Ways
next_ways w count = record { reading = after w.reading count; writing = w.writing }

fits_goes : (fits : Bool) (w v : Ways) (count : ℕ) (f : Frame) → (cond fits (heard w count (events.Frame f)) (closed (faults.Record BadLength))).phase ≡ phases.Open v → v ≡ next_ways w count
fits_goes true w v count f e =
    let same : next_ways w count ≡ v = cc in
    sym same
fits_goes false w v count f e = absurd cc

frame_goes : (w v : Ways) (count : ℕ) (read : Result (List ℕ) ConnectionFault) → (frame_heard w count read).phase ≡ phases.Open v → v ≡ next_ways w count
frame_goes w v count (Err fault) e = absurd cc
frame_goes w v count (Ok body) e = fits_goes (is_frame body) w v count (record { bytes = record { items = body } }) e

told_goes : (w v : Ways) (count : ℕ) (read : Result Beat RecordFault) → (beat_told w count read).phase ≡ phases.Open v → v ≡ next_ways w count
told_goes w v count (Err fault) e = absurd cc
told_goes w v count (Ok beat) e =
    let same : next_ways w count ≡ v = cc in
    sym same

beat_goes : (w v : Ways) (count : ℕ) (read : Result (List ℕ) ConnectionFault) → (beat_heard w count read).phase ≡ phases.Open v → v ≡ next_ways w count
beat_goes w v count (Err fault) e = absurd cc
beat_goes w v count (Ok body) e = told_goes w v count (beat_of body) e

more_goes : (w v : Ways) (count byte : ℕ) (read : Result (List ℕ) ConnectionFault) → (more_heard w count byte read).phase ≡ phases.Open v → v ≡ next_ways w count
more_goes w v count byte (Err fault) e = absurd cc
more_goes w v count byte (Ok body) e =
    let same : next_ways w count ≡ v = cc in
    sym same

on_more_goes : (version : Version) (w v : Ways) (byte : ℕ) (content : List ℕ) → (on_more version w byte content).phase ≡ phases.Open v → v ≡ next_ways w (length content - TAG_BYTES)
on_more_goes First w v byte content e = absurd cc
on_more_goes Second w v byte content e = more_goes w v (length content - TAG_BYTES) byte (uncovered w.reading (kind_of.More byte) content) e

pub open_goes_on : (key : List ℕ) (w v : Ways) (kind : Kind) (content : List ℕ) → (stepped key (phases.Open w) kind content).phase ≡ phases.Open v → v ≡ next_ways w (length content - TAG_BYTES)
unfolding stepped
open_goes_on key w v kind_of.Hello content e = absurd cc
open_goes_on key w v kind_of.Proof content e = absurd cc
open_goes_on key w v kind_of.Frame content e = frame_goes w v (length content - TAG_BYTES) (uncovered w.reading kind_of.Frame content) e
open_goes_on key w v kind_of.Beat content e = beat_goes w v (length content - TAG_BYTES) (uncovered w.reading kind_of.Beat content) e
open_goes_on key w v (kind_of.More byte) content e = on_more_goes w.reading.version w v byte content e

-- and what keeps it open is coded

frame_coded : (w v : Ways) (count : ℕ) (read : Result (List ℕ) ConnectionFault) → (frame_heard w count read).phase ≡ phases.Open v → (body : List ℕ) × (read ≡ Ok body)
frame_coded w v count (Err fault) e = absurd cc
frame_coded w v count (Ok body) e = (body, refl)

beat_coded : (w v : Ways) (count : ℕ) (read : Result (List ℕ) ConnectionFault) → (beat_heard w count read).phase ≡ phases.Open v → (body : List ℕ) × (read ≡ Ok body)
beat_coded w v count (Err fault) e = absurd cc
beat_coded w v count (Ok body) e = (body, refl)

more_coded : (w v : Ways) (count byte : ℕ) (read : Result (List ℕ) ConnectionFault) → (more_heard w count byte read).phase ≡ phases.Open v → (body : List ℕ) × (read ≡ Ok body)
more_coded w v count byte (Err fault) e = absurd cc
more_coded w v count byte (Ok body) e = (body, refl)

on_more_coded : (version : Version) (w v : Ways) (byte : ℕ) (content : List ℕ) → (on_more version w byte content).phase ≡ phases.Open v → (body : List ℕ) × (uncovered w.reading (kind_of.More byte) content ≡ Ok body)
on_more_coded First w v byte content e = absurd cc
on_more_coded Second w v byte content e = more_coded w v (length content - TAG_BYTES) byte (uncovered w.reading (kind_of.More byte) content) e

pub open_by_codes : (key : List ℕ) (w v : Ways) (kind : Kind) (content : List ℕ) → (stepped key (phases.Open w) kind content).phase ≡ phases.Open v → (body : List ℕ) × (content ≡ covered w.reading kind body)
unfolding stepped
open_by_codes key w v kind_of.Hello content e = absurd cc
open_by_codes key w v kind_of.Proof content e = absurd cc
open_by_codes key w v kind_of.Frame content e =
    let read = frame_coded w v (length content - TAG_BYTES) (uncovered w.reading kind_of.Frame content) e in
    (read.0, covered_is w.reading kind_of.Frame content read.0 read.1)
open_by_codes key w v kind_of.Beat content e =
    let read = beat_coded w v (length content - TAG_BYTES) (uncovered w.reading kind_of.Beat content) e in
    (read.0, covered_is w.reading kind_of.Beat content read.0 read.1)
open_by_codes key w v (kind_of.More byte) content e =
    let read = on_more_coded w.reading.version w v byte content e in
    (read.0, covered_is w.reading (kind_of.More byte) content read.0 read.1)

-- ---- what opens a connection is told so

abbrev OpensSo : Step → Type 0
OpensSo step = (ways : Ways) → step.phase ≡ phases.Open ways → step.event ≡ Ok events.Opened

greeted_opens_so : (key : List ℕ) (own theirs : Option Hello) → OpensSo (greeted key own theirs)
greeted_opens_so key None None ways e = absurd cc
greeted_opens_so key (Some own) None ways e = absurd cc
greeted_opens_so key None (Some hello) ways e = absurd cc
greeted_opens_so key (Some own) (Some hello) ways e = absurd cc

proof_opens_so : (long right : Bool) (w : Ways) → OpensSo (cond long (closed (faults.Record BadLength)) (cond right (opened w) (closed faults.WrongProof)))
proof_opens_so true right w ways e = absurd cc
proof_opens_so false true w ways e = refl
proof_opens_so false false w ways e = absurd cc

pub opens_so : (key : List ℕ) (phase : Phase) (kind : Kind) (content : List ℕ) (ways : Ways) → (stepped key phase kind content).phase ≡ phases.Open ways → IsOpen phase ⊎ ((stepped key phase kind content).event ≡ Ok events.Opened)
unfolding stepped
opens_so key (phases.Greeting own) kind_of.Hello content ways e = inr (greeted_opens_so key own (of_version own (only_coded (hello_of content))) ways e)
opens_so key (phases.Greeting own) kind_of.Proof content ways e = absurd cc
opens_so key (phases.Greeting own) kind_of.Frame content ways e = absurd cc
opens_so key (phases.Greeting own) kind_of.Beat content ways e = absurd cc
opens_so key (phases.Greeting own) (kind_of.More byte) content ways e = absurd cc
opens_so key (phases.Asked caller) kind content ways e = absurd cc
opens_so key phases.Refused kind content ways e = absurd cc
opens_so key (phases.Proving theirs w) kind_of.Hello content ways e = absurd cc
opens_so key (phases.Proving theirs w) kind_of.Proof content ways e = inr (proof_opens_so (not (eqb (length content) TAG_BYTES)) (bytes_eq content theirs.tag) w ways e)
opens_so key (phases.Proving theirs w) kind_of.Frame content ways e = absurd cc
opens_so key (phases.Proving theirs w) kind_of.Beat content ways e = absurd cc
opens_so key (phases.Proving theirs w) (kind_of.More byte) content ways e = absurd cc
opens_so key (phases.Open w) kind content ways e = inl (w, refl)
opens_so key (phases.Closed fault) kind content ways e = absurd cc
