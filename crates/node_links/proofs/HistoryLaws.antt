-- What an open connection goes by, shown over all that happens to one.
use Rattle.std.proofs.Common.{◌≡◌, inl, inr, ℕ, Bool, true, false, if◌then◌else◌, List, [], ◌∷◌, Option, Some, None, Result, Ok, Err, refl, sym, ap, subst, ◌∙◌}
use Rattle.peer_codes.specs.declared.fault.RecordFault.TheVariants.{BadKind, BadHello}
use Rattle.peer_codes.specs.declared.version.Version.{Version}
use Rattle.peer_codes.specs.declared.version.Version.TheVariants.{First, Second}
use Rattle.peer_codes.specs.declared.more.More.{More}
use Rattle.peer_codes.specs.declared.fault.RecordFault.{RecordFault}
use Rattle.peer_codes.specs.declared.beat.Beat.{Beat}
use Rattle.peer_codes.specs.declared.frame.Frame.{Frame}
use Rattle.peer_codes.specs.declared.hello.Hello.{Hello}
use Rattle.peer_codes.specs.declared.records.Record.{Record}
use Rattle.peer_codes.specs.declared.records.Record.TheVariants as record_of
use Rattle.node_links.specs.declared.own.Own.{Own}
use Rattle.node_links.specs.declared.own.Met.{Met}
use Rattle.node_links.specs.declared.peer_fault.PeerFault.{PeerFault}
use Rattle.node_links.specs.declared.further.Further.{Further}
use Rattle.node_links.specs.declared.peer_fault.PeerFault.TheVariants as faults
use Rattle.node_links.specs.declared.heard.Heard.{Heard}
use Rattle.node_links.specs.declared.heard.Heard.TheVariants as heards
use Rattle.node_links.specs.declared.phase.Phase.{Phase}
use Rattle.node_links.specs.declared.phase.Phase.TheVariants as phases
use Rattle.node_links.specs.declared.plain_connection.PlainConnection.{PlainConnection}
use Rattle.node_links.specs.Judging.{judged}
use Rattle.node_links.specs.Steps.{closed, asked, is_version, stepped, step_by, opened, settled}
use Rattle.node_links.specs.Telling.{read_by, read_behind}
use Rattle.node_links.specs.Connections.{ReadsOrWaits, Next}
use Rattle.node_links.specs.Histories.{Happening, Came, Judged, phase_after, phase_behind, Happened, HelloCame, IsTaken, HasRead}
use Rattle.node_links.proofs.Stepping.{Told, greeted_phase, greeted_heard, further_phase, further_heard, same_is}

-- ---- all that happens

-- what holds of each phase that a connection comes to
abbrev IsSound : List Happening → Phase → Type 0
IsSound before (phases.Greeting mine) = Unit {0}
IsSound before (phases.Asked hello) = Happened (HelloCame hello) before
IsSound before (phases.Open hello) = IsTaken hello before
IsSound before (phases.Closed fault) = Unit {0}

stepped_sound : (before : List Happening) (read : Result Record RecordFault) (phase : Phase) (said : Record) → read ≡ Ok said → IsSound before phase → IsSound (Came read ∷ before) (stepped phase said).phase
stepped_sound before read (phases.Greeting mine) (record_of.Hello hello) is sound = greeted_phase (is_version mine hello.version) (λ (p : Phase). IsSound (Came read ∷ before) p) hello (λ same. inl is) (λ fault. tt)
stepped_sound before read (phases.Greeting mine) (record_of.Proof proof) is sound = tt
stepped_sound before read (phases.Greeting mine) (record_of.More more) is sound = tt
stepped_sound before read (phases.Greeting mine) (record_of.Frame frame) is sound = tt
stepped_sound before read (phases.Greeting mine) (record_of.Beat beat) is sound = tt
stepped_sound before read (phases.Asked hello) said is sound = tt
stepped_sound before read (phases.Open other) (record_of.Hello hello) is sound = tt
stepped_sound before read (phases.Open other) (record_of.Proof proof) is sound = tt
stepped_sound before read (phases.Open other) (record_of.More more) is sound = further_phase (read_behind other more) (λ (p : Phase). IsSound (Came read ∷ before) p) other (λ further e. inr sound) (λ fault. tt)
stepped_sound before read (phases.Open other) (record_of.Frame frame) is sound = inr sound
stepped_sound before read (phases.Open other) (record_of.Beat beat) is sound = inr sound
stepped_sound before read (phases.Closed fault) said is sound = tt

came_sound : (before : List Happening) (phase : Phase) (read : Result Record RecordFault) → IsSound before phase → IsSound (Came read ∷ before) (step_by phase read).phase
came_sound before phase (Err fault) sound = tt
came_sound before phase (Ok said) sound = stepped_sound before (Ok said) phase said refl sound

opened_sound : (before : List Happening) (own : Own) (dialled : Option ℕ) (met : List Met) (hello : Hello) (verdict : Result (Unit {0}) PeerFault) → judged own dialled met hello ≡ verdict
    → Happened (HelloCame hello) before → IsSound (Judged own dialled met ∷ before) (opened verdict hello)
opened_sound before own dialled met hello (Ok done) is came = inl (is, came)
opened_sound before own dialled met hello (Err fault) is came = tt

settled_sound : (before : List Happening) (own : Own) (dialled : Option ℕ) (met : List Met) (phase : Phase) → IsSound before phase → IsSound (Judged own dialled met ∷ before) (settled own dialled met phase)
settled_sound before own dialled met (phases.Greeting mine) sound = tt
settled_sound before own dialled met (phases.Asked hello) sound = opened_sound before own dialled met hello (judged own dialled met hello) refl sound
settled_sound before own dialled met (phases.Open other) sound = inr sound
settled_sound before own dialled met (phases.Closed fault) sound = tt

sound : (mine : Option Version) (before : List Happening) → IsSound before (phase_behind mine before)
sound mine [] = tt
sound mine (Came read ∷ before) = came_sound before (phase_behind mine before) read (sound mine before)
sound mine (Judged own dialled met ∷ before) = settled_sound before own dialled met (phase_behind mine before) (sound mine before)

pub open_is_taken : (mine : Option Version) (before : List Happening) (hello : Hello) → phase_behind mine before ≡ phases.Open hello → IsTaken hello before
open_is_taken mine before hello e = subst (λ (phase : Phase). IsSound before phase) e (sound mine before)

-- ---- versions

-- what holds of each phase that a connection comes to which this side dialled in this version
abbrev IsOf : Version → Phase → Type 0
IsOf mine (phases.Greeting said) = said ≡ Some mine
IsOf mine (phases.Asked hello) = hello.version ≡ mine
IsOf mine (phases.Open hello) = hello.version ≡ mine
IsOf mine (phases.Closed fault) = Unit {0}

greeted_of : (mine : Version) (said : Option Version) (hello : Hello) → said ≡ Some mine → IsOf mine (stepped (phases.Greeting said) (record_of.Hello hello)).phase
greeted_of mine said hello e =
    subst (λ (s : Option Version). IsOf mine (stepped (phases.Greeting s) (record_of.Hello hello)).phase) (sym e)
    (greeted_phase (is_version (Some mine) hello.version) (λ (p : Phase). IsOf mine p) hello (λ same. same_is mine hello.version same) (λ fault. tt))

stepped_of : (mine : Version) (phase : Phase) (said : Record) → IsOf mine phase → IsOf mine (stepped phase said).phase
stepped_of mine (phases.Greeting own) (record_of.Hello hello) is = greeted_of mine own hello is
stepped_of mine (phases.Greeting own) (record_of.Proof proof) is = tt
stepped_of mine (phases.Greeting own) (record_of.More more) is = tt
stepped_of mine (phases.Greeting own) (record_of.Frame frame) is = tt
stepped_of mine (phases.Greeting own) (record_of.Beat beat) is = tt
stepped_of mine (phases.Asked hello) said is = tt
stepped_of mine (phases.Open other) (record_of.Hello hello) is = tt
stepped_of mine (phases.Open other) (record_of.Proof proof) is = tt
stepped_of mine (phases.Open other) (record_of.More more) is = further_phase (read_behind other more) (λ (p : Phase). IsOf mine p) other (λ further e. is) (λ fault. tt)
stepped_of mine (phases.Open other) (record_of.Frame frame) is = is
stepped_of mine (phases.Open other) (record_of.Beat beat) is = is
stepped_of mine (phases.Closed fault) said is = tt

came_of : (mine : Version) (phase : Phase) (read : Result Record RecordFault) → IsOf mine phase → IsOf mine (step_by phase read).phase
came_of mine phase (Err fault) is = tt
came_of mine phase (Ok said) is = stepped_of mine phase said is

opened_of : (mine : Version) (hello : Hello) (verdict : Result (Unit {0}) PeerFault) → hello.version ≡ mine → IsOf mine (opened verdict hello)
opened_of mine hello (Ok done) is = is
opened_of mine hello (Err fault) is = tt

settled_of : (mine : Version) (own : Own) (dialled : Option ℕ) (met : List Met) (phase : Phase) → IsOf mine phase → IsOf mine (settled own dialled met phase)
settled_of mine own dialled met (phases.Greeting said) is = is
settled_of mine own dialled met (phases.Asked hello) is = opened_of mine hello (judged own dialled met hello) is
settled_of mine own dialled met (phases.Open other) is = is
settled_of mine own dialled met (phases.Closed fault) is = tt

all_of : (mine : Version) (before : List Happening) → IsOf mine (phase_behind (Some mine) before)
all_of mine [] = refl
all_of mine (Came read ∷ before) = came_of mine (phase_behind (Some mine) before) read (all_of mine before)
all_of mine (Judged own dialled met ∷ before) = settled_of mine own dialled met (phase_behind (Some mine) before) (all_of mine before)

pub open_is_of_version : (mine : Version) (before : List Happening) (hello : Hello) → phase_behind (Some mine) before ≡ phases.Open hello → hello.version ≡ mine
open_is_of_version mine before hello e = subst (λ (phase : Phase). IsOf mine phase) e (all_of mine before)

-- ---- calls

reads : (old : PlainConnection) (result : Option (Result Heard PeerFault)) (new : PlainConnection) → ReadsOrWaits old result new → HasRead old new
reads old None new h = inl h.1
reads old (Some told) new h = inr (h.read, (h.front, ap (λ (c : PlainConnection). c.phase) h.others))

next_by : (phase : Phase) (old : PlainConnection) (result : Option (Result Heard PeerFault)) (new : PlainConnection) → Next phase old result new → HasRead old new
next_by (phases.Asked hello) old result new h = inl h.1
next_by (phases.Closed fault) old result new h = inl h.1
next_by (phases.Greeting mine) old result new h = reads old result new h
next_by (phases.Open other) old result new h = reads old result new h

pub next_happens : (old new : PlainConnection) (result : Option (Result Heard PeerFault)) → Next old.phase old result new → HasRead old new
next_happens old new result h = next_by old.phase old result new h

pub settle_happens : (own : Own) (dialled : Option ℕ) (met : List Met) (phase : Phase) → settled own dialled met phase ≡ phase_after phase (Judged own dialled met)
settle_happens own dialled met phase = refl

-- ---- frames

abbrev IsOfOpen : Phase → Result Record RecordFault → Frame → Type 0
IsOfOpen phase read frame = (read ≡ Ok (record_of.Frame frame)) × ((other : Hello) × (phase ≡ phases.Open other))

frame_is : (a b : Frame) → ◌≡◌ {A = Told} (Ok (heards.Frame a)) (Ok (heards.Frame b)) → a ≡ b
frame_is a b e = cc

stepped_frame : (phase : Phase) (said : Record) (frame : Frame) → (stepped phase said).heard ≡ Ok (heards.Frame frame) → IsOfOpen phase (Ok said) frame
stepped_frame (phases.Greeting mine) (record_of.Hello hello) frame e =
    absurd (greeted_heard (is_version mine hello.version) (λ (t : Told). t ≡ Ok (heards.Frame frame) → ⊥) hello (λ f. absurd cc) (λ fault f. absurd cc) e)
stepped_frame (phases.Greeting mine) (record_of.Proof proof) frame e = absurd cc
stepped_frame (phases.Greeting mine) (record_of.More more) frame e = absurd cc
stepped_frame (phases.Greeting mine) (record_of.Frame came) frame e = absurd cc
stepped_frame (phases.Greeting mine) (record_of.Beat beat) frame e = absurd cc
stepped_frame (phases.Asked hello) said frame e = absurd cc
stepped_frame (phases.Open other) (record_of.Hello hello) frame e = absurd cc
stepped_frame (phases.Open other) (record_of.Proof proof) frame e = absurd cc
stepped_frame (phases.Open other) (record_of.More more) frame e =
    absurd (further_heard (read_behind other more) (λ (t : Told). t ≡ Ok (heards.Frame frame) → ⊥) other (λ further read f. absurd cc) (λ fault f. absurd cc) e)
stepped_frame (phases.Open other) (record_of.Frame came) frame e = (ap (λ (f : Frame). let r : Result Record RecordFault = Ok (record_of.Frame f) in r) (frame_is came frame e), (other, refl))
stepped_frame (phases.Open other) (record_of.Beat beat) frame e = absurd cc
stepped_frame (phases.Closed fault) said frame e = absurd cc

pub frame_of_open : (phase : Phase) (read : Result Record RecordFault) (frame : Frame) → (step_by phase read).heard ≡ Ok (heards.Frame frame) → IsOfOpen phase read frame
frame_of_open phase (Err fault) frame e = absurd cc
frame_of_open phase (Ok said) frame e = stepped_frame phase said frame e

-- ---- beats

abbrev IsBeatOfOpen : Phase → Result Record RecordFault → Beat → Type 0
IsBeatOfOpen phase read beat = (read ≡ Ok (record_of.Beat beat)) × ((other : Hello) × (phase ≡ phases.Open other))

beat_is : (a b : Beat) → ◌≡◌ {A = Told} (Ok (heards.Beat a)) (Ok (heards.Beat b)) → a ≡ b
beat_is a b e = cc

stepped_beat : (phase : Phase) (said : Record) (beat : Beat) → (stepped phase said).heard ≡ Ok (heards.Beat beat) → IsBeatOfOpen phase (Ok said) beat
stepped_beat (phases.Greeting mine) (record_of.Hello hello) beat e =
    absurd (greeted_heard (is_version mine hello.version) (λ (t : Told). t ≡ Ok (heards.Beat beat) → ⊥) hello (λ f. absurd cc) (λ fault f. absurd cc) e)
stepped_beat (phases.Greeting mine) (record_of.Proof proof) beat e = absurd cc
stepped_beat (phases.Greeting mine) (record_of.More more) beat e = absurd cc
stepped_beat (phases.Greeting mine) (record_of.Frame frame) beat e = absurd cc
stepped_beat (phases.Greeting mine) (record_of.Beat came) beat e = absurd cc
stepped_beat (phases.Asked hello) said beat e = absurd cc
stepped_beat (phases.Open other) (record_of.Hello hello) beat e = absurd cc
stepped_beat (phases.Open other) (record_of.Proof proof) beat e = absurd cc
stepped_beat (phases.Open other) (record_of.More more) beat e =
    absurd (further_heard (read_behind other more) (λ (t : Told). t ≡ Ok (heards.Beat beat) → ⊥) other (λ further read f. absurd cc) (λ fault f. absurd cc) e)
stepped_beat (phases.Open other) (record_of.Frame frame) beat e = absurd cc
stepped_beat (phases.Open other) (record_of.Beat came) beat e = (ap (λ (b : Beat). let r : Result Record RecordFault = Ok (record_of.Beat b) in r) (beat_is came beat e), (other, refl))
stepped_beat (phases.Closed fault) said beat e = absurd cc

pub beat_of_open : (phase : Phase) (read : Result Record RecordFault) (beat : Beat) → (step_by phase read).heard ≡ Ok (heards.Beat beat) → IsBeatOfOpen phase read beat
beat_of_open phase (Err fault) beat e = absurd cc
beat_of_open phase (Ok said) beat e = stepped_beat phase said beat e

-- ---- Hellos

abbrev IsHelloOfFirst : Phase → Result Record RecordFault → Phase → Hello → Type 0
IsHelloOfFirst phase read next hello = (read ≡ Ok (record_of.Hello hello)) × ((mine : Option Version) × (phase ≡ phases.Greeting mine)) × (next ≡ phases.Asked hello)

hello_is : (a b : Hello) → ◌≡◌ {A = Told} (Ok (heards.Hello a)) (Ok (heards.Hello b)) → a ≡ b
hello_is a b e = cc

abbrev IsAsked : Option Version → Hello → Hello → Phase → Type 0
IsAsked mine came hello next = IsHelloOfFirst (phases.Greeting mine) (Ok (record_of.Hello came)) next hello

asked_hello : (mine : Option Version) (b : Bool) (came hello : Hello) → (if b then asked came else closed (faults.Record BadHello)).heard ≡ Ok (heards.Hello hello) → IsAsked mine came hello (if b then asked came else closed (faults.Record BadHello)).phase
asked_hello mine true came hello e =
    let same : came ≡ hello = hello_is came hello e in
    (ap (λ (h : Hello). let r : Result Record RecordFault = Ok (record_of.Hello h) in r) same, (mine, refl), ap (λ (h : Hello). phases.Asked h) same)
asked_hello mine false came hello e = absurd cc

stepped_hello : (phase : Phase) (said : Record) (hello : Hello) → (stepped phase said).heard ≡ Ok (heards.Hello hello) → IsHelloOfFirst phase (Ok said) (stepped phase said).phase hello
stepped_hello (phases.Greeting mine) (record_of.Hello came) hello e = asked_hello mine (is_version mine came.version) came hello e
stepped_hello (phases.Greeting mine) (record_of.Proof proof) hello e = absurd cc
stepped_hello (phases.Greeting mine) (record_of.More more) hello e = absurd cc
stepped_hello (phases.Greeting mine) (record_of.Frame frame) hello e = absurd cc
stepped_hello (phases.Greeting mine) (record_of.Beat beat) hello e = absurd cc
stepped_hello (phases.Asked other) said hello e = absurd cc
stepped_hello (phases.Open other) (record_of.Hello came) hello e = absurd cc
stepped_hello (phases.Open other) (record_of.Proof proof) hello e = absurd cc
stepped_hello (phases.Open other) (record_of.More more) hello e =
    absurd (further_heard (read_behind other more) (λ (t : Told). t ≡ Ok (heards.Hello hello) → ⊥) other (λ further read f. absurd cc) (λ fault f. absurd cc) e)
stepped_hello (phases.Open other) (record_of.Frame frame) hello e = absurd cc
stepped_hello (phases.Open other) (record_of.Beat beat) hello e = absurd cc
stepped_hello (phases.Closed fault) said hello e = absurd cc

pub hello_of_first : (phase : Phase) (read : Result Record RecordFault) (hello : Hello) → (step_by phase read).heard ≡ Ok (heards.Hello hello) → IsHelloOfFirst phase read (step_by phase read).phase hello
hello_of_first phase (Err fault) hello e = absurd cc
hello_of_first phase (Ok said) hello e = stepped_hello phase said hello e

-- ---- records of further kinds

abbrev IsFurtherOfOpen : Phase → Result Record RecordFault → Further → Type 0
IsFurtherOfOpen phase read further = (other : Hello) × ((phase ≡ phases.Open other) × ((other.version ≡ Second) × ((more : More) × ((read ≡ Ok (record_of.More more)) × (read_behind other more ≡ Ok further)))))

further_is : (a b : Further) → ◌≡◌ {A = Told} (Ok (heards.Further a)) (Ok (heards.Further b)) → a ≡ b
further_is a b e = cc

no_fault : (fault : RecordFault) (further : Further) → ◌≡◌ {A = Result Further RecordFault} (Err fault) (Ok further) → ⊥
no_fault fault further e = absurd cc

second_reads : (version : Version) (nodes : ℕ) (more : More) (further : Further) → read_by version nodes more ≡ Ok further → version ≡ Second
second_reads First nodes more further e = absurd (no_fault BadKind further e)
second_reads Second nodes more further e = refl

read_further : (other : Hello) (more : More) (further : Further) → read_behind other more ≡ Ok further → IsFurtherOfOpen (phases.Open other) (Ok (record_of.More more)) further
read_further other more further e = (other, (refl, (second_reads other.version other.ends.nodes more further e, (more, (refl, e)))))

stepped_further : (phase : Phase) (said : Record) (further : Further) → (stepped phase said).heard ≡ Ok (heards.Further further) → IsFurtherOfOpen phase (Ok said) further
stepped_further (phases.Greeting mine) (record_of.Hello hello) further e =
    absurd (greeted_heard (is_version mine hello.version) (λ (t : Told). t ≡ Ok (heards.Further further) → ⊥) hello (λ f. absurd cc) (λ fault f. absurd cc) e)
stepped_further (phases.Greeting mine) (record_of.Proof proof) further e = absurd cc
stepped_further (phases.Greeting mine) (record_of.More more) further e = absurd cc
stepped_further (phases.Greeting mine) (record_of.Frame frame) further e = absurd cc
stepped_further (phases.Greeting mine) (record_of.Beat beat) further e = absurd cc
stepped_further (phases.Asked hello) said further e = absurd cc
stepped_further (phases.Open other) (record_of.Hello hello) further e = absurd cc
stepped_further (phases.Open other) (record_of.Proof proof) further e = absurd cc
stepped_further (phases.Open other) (record_of.Frame frame) further e = absurd cc
stepped_further (phases.Open other) (record_of.Beat beat) further e = absurd cc
stepped_further (phases.Open other) (record_of.More more) further e =
    further_heard (read_behind other more) (λ (t : Told). t ≡ Ok (heards.Further further) → IsFurtherOfOpen (phases.Open other) (Ok (record_of.More more)) further) other
    (λ found read f. read_further other more further (read ∙ ap (λ (x : Further). let r : Result Further RecordFault = Ok x in r) (further_is found further f))) (λ fault f. absurd cc) e
stepped_further (phases.Closed fault) said further e = absurd cc

pub further_of_open : (phase : Phase) (read : Result Record RecordFault) (further : Further) → (step_by phase read).heard ≡ Ok (heards.Further further) → IsFurtherOfOpen phase read further
further_of_open phase (Err fault) further e = absurd cc
further_of_open phase (Ok said) further e = stepped_further phase said further e
