-- What calls leave of what a connection with codes goes by.
use Rattle.std.proofs.Common.{◌≡◌, inl, inr, ℕ, ◌==◌, ◌&&◌, Bool, true, false, List, [], ◌∷◌, ◌++◌, length, drop, append_assoc, append-nil, Option, Some, None, is_none, IfSome, Result, Ok, Err, cond, refl, sym, ap, subst, ◌∙◌}
use Rattle.std.proofs.Math.Logic.{∥∥₁_map}
use Rattle.std.proofs.lemmas.Bool.{eqb-true, and_parts}
use Rattle.std.proofs.lemmas.List.{take-append-drop}
use Rattle.peer_codes.specs.declared.connection_fault.ConnectionFault.{ConnectionFault}
use Rattle.peer_codes.specs.declared.connection_fault.ConnectionFault.TheVariants as channel_faults
use Rattle.peer_codes.specs.declared.fault.RecordFault.{RecordFault}
use Rattle.peer_codes.specs.declared.fault.RecordFault.TheVariants.{BadHello}
use Rattle.peer_codes.specs.declared.event.Event.{Event}
use Rattle.peer_codes.specs.declared.event.Event.TheVariants as events
use Rattle.peer_codes.specs.declared.more.More.{More}
use Rattle.peer_codes.specs.declared.version.Version.{Version}
use Rattle.peer_codes.specs.declared.version.Version.TheVariants.{First, Second}
use Rattle.peer_codes.specs.declared.hello.Hello.{Hello}
use Rattle.peer_codes.specs.declared.key.Key.{Key}
use Rattle.peer_codes.specs.declared.kind.Kind.{Kind}
use Rattle.peer_codes.specs.declared.kind.Kind.TheVariants as kind_of
use Rattle.peer_codes.specs.declared.records.Proof.{Proof}
use Rattle.peer_codes.specs.declared.role.Role.{Role}
use Rattle.peer_codes.specs.declared.way.Way.{Way}
use Rattle.peer_codes.specs.declared.phase.Ways.{Ways}
use Rattle.peer_codes.specs.declared.phase.Phase.{Phase}
use Rattle.peer_codes.specs.declared.phase.Phase.TheVariants as phases
use Rattle.peer_codes.specs.declared.outgoing.Outgoing.{Outgoing}
use Rattle.peer_codes.specs.declared.connection.Connection.{Connection as Channel}
use Rattle.peer_codes.specs.Beginning.{Begins as ChannelBegins}
use Rattle.peer_codes.specs.Codes.{after, covered}
use Rattle.peer_codes.specs.Connections.{Reads, Next, begun_next}
use Rattle.peer_codes.specs.Faults.{needed, front}
use Rattle.peer_codes.specs.Histories.{across, IsCoded}
use Rattle.peer_codes.specs.Outgoings.{unwritten}
use Rattle.peer_codes.specs.Reading.{hello_of}
use Rattle.peer_codes.specs.Versions.{same_version}
use Rattle.peer_codes.specs.Steps.{only_coded, of_version, greeted, front_step, step_by, stepped, proof_of, ways_of}
use Rattle.peer_codes.specs.Telling.{ToldBy, IsGreeting, IsOpened, IsHeard}
use Rattle.node_links.specs.declared.further.Further.{Further}
use Rattle.node_links.specs.declared.heard.Heard.{Heard}
use Rattle.node_links.specs.declared.heard.Heard.TheVariants as heards
use Rattle.node_links.specs.declared.peer_fault.PeerFault.{PeerFault}
use Rattle.node_links.specs.declared.own.Own.{Own}
use Rattle.node_links.specs.declared.stage.Stage.{Stage}
use Rattle.node_links.specs.declared.stage.Stage.TheVariants as stages
use Rattle.node_links.specs.declared.coded_connection.CodedConnection.{CodedConnection}
use Rattle.node_links.specs.declared.connection.Connection.TheVariants.{Coded}
use Rattle.node_links.specs.Coding.{on_further, coded_step, taken, peer_at, Hears, HearsOrWaits, HearsProof, NextCoded, has_said_hello, given}
use Rattle.node_links.specs.Telling.{read_behind}
use Rattle.node_links.specs.Talks.{Talk, way_behind, bytes_of, role_of, hellos_of, their_way, IsHelloIn, IsWritten, TakesCoded, SaysCoded, SaysFurther, HeardBy, SaysHeard}
use Rattle.node_links.specs.Going.{Begins, HasHello, Awaits, Proved, CodedAt, CodedOn, CodedGoes, GoesOn, Goes, peer_of, Tells}

abbrev pub Told : Type 0
Told = Result Heard PeerFault

abbrev pub Came : Type 0
Came = Result Event ConnectionFault

-- each event goes by what stood in front of what came
abbrev pub Stands : Type 0
Stands = (old new : Channel) (event : Event) → Next old.phase old (Some (Ok event)) new → ToldBy event old new

-- each call that begins a record begins nothing, or the first of what waits
abbrev pub BeginsEach : Type 0
BeginsEach = (old : Channel) → ChannelBegins old (begun_next old)

-- ---- a channel that has told an event has read a record

pub none_is_told : (came : Came) → Some came ≡ None → ⊥
none_is_told came e = absurd cc

pub fault_is_told : (event : Event) (fault : ConnectionFault) → ◌≡◌ {A = Option Came} (Some (Ok event)) (Some (Err fault)) → ⊥
fault_is_told event fault e = absurd cc

reads_by : (phase : Phase) (old new : Channel) (event : Event) → Next phase old (Some (Ok event)) new → Reads old new (Ok event)
reads_by (phases.Asked caller) old new event next = absurd (none_is_told (Ok event) next.0)
reads_by (phases.Closed fault) old new event next = absurd (fault_is_told event fault next.0)
reads_by phases.Refused old new event next = absurd (fault_is_told event (channel_faults.Record BadHello) next.0)
reads_by (phases.Greeting own) old new event next = next
reads_by (phases.Proving theirs ways) old new event next = next
reads_by (phases.Open ways) old new event next = next

pub read_of : (old new : Channel) (event : Event) → Next old.phase old (Some (Ok event)) new → Reads old new (Ok event)
read_of old new event next = reads_by old.phase old new event next

pub key_kept : (old new : Channel) (told : Came) → Reads old new told → new.key ≡ old.key
key_kept old new told reads = ap (λ (c : Channel). c.key) reads.others

pub front_taken : (old new : Channel) (told : Came) → Reads old new told → old.came.waiting ≡ front old.came.waiting ++ new.came.waiting
front_taken old new told reads = sym (take-append-drop (needed old.came.waiting) old.came.waiting) ∙ ap (λ (t : List ℕ). front old.came.waiting ++ t) (sym reads.came)

-- ---- what is said first

pub begins_alike : (mine : Option Hello) (wrote : List ℕ) (old new : Outgoing) → unwritten new ≡ unwritten old → new.hello ≡ old.hello → (mine ≡ None → new.proof ≡ old.proof) → Begins mine wrote old → Begins mine wrote new
begins_alike None wrote old new left hello proof begins = (ap (λ (t : List ℕ). wrote ++ t) left ∙ begins.0, hello ∙ begins.1, proof refl ∙ begins.2)
begins_alike (Some mine) wrote old new left hello proof (coded, inl waits) = (coded, inl (ap (λ (t : List ℕ). wrote ++ t) left ∙ waits.0, hello ∙ waits.1))
begins_alike (Some mine) wrote old new left hello proof (coded, inr begun) = (coded, inr (hello ∙ begun.0, (begun.1.0, ap (λ (t : List ℕ). wrote ++ t) left ∙ begun.1.1)))

-- ---- one more event

pub on : (own : Own) (talk : Talk) (c : Channel) (stage : Stage) (key : Key) (waiting : List ℕ) (phase : Phase) (mine : Option Hello) → own.key ≡ Some key → c.key ≡ key → c.came.waiting ≡ waiting → c.phase ≡ phase
    → Begins mine talk.wrote c.out → CodedAt own talk key waiting phase mine stage → CodedOn own talk c stage
on own talk c stage key waiting phase mine own_key key_is waiting_is phase_is begins at = record {
  key = own_key ∙ ap (λ (k : Key). Some k) (sym key_is);
  mine = mine;
  begins = begins;
  at =
      subst (λ (k : Key). CodedAt own talk k c.came.waiting c.phase mine stage) (sym key_is)
      (subst (λ (w : List ℕ). CodedAt own talk key w c.phase mine stage) (sym waiting_is)
      (subst (λ (p : Phase). CodedAt own talk key waiting p mine stage) (sym phase_is) at));
}

pub version_same : (a b : Version) → a ≡ b → same_version a b ≡ true
version_same First First e = refl
version_same First Second e = absurd cc
version_same Second First e = absurd cc
version_same Second Second e = refl

abbrev pub OfVersion : Option Hello → Hello → Type 0
OfVersion mine hello = IfSome mine (λ own. own.version ≡ hello.version)

of_same : (mine : Option Hello) (hello : Hello) → OfVersion mine hello → of_version mine (Some hello) ≡ Some hello
of_same None hello same = refl
of_same (Some mine) hello same = ap (λ (b : Bool). cond b (Some hello) None) (version_same mine.version hello.version same)

pub step_behind : (key : List ℕ) (mine : Option Hello) (bytes : List ℕ) (hello : Hello) → IsHelloIn hello bytes → OfVersion mine hello → (front_step key (phases.Greeting mine) bytes).phase ≡ (greeted key mine (Some hello)).phase
unfolding front_step stepped
step_behind key mine bytes hello is same =
    ap (λ (k : Result Kind _). (step_by key (phases.Greeting mine) k (drop 5 bytes)).phase) is.0 ∙ ap (λ (h : Option Hello). (greeted key mine (of_version mine h)).phase) is.1 ∙ ap (λ (h : Option Hello). (greeted key mine h).phase) (of_same mine hello same)

-- the phase behind the other's Hello
greeted_awaits : (key : Key) (dialled : Option ℕ) (mine : Option Hello) (theirs : Hello) → OfVersion mine theirs → HasHello dialled mine → Awaits key dialled mine theirs (greeted key.bytes mine (Some theirs)).phase
greeted_awaits key None None theirs same has = (refl, refl)
greeted_awaits key None (Some mine) theirs same has = absurd cc
greeted_awaits key (Some number) None theirs same has = absurd has
greeted_awaits key (Some number) (Some mine) theirs same has = (same, refl)

mine_is : (a b : Option Hello) → phases.Greeting a ≡ phases.Greeting b → a ≡ b
mine_is a b e = cc

own_proof_none : (key : List ℕ) (given mine : Option Hello) (theirs : Hello) (earlier : Option Proof) → given ≡ mine → mine ≡ None → Rattle.peer_codes.specs.Telling.own_proof key given theirs earlier ≡ earlier
own_proof_none key None mine theirs earlier e none = refl
own_proof_none key (Some given) mine theirs earlier e none = absurd cc

greets : (own : Own) (talk : Talk) (old new : Channel) (theirs : Hello) → Reads old new (Ok (events.Greeted theirs)) → IsGreeting theirs old new → CodedOn own talk old stages.Greeting → CodedOn own talk new (stages.Asked theirs)
greets own talk old new theirs reads is goes =
    let bytes : List ℕ = front old.came.waiting in
    let hello_is : IsHelloIn theirs bytes = (is.came.kind_is, ap (λ (t : List ℕ). only_coded (hello_of t)) is.came.content_is ∙ is.hello_is) in
    let same : is.own ≡ goes.mine = mine_is is.own goes.mine (sym is.greeting ∙ goes.at.1) in
    let version : OfVersion goes.mine theirs = subst (λ (o : Option Hello). OfVersion o theirs) same is.version in
    let phase_is : new.phase ≡ (greeted old.key.bytes goes.mine (Some theirs)).phase =
    ap (λ (c : Channel). c.phase) reads.others ∙ (ap (λ (p : Phase). (front_step old.key.bytes p bytes).phase) goes.at.1 ∙ step_behind old.key.bytes goes.mine bytes theirs hello_is version) in
    on own talk new (stages.Asked theirs) old.key new.came.waiting (greeted old.key.bytes goes.mine (Some theirs)).phase goes.mine goes.key (key_kept old new _ reads) refl phase_is
    (begins_alike goes.mine talk.wrote old.out new.out (ap (λ (o : Outgoing). unwritten o) is.out) (ap (λ (o : Outgoing). o.hello) is.out)
    (λ none. ap (λ (o : Outgoing). o.proof) is.out ∙ own_proof_none old.key.bytes is.own goes.mine theirs old.out.proof same none) goes.begins)
    (record { hello = bytes; is = hello_is; text = goes.at.0 ∙ front_taken old new _ reads }, greeted_awaits old.key talk.dialled goes.mine theirs version goes.at.2)

theirs_is : (a b : Proof) (v w : Ways) → phases.Proving a v ≡ phases.Proving b w → a ≡ b
theirs_is a b v w e = cc

ways_is : (a b : Proof) (v w : Ways) → phases.Proving a v ≡ phases.Proving b w → v ≡ w
ways_is a b v w e = cc

out_kept : (old new : Channel) (event : Event) → Reads old new (Ok event) → unwritten new.out ≡ unwritten old.out
out_kept old new event reads = ap (λ (c : Channel). unwritten c.out) reads.others

hello_kept : (old new : Channel) (event : Event) → Reads old new (Ok event) → new.out.hello ≡ old.out.hello
hello_kept old new event reads = ap (λ (c : Channel). c.out.hello) reads.others

begins_on : (own : Own) (mine : Hello) (wrote : List ℕ) (old new : Channel) (event : Event) → Reads old new (Ok event) → Begins (Some mine) wrote old.out → Begins (Some mine) wrote new.out
begins_on own mine wrote old new event reads begins = begins_alike (Some mine) wrote old.out new.out (out_kept old new event reads) (hello_kept old new event reads) (λ e. absurd cc) begins

-- ---- the own Hello is written

no_bytes : (t : List ℕ) → length t ≡ 0 → t ≡ []
no_bytes [] e = refl
no_bytes (x ∷ t) e = absurd cc

-- what was written is all where nothing is unfinished
pub all_written : (wrote left text : List ℕ) → length left ≡ 0 → wrote ++ left ≡ text → wrote ≡ text
all_written wrote left text none e = sym (append-nil wrote) ∙ (ap (λ (t : List ℕ). wrote ++ t) (sym (no_bytes left none)) ∙ e)

first_written : (mine : Hello) (wrote : List ℕ) (out : Outgoing) → length (unwritten out) ≡ 0 → out.hello ≡ None → Begins (Some mine) wrote out → IsWritten mine wrote
first_written mine wrote out finished none (coded, inl waits) = let e : Some mine ≡ None = sym waits.1 ∙ none in absurd cc
first_written mine wrote out finished none (coded, inr begun) = (begun.1.0, all_written wrote (unwritten out) _ finished begun.1.1)

finished_by : (count : ℕ) (hello : Option Hello) → (count == 0 && is_none hello) ≡ true → (count ≡ 0) × (hello ≡ None)
finished_by count None e = (eqb-true count 0 (and_parts (count == 0) true e).0, refl)
finished_by count (Some hello) e = let no : false ≡ true = (and_parts (count == 0) false e).1 in absurd cc

is_written : (mine : Hello) (wrote : List ℕ) (out : Outgoing) → has_said_hello out ≡ true → Begins (Some mine) wrote out → IsWritten mine wrote
is_written mine wrote out said begins = let both = finished_by (length (unwritten out)) out.hello said in first_written mine wrote out both.0 both.1 begins

-- it is before the other's proof is read
abbrev MayRead : Stage → Outgoing → Type 0
MayRead (stages.Matched theirs) out = has_said_hello out ≡ true
MayRead stages.Greeting out = Unit {0}
MayRead (stages.Asked theirs) out = Unit {0}
MayRead (stages.Proved theirs) out = Unit {0}
MayRead (stages.Open theirs) out = Unit {0}
MayRead (stages.Closed fault) out = Unit {0}

-- the other's proof came
opens : (own : Own) (talk : Talk) (old new : Channel) (theirs : Hello) (mine : Option Hello) → Reads old new (Ok events.Opened) → IsOpened old new → has_said_hello old.out ≡ true → own.key ≡ Some old.key → Begins mine talk.wrote old.out
    → CodedAt own talk old.key old.came.waiting old.phase mine (stages.Matched theirs) → CodedOn own talk new (stages.Proved theirs)
opens own talk old new theirs None reads is said key begins (matches, greeted, awaits) = let e : phases.Proving is.theirs is.ways ≡ phases.Asked theirs = sym is.awaited ∙ awaits.1 in absurd cc
opens own talk old new theirs (Some mine) reads is said key begins (matches, greeted, awaits) =
    let role : Role = role_of talk.dialled in
    let both = sym is.awaited ∙ awaits.1 in
    let proof : is.theirs ≡ proof_of old.key.bytes (across role) (hellos_of role mine theirs) = theirs_is _ _ _ _ both in
    let ways : is.ways ≡ ways_of old.key.bytes role (across role) (hellos_of role mine theirs) = ways_is _ _ _ _ both in
    on own talk new (stages.Proved theirs) old.key new.came.waiting new.phase (Some mine) key (key_kept old new _ reads) refl refl (begins_on own mine talk.wrote old new events.Opened reads begins) (
      matches,
      record {
        first = is_written mine talk.wrote old.out said begins;
        version = awaits.0;
        ways = is.ways;
        open_is = is.opens;
        hello = greeted.hello;
        hello_is = greeted.is;
        proof = front old.came.waiting;
        proof_is = (is.came.kind_is, is.came.content_is ∙ ap (λ (p : Proof). p.tag) proof);
        said = [];
        are = tt;
        reading = ap (λ (w : Ways). w.reading) ways;
        text = greeted.text ∙ ap (λ (t : List ℕ). greeted.hello ++ t) (front_taken old new _ reads);
      },
    )

open_ways : (v w : Ways) → phases.Open v ≡ phases.Open w → v ≡ w
open_ways v w e = cc

-- a coded record came
pieces : (key : Key) (role : Role) (mine theirs : Hello) (wrote came : List ℕ) (old new : Channel) (kind : Kind) (body : List ℕ) → old.came.waiting ≡ front old.came.waiting ++ new.came.waiting → IsHeard kind body old new
    → Proved key role mine theirs wrote came old.came.waiting old.phase → Proved key role mine theirs wrote came new.came.waiting new.phase
pieces key role mine theirs wrote came old new kind body taken is at =
    let same : is.ways ≡ at.ways = open_ways is.ways at.ways (sym is.open_was ∙ at.open_is) in
    let here : is.ways.reading ≡ way_behind (their_way key role mine theirs) at.said = ap (λ (w : Ways). w.reading) same ∙ at.reading in
    record {
      first = at.first;
      version = at.version;
      ways = record { reading = after is.ways.reading (length body); writing = is.ways.writing };
      open_is = is.goes_on;
      hello = at.hello;
      hello_is = at.hello_is;
      proof = at.proof;
      proof_is = at.proof_is;
      said = record { kind = kind; body = body; bytes = front old.came.waiting } ∷ at.said;
      are = ((is.came.kind_is, is.came.content_is ∙ ap (λ (w : Way). covered w kind body) here), at.are);
      reading = ap (λ (w : Way). after w (length body)) here;
      text =
          at.text ∙ ap (λ (t : List ℕ). at.hello ++ (at.proof ++ t)) (ap (λ (t : List ℕ). bytes_of at.said ++ t) taken ∙ sym (append_assoc (bytes_of at.said) (front old.came.waiting) new.came.waiting));
    }

hears : (own : Own) (talk : Talk) (old new : Channel) (theirs : Hello) (event : Event) (kind : Kind) (body : List ℕ) (mine : Option Hello) → Reads old new (Ok event) → IsHeard kind body old new → own.key ≡ Some old.key
    → Begins mine talk.wrote old.out → CodedAt own talk old.key old.came.waiting old.phase mine (stages.Open theirs) → CodedOn own talk new (stages.Open theirs)
hears own talk old new theirs event kind body None reads is key begins at = absurd at.1
hears own talk old new theirs event kind body (Some mine) reads is key begins at =
    on own talk new (stages.Open theirs) old.key new.came.waiting new.phase (Some mine) key (key_kept old new _ reads) refl refl (begins_on own mine talk.wrote old new event reads begins)
    (at.0, pieces old.key (role_of talk.dialled) mine theirs talk.wrote talk.came old new kind body (front_taken old new _ reads) is at.1)

further_goes : (own : Own) (talk : Talk) (new : Channel) (theirs : Hello) (read : Result Further RecordFault) → CodedOn own talk new (stages.Open theirs) → CodedGoes own talk new (on_further theirs read).stage
further_goes own talk new theirs (Ok further) goes = goes
further_goes own talk new theirs (Err fault) goes = tt

event_goes : (own : Own) (talk : Talk) (old new : Channel) (stage : Stage) (event : Event) → Reads old new (Ok event) → ToldBy event old new → MayRead stage old.out → CodedGoes own talk old stage → CodedGoes own talk new (coded_step stage (Ok event)).stage
event_goes own talk old new stages.Greeting (events.Greeted theirs) reads is may goes = greets own talk old new theirs reads is goes
event_goes own talk old new stages.Greeting events.Opened reads is may goes = tt
event_goes own talk old new stages.Greeting (events.Frame frame) reads is may goes = tt
event_goes own talk old new stages.Greeting (events.Beat beat) reads is may goes = tt
event_goes own talk old new stages.Greeting (events.More more) reads is may goes = tt
event_goes own talk old new (stages.Asked theirs) event reads is may goes = tt
event_goes own talk old new (stages.Matched theirs) (events.Greeted other) reads is may goes = tt
event_goes own talk old new (stages.Matched theirs) events.Opened reads is may goes = opens own talk old new theirs goes.mine reads is may goes.key goes.begins goes.at
event_goes own talk old new (stages.Matched theirs) (events.Frame frame) reads is may goes = tt
event_goes own talk old new (stages.Matched theirs) (events.Beat beat) reads is may goes = tt
event_goes own talk old new (stages.Matched theirs) (events.More more) reads is may goes = tt
event_goes own talk old new (stages.Proved theirs) event reads is may goes = tt
event_goes own talk old new (stages.Open theirs) (events.Greeted other) reads is may goes = tt
event_goes own talk old new (stages.Open theirs) events.Opened reads is may goes = tt
event_goes own talk old new (stages.Open theirs) (events.More more) reads is may goes =
    further_goes own talk new theirs (read_behind theirs more) (hears own talk old new theirs (events.More more) (kind_of.More more.kind) more.bytes.items goes.mine reads is.heard goes.key goes.begins goes.at)
event_goes own talk old new (stages.Open theirs) (events.Frame frame) reads is may goes = hears own talk old new theirs (events.Frame frame) kind_of.Frame frame.bytes.items goes.mine reads is goes.key goes.begins goes.at
event_goes own talk old new (stages.Open theirs) (events.Beat beat) reads (body, reading, is) may goes = hears own talk old new theirs (events.Beat beat) kind_of.Beat body goes.mine reads is goes.key goes.begins goes.at
event_goes own talk old new (stages.Closed fault) event reads is may goes = tt

came_goes : (stands : Stands) (own : Own) (talk : Talk) (old new : Channel) (stage : Stage) (came : Came) → Next old.phase old (Some came) new → MayRead stage old.out → CodedGoes own talk old stage
    → CodedGoes own talk new (coded_step stage came).stage
came_goes stands own talk old new stage (Err fault) next may goes = tt
came_goes stands own talk old new stage (Ok event) next may goes = event_goes own talk old new stage event (read_of old new event next) (stands old new event next) may goes

-- ---- a call of `next`

abbrev GoesOf : Own → Talk → CodedConnection → Type 0
GoesOf own talk c = CodedGoes own talk c.channel c.stage

same_goes : (own : Own) (talk : Talk) (old new : CodedConnection) → new ≡ old → GoesOf own talk old → GoesOf own talk new
same_goes own talk old new e goes = subst (λ (c : CodedConnection). GoesOf own talk c) (sym e) goes

parts_goes : (own : Own) (talk : Talk) (old new : CodedConnection) → new.channel ≡ old.channel → new.stage ≡ old.stage → GoesOf own talk old → GoesOf own talk new
parts_goes own talk old new channel stage goes =
    subst (λ (s : Stage). CodedGoes own talk new.channel s) (sym stage) (subst (λ (c : Channel). CodedGoes own talk c old.stage) (sym channel) goes)

hears_goes : (stands : Stands) (own : Own) (talk : Talk) (old new : CodedConnection) (told : Told) → Hears old new told → MayRead old.stage old.channel.out → GoesOf own talk old → GoesOf own talk new
hears_goes stands own talk old new told hears may goes =
    subst (λ (s : Stage). CodedGoes own talk new.channel s) (sym hears.stage) (came_goes stands own talk old.channel new.channel old.stage hears.came hears.next may goes)

-- where it tells nothing the channel stays
abbrev pub WaitsEach : Type 0
WaitsEach = (old new : Channel) → Next old.phase old None new → new ≡ old

waits_goes : (stands : Stands) (waits : WaitsEach) (own : Own) (talk : Talk) (stage : Stage) (old new : CodedConnection) (result : Option Told) → old.stage ≡ stage → HearsOrWaits old result new → MayRead stage old.channel.out
    → GoesOf own talk old → GoesOf own talk new
waits_goes stands waits own talk stage old new None same (next, stays) may goes = parts_goes own talk old new (waits old.channel new.channel next) stays goes
waits_goes stands waits own talk stage old new (Some told) same hears may goes = hears_goes stands own talk old new told hears (subst (λ (s : Stage). MayRead s old.channel.out) (sym same) may) goes

proof_goes : (stands : Stands) (waits : WaitsEach) (own : Own) (talk : Talk) (theirs : Hello) (said : Bool) (old new : CodedConnection) (result : Option Told) → old.stage ≡ stages.Matched theirs → has_said_hello old.channel.out ≡ said
    → HearsProof said old result new → GoesOf own talk old → GoesOf own talk new
proof_goes stands waits own talk theirs true old new result same said next goes = waits_goes stands waits own talk (stages.Matched theirs) old new result same next said goes
proof_goes stands waits own talk theirs false old new result same said next goes = same_goes own talk old new next.1 goes

next_goes : (stands : Stands) (waits : WaitsEach) (own : Own) (talk : Talk) (stage : Stage) (old new : CodedConnection) (result : Option Told) → old.stage ≡ stage → NextCoded stage old result new → GoesOf own talk old → GoesOf own talk new
next_goes stands waits own talk (stages.Asked hello) old new result same next goes = same_goes own talk old new next.1 goes
next_goes stands waits own talk (stages.Proved hello) old new result same next goes = same_goes own talk old new next.1 goes
next_goes stands waits own talk (stages.Closed fault) old new result same next goes = same_goes own talk old new next.1 goes
next_goes stands waits own talk stages.Greeting old new result same next goes = waits_goes stands waits own talk stages.Greeting old new result same next tt goes
next_goes stands waits own talk (stages.Matched hello) old new result same next goes = proof_goes stands waits own talk hello (has_said_hello old.channel.out) old new result same refl next goes
next_goes stands waits own talk (stages.Open hello) old new result same next goes = waits_goes stands waits own talk (stages.Open hello) old new result same next tt goes

pub coded_nexts : (stands : Stands) (waits : WaitsEach) (old new : CodedConnection) (result : Option Told) → NextCoded old.stage old result new → GoesOn (Coded old) (Coded new)
coded_nexts stands waits old new result next own talk goes = ∥∥₁_map goes (λ g. next_goes stands waits own talk old.stage old new result refl next g)

-- ---- what is told

abbrev came_coded : (own : Own) (talk : Talk) (old new : Channel) (theirs mine : Hello) (kind : Kind) (body : List ℕ) (from : ℕ) → old.came.waiting ≡ front old.came.waiting ++ new.came.waiting → IsHeard kind body old new → theirs.ends.from ≡ from
    → IsCoded mine → TakesCoded own talk.dialled theirs → Proved old.key (role_of talk.dialled) mine theirs talk.wrote talk.came old.came.waiting old.phase → SaysCoded old.key own from kind body talk
came_coded own talk old new theirs mine kind body from taken is from_is coded takes at =
    let same : is.ways ≡ at.ways = open_ways is.ways at.ways (sym is.open_was ∙ at.open_is) in
    let here : is.ways.reading ≡ way_behind (their_way old.key (role_of talk.dialled) mine theirs) at.said = ap (λ (w : Ways). w.reading) same ∙ at.reading in
    record {
      mine = mine;
      nonce = coded;
      first = at.first;
      theirs = theirs;
      version = at.version;
      from_is = from_is;
      takes = takes;
      hello = at.hello;
      hello_is = at.hello_is;
      proof = at.proof;
      proof_is = at.proof_is;
      said = at.said;
      are = at.are;
      last = front old.came.waiting;
      last_is = (is.came.kind_is, is.came.content_is ∙ ap (λ (w : Way). covered w kind body) here);
      rest = new.came.waiting;
      text = at.text ∙ ap (λ (t : List ℕ). at.hello ++ (at.proof ++ (bytes_of at.said ++ t))) taken;
    }

record_came : (own : Own) (talk : Talk) (old new : Channel) (theirs : Hello) (event : Event) (kind : Kind) (body : List ℕ) (from : ℕ) (mine : Option Hello) → Reads old new (Ok event) → IsHeard kind body old new → theirs.ends.from ≡ from
    → Begins mine talk.wrote old.out → CodedAt own talk old.key old.came.waiting old.phase mine (stages.Open theirs) → SaysCoded old.key own from kind body talk
record_came own talk old new theirs event kind body from None reads is from_is begins at = absurd at.1
record_came own talk old new theirs event kind body from (Some mine) reads is from_is begins (takes, at) = came_coded own talk old new theirs mine kind body from (front_taken old new _ reads) is from_is begins.0 takes at

further_came : (own : Own) (talk : Talk) (old new : Channel) (theirs : Hello) (more : More) (further : Further) (from : ℕ) (mine : Option Hello) → Reads old new (Ok (events.More more)) → IsHeard (kind_of.More more.kind) more.bytes.items old new
    → read_behind theirs more ≡ Ok further → theirs.ends.from ≡ from → Begins mine talk.wrote old.out → CodedAt own talk old.key old.came.waiting old.phase mine (stages.Open theirs) → SaysFurther (Some old.key) own from further talk
further_came own talk old new theirs more further from None reads is read from_is begins at = absurd at.1
further_came own talk old new theirs more further from (Some mine) reads is read from_is begins (takes, at) =
    (more, came_coded own talk old new theirs mine (kind_of.More more.kind) more.bytes.items from (front_taken old new _ reads) is from_is begins.0 takes at, read)

says_by : (own : Own) (key : Key) (from : ℕ) (heard found : Heard) (talk : Talk) → own.key ≡ Some key → ◌≡◌ {A = Told} (Ok heard) (Ok found) → HeardBy (Some key) own from found talk → SaysHeard own from heard talk
says_by own key from heard found talk e same says =
    let is : found ≡ heard = cc in
    subst (λ (k : Option Key). HeardBy k own from heard talk) (sym e) (subst (λ (h : Heard). HeardBy (Some key) own from h talk) is says)

from_of : (a b : ℕ) → Some a ≡ Some b → a ≡ b
from_of a b e = cc

more_says : (own : Own) (talk : Talk) (old new : Channel) (theirs : Hello) (more : More) (read : Result Further RecordFault) (heard : Heard) (from : ℕ) → Reads old new (Ok (events.More more)) → IsHeard (kind_of.More more.kind) more.bytes.items old new
    → read_behind theirs more ≡ read → Ok heard ≡ (on_further theirs read).heard → peer_at (on_further theirs read).stage ≡ Some from → CodedOn own talk old (stages.Open theirs) → SaysHeard own from heard talk
more_says own talk old new theirs more (Err fault) heard from reads is read e peer goes = absurd cc
more_says own talk old new theirs more (Ok further) heard from reads is read e peer goes =
    says_by own old.key from heard (heards.Further further) talk goes.key e (further_came own talk old new theirs more further from goes.mine reads is read (from_of theirs.ends.from from peer) goes.begins goes.at)

open_says : (own : Own) (talk : Talk) (old new : Channel) (theirs : Hello) (event : Event) (heard : Heard) (from : ℕ) → Reads old new (Ok event) → ToldBy event old new → Ok heard ≡ (coded_step (stages.Open theirs) (Ok event)).heard
    → peer_at (coded_step (stages.Open theirs) (Ok event)).stage ≡ Some from → CodedOn own talk old (stages.Open theirs) → SaysHeard own from heard talk
open_says own talk old new theirs (events.Greeted other) heard from reads is e peer goes = absurd cc
open_says own talk old new theirs events.Opened heard from reads is e peer goes = absurd cc
open_says own talk old new theirs (events.Frame frame) heard from reads is e peer goes =
    says_by own old.key from heard (heards.Frame frame) talk goes.key e (record_came own talk old new theirs (events.Frame frame) kind_of.Frame frame.bytes.items from goes.mine reads is (from_of theirs.ends.from from peer) goes.begins goes.at)
open_says own talk old new theirs (events.Beat beat) heard from reads (body, reading, is) e peer goes =
    says_by own old.key from heard (heards.Beat beat) talk goes.key e
    (body, reading, record_came own talk old new theirs (events.Beat beat) kind_of.Beat body from goes.mine reads is (from_of theirs.ends.from from peer) goes.begins goes.at)
open_says own talk old new theirs (events.More more) heard from reads is e peer goes = more_says own talk old new theirs more (read_behind theirs more) heard from reads is.heard refl e peer goes

event_says : (stands : Stands) (own : Own) (talk : Talk) (old new : Channel) (stage : Stage) (event : Event) (heard : Heard) (from : ℕ) → Next old.phase old (Some (Ok event)) new → Ok heard ≡ (coded_step stage (Ok event)).heard
    → peer_at (coded_step stage (Ok event)).stage ≡ Some from → CodedGoes own talk old stage → SaysHeard own from heard talk
event_says stands own talk old new stages.Greeting (events.Greeted other) heard from next e peer goes = absurd cc
event_says stands own talk old new stages.Greeting events.Opened heard from next e peer goes = absurd cc
event_says stands own talk old new stages.Greeting (events.Frame frame) heard from next e peer goes = absurd cc
event_says stands own talk old new stages.Greeting (events.Beat beat) heard from next e peer goes = absurd cc
event_says stands own talk old new stages.Greeting (events.More more) heard from next e peer goes = absurd cc
event_says stands own talk old new (stages.Asked theirs) event heard from next e peer goes = absurd cc
event_says stands own talk old new (stages.Matched theirs) (events.Greeted other) heard from next e peer goes = absurd cc
event_says stands own talk old new (stages.Matched theirs) events.Opened heard from next e peer goes = absurd cc
event_says stands own talk old new (stages.Matched theirs) (events.Frame frame) heard from next e peer goes = absurd cc
event_says stands own talk old new (stages.Matched theirs) (events.Beat beat) heard from next e peer goes = absurd cc
event_says stands own talk old new (stages.Matched theirs) (events.More more) heard from next e peer goes = absurd cc
event_says stands own talk old new (stages.Proved theirs) event heard from next e peer goes = absurd cc
event_says stands own talk old new (stages.Closed fault) event heard from next e peer goes = absurd cc
event_says stands own talk old new (stages.Open theirs) event heard from next e peer goes = open_says own talk old new theirs event heard from (read_of old new event next) (stands old new event next) e peer goes

came_says : (stands : Stands) (own : Own) (talk : Talk) (old new : Channel) (stage : Stage) (came : Came) (heard : Heard) (from : ℕ) → Next old.phase old (Some came) new → Ok heard ≡ (coded_step stage came).heard
    → peer_at (coded_step stage came).stage ≡ Some from → CodedGoes own talk old stage → SaysHeard own from heard talk
came_says stands own talk old new stage (Err fault) heard from next e peer goes = absurd cc
came_says stands own talk old new stage (Ok event) heard from next e peer goes = event_says stands own talk old new stage event heard from next e peer goes

hears_says : (stands : Stands) (own : Own) (talk : Talk) (old new : CodedConnection) (heard : Heard) (from : ℕ) → Hears old new (Ok heard) → peer_at new.stage ≡ Some from → GoesOf own talk old → SaysHeard own from heard talk
hears_says stands own talk old new heard from hears peer goes =
    came_says stands own talk old.channel new.channel old.stage hears.came heard from hears.next hears.told_is (subst (λ (s : Stage). peer_at s ≡ Some from) hears.stage peer) goes

none_told : (told : Told) → Some told ≡ None → ⊥
none_told told e = absurd cc

fault_told : (heard : Heard) (fault : PeerFault) → ◌≡◌ {A = Option Told} (Some (Ok heard)) (Some (Err fault)) → ⊥
fault_told heard fault e = absurd cc

proof_says : (stands : Stands) (own : Own) (talk : Talk) (said : Bool) (old new : CodedConnection) (heard : Heard) (from : ℕ) → HearsProof said old (Some (Ok heard)) new → peer_at new.stage ≡ Some from → GoesOf own talk old
    → SaysHeard own from heard talk
proof_says stands own talk true old new heard from next peer goes = hears_says stands own talk old new heard from next peer goes
proof_says stands own talk false old new heard from next peer goes = absurd (none_told (Ok heard) next.0)

next_says : (stands : Stands) (own : Own) (talk : Talk) (stage : Stage) (old new : CodedConnection) (heard : Heard) (from : ℕ) → NextCoded stage old (Some (Ok heard)) new → peer_at new.stage ≡ Some from → GoesOf own talk old
    → SaysHeard own from heard talk
next_says stands own talk (stages.Asked hello) old new heard from next peer goes = absurd (none_told (Ok heard) next.0)
next_says stands own talk (stages.Proved hello) old new heard from next peer goes = absurd (none_told (Ok heard) next.0)
next_says stands own talk (stages.Closed fault) old new heard from next peer goes = absurd (fault_told heard fault next.0)
next_says stands own talk stages.Greeting old new heard from next peer goes = hears_says stands own talk old new heard from next peer goes
next_says stands own talk (stages.Matched hello) old new heard from next peer goes = proof_says stands own talk (has_said_hello old.channel.out) old new heard from next peer goes
next_says stands own talk (stages.Open hello) old new heard from next peer goes = hears_says stands own talk old new heard from next peer goes

coded_told : (stands : Stands) (old new : CodedConnection) (heard : Heard) → NextCoded old.stage old (Some (Ok heard)) new → (own : Own) (talk : Talk) (from : ℕ) → Goes own talk (Coded old) → peer_of (Coded new) ≡ Some from
    → ∥ SaysHeard own from heard talk ∥₁
coded_told stands old new heard next own talk from goes peer = ∥∥₁_map goes (λ g. next_says stands own talk old.stage old new heard from next peer g)

pub coded_tells : (stands : Stands) (old new : CodedConnection) (result : Option Told) → NextCoded old.stage old result new → Tells result (Coded old) (Coded new)
coded_tells stands old new None next = tt
coded_tells stands old new (Some (Err fault)) next = tt
coded_tells stands old new (Some (Ok heard)) next = coded_told stands old new heard next
