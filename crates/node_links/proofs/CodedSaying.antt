-- What a connection with codes goes by where it begins, takes pieces, judges and answers, and where it speaks.
use Rattle.std.proofs.Common.{◌≡◌, inl, inr, ℕ, nat_le, ◌==◌, Bool, true, false, if◌then◌else◌, cond, List, [], ◌++◌, length, take, drop, append_assoc, append-nil, Option, Some, None, Result, Ok, Err, refl, sym, ap, subst, ◌∙◌}
use Rattle.std.proofs.Math.Logic.{∥∥₁_map}
use Rattle.std.proofs.lemmas.List.{take-append-drop}
use Rattle.peer_codes.specs.declared.limits.TheConstants.{LEAST_FRAME}
use Rattle.peer_codes.specs.declared.version.Version.TheVariants.{First}
use Rattle.peer_codes.specs.declared.hello.Hello.{Hello}
use Rattle.peer_codes.specs.declared.key.Key.{Key}
use Rattle.peer_codes.specs.declared.kind.Kind.{Kind}
use Rattle.peer_codes.specs.declared.more.More.{More}
use Rattle.peer_codes.specs.declared.records.Record.{Record}
use Rattle.peer_codes.specs.declared.records.Record.TheVariants as record_of
use Rattle.peer_codes.specs.declared.role.Role.TheVariants.{Caller, Called}
use Rattle.peer_codes.specs.declared.phase.Ways.{Ways}
use Rattle.peer_codes.specs.declared.phase.Phase.{Phase}
use Rattle.peer_codes.specs.declared.phase.Phase.TheVariants as phases
use Rattle.peer_codes.specs.declared.outgoing.Outgoing.{Outgoing}
use Rattle.peer_codes.specs.declared.connection.Connection.{Connection as Channel}
use Rattle.peer_codes.specs.Beginning.{Begins as ChannelBegins, TextBegun, HelloBegun, ProofBegun, CodedBegun}
use Rattle.peer_codes.specs.Codes.{after}
use Rattle.peer_codes.specs.Connections.{met as met_by, turned_away, answered, takes_more, with_more, begun_next}
use Rattle.peer_codes.specs.Histories.{IsCoded, said_phase}
use Rattle.peer_codes.specs.Outgoings.{unwritten, and_frame}
use Rattle.peer_codes.specs.Spelling.{record_text}
use Rattle.peer_codes.specs.Steps.{proving}
use Rattle.node_links.specs.declared.peer_fault.PeerFault.{PeerFault}
use Rattle.node_links.specs.declared.own.Own.{Own}
use Rattle.node_links.specs.declared.own.Met.{Met}
use Rattle.node_links.specs.declared.stage.Stage.{Stage}
use Rattle.node_links.specs.declared.stage.Stage.TheVariants as stages
use Rattle.node_links.specs.declared.coded_connection.CodedConnection.{CodedConnection}
use Rattle.node_links.specs.declared.connection.Connection.TheVariants.{Coded}
use Rattle.node_links.specs.Coding.{settled_stage, matched, taken, given, begun_open, begun_by, begun_where, begun_coded}
use Rattle.node_links.specs.Judging.{judged_match, judged_known}
use Rattle.node_links.specs.Versions.{in_version, version_at}
use Rattle.node_links.specs.Waits.{Waits}
use Rattle.node_links.specs.Waiting.{next_of, has_next}
use Rattle.node_links.specs.Talks.{Talk, bytes_of, hellos_of}
use Rattle.node_links.specs.Going.{Begins, Greeted, HasHello, Awaits, Matches, ProvedBy, CodedAt, CodedOn, CodedGoes, GoesOn, GoesOnWith, GoesOnWritten, Goes, silence}
use Rattle.node_links.proofs.CodedGoing.{BeginsEach, version_same, begins_alike, all_written, on}

-- ---- its beginning

abbrev fresh : Option Hello → Outgoing
fresh mine = record { hello = mine; proof = None; beat = None; more = None; frame = None; begun = record { items = [] }; written = 0 }

begins_fresh : (mine : Hello) (out : Outgoing) → IsCoded mine → out ≡ fresh (Some mine) → Begins (Some mine) [] out
begins_fresh mine out coded e = subst (λ (o : Outgoing). Begins (Some mine) [] o) (sym e) (coded, inl (refl, refl))

silent_fresh : (out : Outgoing) → out ≡ fresh None → Begins None [] out
silent_fresh out e = subst (λ (o : Outgoing). Begins None [] o) (sym e) (refl, refl, refl)

begun_of : (own : Own) (dialled : Option ℕ) (c : CodedConnection) (key : Key) (mine : Option Hello) → HasHello dialled mine → own.key ≡ Some key → c.stage ≡ stages.Greeting → c.channel.phase ≡ phases.Greeting mine → c.channel.key ≡ key
    → c.channel.came.waiting ≡ [] → Begins mine [] c.channel.out → Goes own (silence dialled) (Coded c)
begun_of own dialled c key mine has own_key stage phase key_is waiting begins =
    ∣ (subst (λ (s : Stage). CodedGoes own (silence dialled) c.channel s) (sym stage) (on own (silence dialled) c.channel stages.Greeting key [] (phases.Greeting mine) mine own_key key_is waiting phase begins (refl, refl, has))) ∣₁

pub coded_calls : (own : Own) (number : ℕ) (c : CodedConnection) (key : Key) (mine : Hello) → IsCoded mine → own.key ≡ Some key → c.stage ≡ stages.Greeting → c.channel.phase ≡ phases.Greeting (Some mine) → c.channel.key ≡ key
    → c.channel.came.waiting ≡ [] → c.channel.out ≡ fresh (Some mine) → Goes own (silence (Some number)) (Coded c)
coded_calls own number c key mine coded own_key stage phase key_is waiting out = begun_of own (Some number) c key (Some mine) tt own_key stage phase key_is waiting (begins_fresh mine c.channel.out coded out)

pub coded_listens : (own : Own) (c : CodedConnection) (key : Key) → own.key ≡ Some key → c.stage ≡ stages.Greeting → c.channel.phase ≡ phases.Greeting None → c.channel.key ≡ key → c.channel.came.waiting ≡ [] → c.channel.out ≡ fresh None
    → Goes own (silence None) (Coded c)
coded_listens own c key own_key stage phase key_is waiting out = begun_of own None c key None refl own_key stage phase key_is waiting (silent_fresh c.channel.out out)

-- ---- a piece more

piece_on : (own : Own) (came waiting piece : List ℕ) (theirs : Hello) → Greeted came waiting theirs → Greeted (came ++ piece) (waiting ++ piece) theirs
piece_on own came waiting piece theirs at = record { hello = at.hello; is = at.is; text = ap (λ (t : List ℕ). t ++ piece) at.text ∙ append_assoc at.hello waiting piece }

piece_behind : (key : Key) (mine : Option Hello) (theirs : Hello) (talk : Talk) (waiting piece : List ℕ) (phase : Phase) → ProvedBy key mine theirs talk waiting phase
    → ProvedBy key mine theirs (record talk { came = talk.came ++ piece }) (waiting ++ piece) phase
piece_behind key None theirs talk waiting piece phase at = absurd at
piece_behind key (Some mine) theirs talk waiting piece phase at = record {
  first = at.first;
  version = at.version;
  ways = at.ways;
  open_is = at.open_is;
  hello = at.hello;
  hello_is = at.hello_is;
  proof = at.proof;
  proof_is = at.proof_is;
  said = at.said;
  are = at.are;
  reading = at.reading;
  text =
      ap (λ (t : List ℕ). t ++ piece) at.text ∙ (append_assoc at.hello (at.proof ++ (bytes_of at.said ++ waiting)) piece ∙ ap (λ (t : List ℕ). at.hello ++ t) (append_assoc at.proof (bytes_of at.said ++ waiting) piece ∙ ap (λ (t : List ℕ). at.proof ++ t) (append_assoc (bytes_of at.said) waiting piece)));
}

piece_at : (own : Own) (talk : Talk) (waiting piece : List ℕ) (key : Key) (phase : Phase) (mine : Option Hello) (stage : Stage) → CodedAt own talk key waiting phase mine stage
    → CodedAt own (record talk { came = talk.came ++ piece }) key (waiting ++ piece) phase mine stage
piece_at own talk waiting piece key phase mine stages.Greeting at = (ap (λ (t : List ℕ). t ++ piece) at.0, at.1, at.2)
piece_at own talk waiting piece key phase mine (stages.Asked theirs) at = (piece_on own talk.came waiting piece theirs at.0, at.1)
piece_at own talk waiting piece key phase mine (stages.Matched theirs) at = (at.0, piece_on own talk.came waiting piece theirs at.1, at.2)
piece_at own talk waiting piece key phase mine (stages.Proved theirs) at = (at.0, piece_behind key mine theirs talk waiting piece phase at.1)
piece_at own talk waiting piece key phase mine (stages.Open theirs) at = (at.0, piece_behind key mine theirs talk waiting piece phase at.1)
piece_at own talk waiting piece key phase mine (stages.Closed fault) at = tt

-- what holds of each stage but the last
by_stage : (own : Own) (talk talk_new : Talk) (old new : Channel) (stage : Stage) → (CodedOn own talk old stage → CodedOn own talk_new new stage) → CodedGoes own talk old stage → CodedGoes own talk_new new stage
by_stage own talk talk_new old new (stages.Closed fault) keeps goes = tt
by_stage own talk talk_new old new stages.Greeting keeps goes = keeps goes
by_stage own talk talk_new old new (stages.Asked theirs) keeps goes = keeps goes
by_stage own talk talk_new old new (stages.Matched theirs) keeps goes = keeps goes
by_stage own talk talk_new old new (stages.Proved theirs) keeps goes = keeps goes
by_stage own talk talk_new old new (stages.Open theirs) keeps goes = keeps goes

piece_goes : (own : Own) (talk : Talk) (old new : Channel) (stage : Stage) (piece : List ℕ) → new.came.waiting ≡ old.came.waiting ++ piece → new.key ≡ old.key → new.phase ≡ old.phase → new.out ≡ old.out → CodedOn own talk old stage
    → CodedOn own (record talk { came = talk.came ++ piece }) new stage
piece_goes own talk old new stage piece waiting key phase out goes =
    on own (record talk { came = talk.came ++ piece }) new stage old.key (old.came.waiting ++ piece) old.phase goes.mine goes.key key waiting phase (subst (λ (o : Outgoing). Begins goes.mine talk.wrote o) (sym out) goes.begins)
    (piece_at own talk old.came.waiting piece old.key old.phase goes.mine stage goes.at)

pub coded_takes : (old new : CodedConnection) (piece : List ℕ) → new.channel.came.waiting ≡ old.channel.came.waiting ++ piece → new ≡ record old { channel = record old.channel { came = new.channel.came } } → GoesOnWith (Coded old) (Coded new) piece
coded_takes old new piece waiting others own talk goes =
    ∥∥₁_map goes (λ g. subst (λ (s : Stage). CodedGoes own (record talk { came = talk.came ++ piece }) new.channel s) (sym (ap (λ (c : CodedConnection). c.stage) others))
    (by_stage own talk (record talk { came = talk.came ++ piece }) old.channel new.channel old.stage
    (piece_goes own talk old.channel new.channel old.stage piece waiting (ap (λ (c : CodedConnection). c.channel.key) others) (ap (λ (c : CodedConnection). c.channel.phase) others) (ap (λ (c : CodedConnection). c.channel.out) others)) g))

-- ---- judging

matched_goes : (own : Own) (talk : Talk) (c : Channel) (theirs : Hello) (verdict : Result (Unit {0}) PeerFault) → judged_match own talk.dialled theirs ≡ verdict → CodedOn own talk c (stages.Asked theirs)
    → CodedGoes own talk c (matched verdict theirs)
matched_goes own talk c theirs (Ok done) is goes = record { key = goes.key; mine = goes.mine; begins = goes.begins; at = (is, goes.at.0, goes.at.1) }
matched_goes own talk c theirs (Err fault) is goes = tt

taken_goes : (own : Own) (met : List Met) (talk : Talk) (c : Channel) (theirs : Hello) (verdict : Result (Unit {0}) PeerFault) → judged_known own met theirs ≡ verdict → CodedOn own talk c (stages.Proved theirs)
    → CodedGoes own talk c (taken verdict theirs)
taken_goes own met talk c theirs (Ok done) is goes = record { key = goes.key; mine = goes.mine; begins = goes.begins; at = (record { matches = goes.at.0; met = met; known = is }, goes.at.1) }
taken_goes own met talk c theirs (Err fault) is goes = tt

settled_goes : (own : Own) (met : List Met) (talk : Talk) (c : Channel) (stage : Stage) → CodedGoes own talk c stage → CodedGoes own talk c (settled_stage own talk.dialled met stage)
settled_goes own met talk c (stages.Asked theirs) goes = matched_goes own talk c theirs (judged_match own talk.dialled theirs) refl goes
settled_goes own met talk c (stages.Proved theirs) goes = taken_goes own met talk c theirs (judged_known own met theirs) refl goes
settled_goes own met talk c stages.Greeting goes = goes
settled_goes own met talk c (stages.Matched theirs) goes = goes
settled_goes own met talk c (stages.Open theirs) goes = goes
settled_goes own met talk c (stages.Closed fault) goes = tt

pub coded_settles : (own : Own) (dialled : Option ℕ) (met : List Met) (old new : CodedConnection) → new ≡ record old { stage = settled_stage own dialled met old.stage } → (talk : Talk) → talk.dialled ≡ dialled
    → Goes own talk (Coded old) → Goes own talk (Coded new)
coded_settles own dialled met old new e talk same goes =
    let there : new ≡ record old { stage = settled_stage own talk.dialled met old.stage } = e ∙ ap (λ (d : Option ℕ). record old { stage = settled_stage own d met old.stage }) (sym same) in
    ∥∥₁_map goes (λ g. subst (λ (c : CodedConnection). CodedGoes own talk c.channel c.stage) (sym there) (settled_goes own met talk old.channel old.stage g))

-- ---- the answer

same_answer : (phase : Phase) (mine : Hello) (c : Channel) → c.phase ≡ phase → answered phase mine c ≡ c → answered c.phase mine c ≡ c
same_answer phase mine c e same = ap (λ (p : Phase). answered p mine c) e ∙ same

unanswered : (own : Own) (talk : Talk) (c : Channel) (stage : Stage) (mine : Hello) (phase : Phase) → c.phase ≡ phase → answered phase mine c ≡ c → CodedOn own talk c stage → CodedOn own talk (answered c.phase mine c) stage
unanswered own talk c stage mine phase e same goes = subst (λ (d : Channel). CodedOn own talk d stage) (sym (same_answer phase mine c e same)) goes

-- the Hello came that is answered
answers : (own : Own) (talk : Talk) (c : Channel) (stage : Stage) (theirs mine : Hello) → IsCoded mine → theirs.version ≡ mine.version → c.phase ≡ phases.Asked theirs → own.key ≡ Some c.key → Begins None talk.wrote c.out
    → CodedAt own talk c.key c.came.waiting (proving c.key.bytes Called Caller (hellos_of Called mine theirs)) (Some mine) stage → CodedOn own talk (answered c.phase mine c) stage
answers own talk c stage theirs mine coded version phase key begins at =
    subst (λ (p : Phase). CodedOn own talk (answered p mine c) stage) (sym phase)
    (subst (λ (b : Bool). CodedOn own talk (cond b (met_by theirs mine c) (turned_away mine c)) stage) (sym (version_same theirs.version mine.version version))
    (record { key = key; mine = Some mine; begins = (coded, inl (begins.0, refl)); at = at }))

called_awaits : (key : Key) (dialled : Option ℕ) (mine theirs : Hello) → dialled ≡ None → mine.version ≡ theirs.version → Awaits key dialled (Some mine) theirs (proving key.bytes Called Caller (hellos_of Called mine theirs))
called_awaits key None mine theirs e version = (version, refl)
called_awaits key (Some number) mine theirs e version = absurd cc

asked_answers : (own : Own) (talk : Talk) (c : Channel) (theirs mine : Hello) (given : Option Hello) → IsCoded mine → mine.version ≡ theirs.version → own.key ≡ Some c.key → Begins given talk.wrote c.out → Greeted talk.came c.came.waiting theirs
    → Awaits c.key talk.dialled given theirs c.phase → CodedOn own talk c (stages.Asked theirs) → CodedOn own talk (answered c.phase mine c) (stages.Asked theirs)
asked_answers own talk c theirs mine None coded version key begins greeted awaits goes = answers own talk c (stages.Asked theirs) theirs mine coded (sym version) awaits.1 key begins (greeted, called_awaits c.key talk.dialled mine theirs awaits.0 version)
asked_answers own talk c theirs mine (Some given) coded version key begins greeted awaits goes = unanswered own talk c (stages.Asked theirs) mine _ awaits.1 refl goes

matched_answers : (own : Own) (talk : Talk) (c : Channel) (theirs mine : Hello) (given : Option Hello) → IsCoded mine → mine.version ≡ theirs.version → own.key ≡ Some c.key → Begins given talk.wrote c.out → Matches own talk.dialled theirs
    → Greeted talk.came c.came.waiting theirs → Awaits c.key talk.dialled given theirs c.phase → CodedOn own talk c (stages.Matched theirs) → CodedOn own talk (answered c.phase mine c) (stages.Matched theirs)
matched_answers own talk c theirs mine None coded version key begins matches greeted awaits goes = answers own talk c (stages.Matched theirs) theirs mine coded (sym version) awaits.1 key begins (matches, greeted, called_awaits c.key talk.dialled mine theirs awaits.0 version)
matched_answers own talk c theirs mine (Some given) coded version key begins matches greeted awaits goes = unanswered own talk c (stages.Matched theirs) mine _ awaits.1 refl goes

open_phase : (key : Key) (mine : Option Hello) (theirs : Hello) (talk : Talk) (waiting : List ℕ) (phase : Phase) → ProvedBy key mine theirs talk waiting phase → (ways : Ways) × (phase ≡ phases.Open ways)
open_phase key None theirs talk waiting phase at = absurd at
open_phase key (Some mine) theirs talk waiting phase at = (at.ways, at.open_is)

answer_goes : (own : Own) (talk : Talk) (c : Channel) (stage : Stage) (mine : Hello) → IsCoded mine → CodedGoes own talk c stage → CodedGoes own talk (answered c.phase (in_version (version_at stage) mine) c) stage
answer_goes own talk c (stages.Closed fault) mine coded goes = tt
answer_goes own talk c stages.Greeting mine coded goes = unanswered own talk c stages.Greeting (in_version First mine) (phases.Greeting goes.mine) goes.at.1 refl goes
answer_goes own talk c (stages.Asked theirs) mine coded goes = asked_answers own talk c theirs (in_version theirs.version mine) goes.mine coded refl goes.key goes.begins goes.at.0 goes.at.1 goes
answer_goes own talk c (stages.Matched theirs) mine coded goes = matched_answers own talk c theirs (in_version theirs.version mine) goes.mine coded refl goes.key goes.begins goes.at.0 goes.at.1 goes.at.2 goes
answer_goes own talk c (stages.Proved theirs) mine coded goes =
    let is = open_phase c.key goes.mine theirs talk c.came.waiting c.phase goes.at.1 in unanswered own talk c (stages.Proved theirs) (in_version theirs.version mine) (phases.Open is.0) is.1 refl goes
answer_goes own talk c (stages.Open theirs) mine coded goes =
    let is = open_phase c.key goes.mine theirs talk c.came.waiting c.phase goes.at.1 in unanswered own talk c (stages.Open theirs) (in_version theirs.version mine) (phases.Open is.0) is.1 refl goes

pub coded_answers : (old new : CodedConnection) (mine : Hello) → IsCoded mine → new ≡ record old { channel = answered old.channel.phase (in_version (version_at old.stage) mine) old.channel } → GoesOn (Coded old) (Coded new)
coded_answers old new mine coded e own talk goes =
    ∥∥₁_map goes (λ g. subst (λ (c : CodedConnection). CodedGoes own talk c.channel c.stage) (sym e) (answer_goes own talk old.channel old.stage mine coded g))

-- ---- a record that is begun

hello_is : (a b : Hello) → Some a ≡ Some b → a ≡ b
hello_is a b e = cc

text_left : (text : List ℕ) (left : Outgoing) (old new : Channel) → TextBegun text left old new → unwritten new.out ≡ text
text_left text left old new is = ap (λ (o : Outgoing). unwritten o) is.out

-- the own Hello is begun
hello_begins : (mine : Option Hello) (wrote : List ℕ) (old new : Channel) → HelloBegun old new → Begins mine wrote old.out → Begins mine wrote new.out
hello_begins None wrote old new is (written, hello, proof) = let e : Some is.hello ≡ None = sym is.waited ∙ hello in absurd cc
hello_begins (Some mine) wrote old new is (coded, inr (hello, begun)) = let e : Some is.hello ≡ None = sym is.waited ∙ hello in absurd cc
hello_begins (Some mine) wrote old new is (coded, inl (written, hello)) =
    let same : is.hello ≡ mine = hello_is is.hello mine (sym is.waited ∙ hello) in (
      coded,
      inr (
        ap (λ (o : Outgoing). o.hello) is.begun.out,
        (
          [],
          ap (λ (t : List ℕ). t ++ unwritten new.out) (all_written wrote (unwritten old.out) [] is.begun.finished written) ∙ (text_left _ _ old new is.begun
              ∙ (ap (λ (h : Hello). record_text (record_of.Hello h)) same ∙ sym (append-nil (record_text (record_of.Hello mine))))),
        ),
      ),
    )

-- something is begun behind it
more_begins : (mine : Hello) (wrote text : List ℕ) (left : Outgoing) (old new : Channel) → old.out.hello ≡ None → left.hello ≡ None → TextBegun text left old new → Begins (Some mine) wrote old.out → Begins (Some mine) wrote new.out
more_begins mine wrote text left old new none left_none is (coded, inl (written, hello)) = let e : Some mine ≡ None = sym hello ∙ none in absurd cc
more_begins mine wrote text left old new none left_none is (coded, inr (hello, (more, begun))) = (
  coded,
  inr (
    ap (λ (o : Outgoing). o.hello) is.out ∙ left_none,
    (
      more ++ text,
      ap (λ (t : List ℕ). t ++ unwritten new.out) (all_written wrote (unwritten old.out) _ is.finished begun)
          ∙ (ap (λ (t : List ℕ). (record_text (record_of.Hello mine) ++ more) ++ t) (text_left text left old new is) ∙ append_assoc (record_text (record_of.Hello mine)) more text),
    ),
  ),
)

proof_begins : (mine : Option Hello) (wrote : List ℕ) (old new : Channel) → ProofBegun old new → Begins mine wrote old.out → Begins mine wrote new.out
proof_begins None wrote old new is (written, hello, proof) = let e : Some is.proof ≡ None = sym is.waited ∙ proof in absurd cc
proof_begins (Some mine) wrote old new is begins = more_begins mine wrote _ _ old new is.hello is.hello is.begun begins

abbrev IsNotClosed : Stage → Type 0
IsNotClosed (stages.Closed fault) = ⊥
IsNotClosed stages.Greeting = Unit {0}
IsNotClosed (stages.Asked theirs) = Unit {0}
IsNotClosed (stages.Matched theirs) = Unit {0}
IsNotClosed (stages.Proved theirs) = Unit {0}
IsNotClosed (stages.Open theirs) = Unit {0}

-- a channel that is open has said its own Hello
open_is_said : (own : Own) (talk : Talk) (waiting : List ℕ) (key : Key) (ways : Ways) (phase : Phase) (mine : Option Hello) (stage : Stage) (old new : Channel) (kind : Kind) (body : List ℕ) (left : Outgoing)
    → old.phase ≡ phase → left.hello ≡ None → CodedAt own talk key waiting phase mine stage → CodedBegun kind body left old new → Begins mine talk.wrote old.out → (IsNotClosed stage) → Begins mine talk.wrote new.out
open_is_said own talk waiting key ways phase (Some mine) stage old new kind body left e left_none at is begins runs = more_begins mine talk.wrote _ left old new is.hello left_none is.begun begins
open_is_said own talk waiting key ways phase None stages.Greeting old new kind body left e left_none at is begins runs = let f : phases.Open is.ways ≡ phases.Greeting None = sym is.open_was ∙ (e ∙ at.1) in absurd cc
open_is_said own talk waiting key ways phase None (stages.Asked theirs) old new kind body left e left_none at is begins runs = let f : phases.Open is.ways ≡ phases.Asked theirs = sym is.open_was ∙ (e ∙ at.1.1) in absurd cc
open_is_said own talk waiting key ways phase None (stages.Matched theirs) old new kind body left e left_none at is begins runs = let f : phases.Open is.ways ≡ phases.Asked theirs = sym is.open_was ∙ (e ∙ at.2.1) in absurd cc
open_is_said own talk waiting key ways phase None (stages.Proved theirs) old new kind body left e left_none at is begins runs = absurd at.1
open_is_said own talk waiting key ways phase None (stages.Open theirs) old new kind body left e left_none at is begins runs = absurd at.1
open_is_said own talk waiting key ways phase None (stages.Closed fault) old new kind body left e left_none at is begins runs = absurd runs

open_ways : (v w : Ways) → phases.Open v ≡ phases.Open w → v ≡ w
open_ways v w e = cc

said_proved : (key : Key) (mine : Option Hello) (theirs : Hello) (talk : Talk) (waiting : List ℕ) (ways : Ways) (count : ℕ) → ProvedBy key mine theirs talk waiting (phases.Open ways)
    → ProvedBy key mine theirs talk waiting (phases.Open (record { reading = ways.reading; writing = after ways.writing count }))
said_proved key None theirs talk waiting ways count at = absurd at
said_proved key (Some mine) theirs talk waiting ways count at = record {
  first = at.first;
  version = at.version;
  ways = record { reading = ways.reading; writing = after ways.writing count };
  open_is = refl;
  hello = at.hello;
  hello_is = at.hello_is;
  proof = at.proof;
  proof_is = at.proof_is;
  said = at.said;
  are = at.are;
  reading = ap (λ (w : Ways). w.reading) (open_ways ways at.ways at.open_is) ∙ at.reading;
  text = at.text;
}

-- a record that was coded leaves how far it is
said_at : (own : Own) (talk : Talk) (waiting : List ℕ) (key : Key) (ways : Ways) (count : ℕ) (mine : Option Hello) (stage : Stage) → CodedAt own talk key waiting (phases.Open ways) mine stage
    → CodedAt own talk key waiting (phases.Open (record { reading = ways.reading; writing = after ways.writing count })) mine stage
said_at own talk waiting key ways count mine stages.Greeting at = let f : phases.Open ways ≡ phases.Greeting mine = at.1 in absurd cc
said_at own talk waiting key ways count None (stages.Asked theirs) at = let f : phases.Open ways ≡ phases.Asked theirs = at.1.1 in absurd cc
said_at own talk waiting key ways count (Some mine) (stages.Asked theirs) (greeted, (version, f)) = absurd cc
said_at own talk waiting key ways count None (stages.Matched theirs) at = let f : phases.Open ways ≡ phases.Asked theirs = at.2.1 in absurd cc
said_at own talk waiting key ways count (Some mine) (stages.Matched theirs) (matches, greeted, (version, f)) = absurd cc
said_at own talk waiting key ways count mine (stages.Proved theirs) at = (at.0, said_proved key mine theirs talk waiting ways count at.1)
said_at own talk waiting key ways count mine (stages.Open theirs) at = (at.0, said_proved key mine theirs talk waiting ways count at.1)
said_at own talk waiting key ways count mine (stages.Closed fault) at = tt

coded_begun : (own : Own) (talk : Talk) (old new : Channel) (stage : Stage) (kind : Kind) (body : List ℕ) (left : Outgoing) → IsNotClosed stage → left.hello ≡ None → CodedBegun kind body left old new → CodedOn own talk old stage → CodedOn own talk new stage
coded_begun own talk old new stage kind body left runs left_none is goes =
    let phase_is : new.phase ≡ phases.Open (record { reading = is.ways.reading; writing = after is.ways.writing (length body) }) = is.phase ∙ ap (λ (p : Phase). said_phase (length body) p) is.open_was in
    on own talk new stage old.key old.came.waiting (phases.Open (record { reading = is.ways.reading; writing = after is.ways.writing (length body) })) goes.mine goes.key is.begun.key (ap (λ q. q.waiting) is.begun.came) phase_is
    (open_is_said own talk old.came.waiting old.key is.ways old.phase goes.mine stage old new kind body left refl left_none goes.at is goes.begins runs)
    (said_at own talk old.came.waiting old.key is.ways (length body) goes.mine stage (subst (λ (p : Phase). CodedAt own talk old.key old.came.waiting p goes.mine stage) is.open_was goes.at))

begins_goes : (own : Own) (talk : Talk) (old new : Channel) (stage : Stage) → IsNotClosed stage → ChannelBegins old new → CodedOn own talk old stage → CodedOn own talk new stage
begins_goes own talk old new stage runs (inl is) goes =
    on own talk new stage old.key old.came.waiting old.phase goes.mine goes.key is.key (ap (λ q. q.waiting) is.came) is.phase (subst (λ (o : Outgoing). Begins goes.mine talk.wrote o) (sym is.out) goes.begins) goes.at
begins_goes own talk old new stage runs (inr (inl is)) goes =
    on own talk new stage old.key old.came.waiting old.phase goes.mine goes.key is.begun.key (ap (λ q. q.waiting) is.begun.came) is.phase (hello_begins goes.mine talk.wrote old new is goes.begins) goes.at
begins_goes own talk old new stage runs (inr (inr (inl is))) goes =
    on own talk new stage old.key old.came.waiting old.phase goes.mine goes.key is.begun.key (ap (λ q. q.waiting) is.begun.came) is.phase (proof_begins goes.mine talk.wrote old new is goes.begins) goes.at
begins_goes own talk old new stage runs (inr (inr (inr (inl is)))) goes = coded_begun own talk old new stage _ _ _ runs is.begun.hello is.begun goes
begins_goes own talk old new stage runs (inr (inr (inr (inr (inl is))))) goes = coded_begun own talk old new stage _ _ _ runs is.begun.hello is.begun goes
begins_goes own talk old new stage runs (inr (inr (inr (inr (inr is))))) goes = coded_begun own talk old new stage _ _ _ runs is.begun.hello is.begun goes

channel_begins : (begins : BeginsEach) (own : Own) (talk : Talk) (c : Channel) (stage : Stage) → CodedGoes own talk c stage → CodedGoes own talk (begun_next c) stage
channel_begins begins own talk c (stages.Closed fault) goes = tt
channel_begins begins own talk c stages.Greeting goes = begins_goes own talk c (begun_next c) stages.Greeting tt (begins c) goes
channel_begins begins own talk c (stages.Asked theirs) goes = begins_goes own talk c (begun_next c) (stages.Asked theirs) tt (begins c) goes
channel_begins begins own talk c (stages.Matched theirs) goes = begins_goes own talk c (begun_next c) (stages.Matched theirs) tt (begins c) goes
channel_begins begins own talk c (stages.Proved theirs) goes = begins_goes own talk c (begun_next c) (stages.Proved theirs) tt (begins c) goes
channel_begins begins own talk c (stages.Open theirs) goes = begins_goes own talk c (begun_next c) (stages.Open theirs) tt (begins c) goes

-- what is put there to be said leaves all else
left_goes : (own : Own) (talk : Talk) (c : Channel) (out : Outgoing) (stage : Stage) → unwritten out ≡ unwritten c.out → out.hello ≡ c.out.hello → out.proof ≡ c.out.proof → CodedGoes own talk c stage → CodedGoes own talk (record c { out = out }) stage
left_goes own talk c out stage left hello proof goes =
    by_stage own talk talk c (record c { out = out }) stage (λ at. record { key = at.key; mine = at.mine; begins = begins_alike at.mine talk.wrote c.out out left hello (λ none. proof) at.begins; at = at.at }) goes

if_goes : (own : Own) (talk : Talk) (c d : Channel) (stage : Stage) (b : Bool) → CodedGoes own talk c stage → CodedGoes own talk d stage → CodedGoes own talk (if b then c else d) stage
if_goes own talk c d stage true one other = one
if_goes own talk c d stage false one other = other

more_goes : (own : Own) (talk : Talk) (c : Channel) (stage : Stage) (more : More) (b : Bool) → CodedGoes own talk c stage → CodedGoes own talk (with_more b more c) stage
more_goes own talk c stage more true goes = left_goes own talk c (record c.out { more = Some more }) stage refl refl refl goes
more_goes own talk c stage more false goes = goes

given_goes : (own : Own) (talk : Talk) (c : Channel) (stage : Stage) (said : Option Record) → CodedGoes own talk c stage → CodedGoes own talk (given c said) stage
given_goes own talk c stage None goes = goes
given_goes own talk c stage (Some (record_of.Beat beat)) goes = left_goes own talk c (record c.out { beat = Some beat }) stage refl refl refl goes
given_goes own talk c stage (Some (record_of.Frame frame)) goes =
    if_goes own talk (record c { out = record c.out { frame = and_frame c.out.frame frame } }) c stage (nat_le LEAST_FRAME (length frame.bytes.items)) (left_goes own talk c (record c.out { frame = and_frame c.out.frame frame }) stage refl refl refl goes) goes
given_goes own talk c stage (Some (record_of.Hello hello)) goes = goes
given_goes own talk c stage (Some (record_of.Proof proof)) goes = goes
given_goes own talk c stage (Some (record_of.More more)) goes = more_goes own talk c stage more (takes_more c.phase c.out.more more.kind) goes

abbrev GoesOf : Own → Talk → CodedConnection → Type 0
GoesOf own talk c = CodedGoes own talk c.channel c.stage

either_goes : (own : Own) (talk : Talk) (b : Bool) (c : CodedConnection) (w : Waits) (p : CodedConnection × Waits) → GoesOf own talk p.0 → GoesOf own talk c → GoesOf own talk (if b then p else (c, w)).0
either_goes own talk true c w p one other = one
either_goes own talk false c w p one other = other

by_goes : (begins : BeginsEach) (own : Own) (talk : Talk) (stage : Stage) (c : CodedConnection) (w : Waits) → GoesOf own talk c → GoesOf own talk (begun_by stage c w).0
by_goes begins own talk (stages.Open theirs) c w goes =
    either_goes own talk (has_next theirs.version w) c w (begun_open theirs.version c w) (channel_begins begins own talk (given c.channel (next_of theirs.version w)) c.stage (given_goes own talk c.channel c.stage (next_of theirs.version w) goes)) goes
by_goes begins own talk stages.Greeting c w goes = goes
by_goes begins own talk (stages.Asked theirs) c w goes = goes
by_goes begins own talk (stages.Matched theirs) c w goes = goes
by_goes begins own talk (stages.Proved theirs) c w goes = goes
by_goes begins own talk (stages.Closed fault) c w goes = goes

where_goes : (begins : BeginsEach) (own : Own) (talk : Talk) (c : CodedConnection) (w : Waits) → GoesOf own talk c → GoesOf own talk (begun_where c w).0
where_goes begins own talk c w goes = either_goes own talk (length (unwritten c.channel.out) == 0) c w (begun_by c.stage c w) (by_goes begins own talk c.stage c w goes) goes

begun_goes : (begins : BeginsEach) (own : Own) (talk : Talk) (c : CodedConnection) (w : Waits) → GoesOf own talk c → GoesOf own talk (begun_coded c w).0
begun_goes begins own talk c w goes = where_goes begins own talk (record c { channel = begun_next c.channel }) w (channel_begins begins own talk c.channel c.stage goes)

pub coded_says : (begins : BeginsEach) (old new : CodedConnection) (w : Waits) → new ≡ (begun_coded old w).0 → GoesOn (Coded old) (Coded new)
coded_says begins old new w e own talk goes = ∥∥₁_map goes (λ g. subst (λ (c : CodedConnection). GoesOf own talk c) (sym e) (begun_goes begins own talk old w g))

-- ---- what is written of it

moved_begins : (mine : Option Hello) (wrote wrote_new : List ℕ) (old new : Outgoing) → wrote_new ++ unwritten new ≡ wrote ++ unwritten old → new.hello ≡ old.hello → new.proof ≡ old.proof → Begins mine wrote old → Begins mine wrote_new new
moved_begins None wrote wrote_new old new same hello proof (written, no_hello, no_proof) = (same ∙ written, hello ∙ no_hello, proof ∙ no_proof)
moved_begins (Some mine) wrote wrote_new old new same hello proof (coded, inl (written, waits)) = (coded, inl (same ∙ written, hello ∙ waits))
moved_begins (Some mine) wrote wrote_new old new same hello proof (coded, inr (none, (more, begun))) = (coded, inr (hello ∙ none, (more, same ∙ begun)))

written_begins : (mine : Option Hello) (wrote : List ℕ) (count : ℕ) (old new : Outgoing) → unwritten new ≡ drop count (unwritten old) → new.hello ≡ old.hello → new.proof ≡ old.proof → Begins mine wrote old
    → Begins mine (wrote ++ take count (unwritten old)) new
written_begins mine wrote count old new left hello proof begins =
    let same : (wrote ++ take count (unwritten old)) ++ unwritten new ≡ wrote ++ unwritten old =
    append_assoc wrote (take count (unwritten old)) (unwritten new) ∙ ap (λ (t : List ℕ). wrote ++ t) (ap (λ (t : List ℕ). take count (unwritten old) ++ t) left ∙ take-append-drop count (unwritten old)) in
    moved_begins mine wrote (wrote ++ take count (unwritten old)) old new same hello proof begins

written_proved : (key : Key) (mine : Option Hello) (theirs : Hello) (talk : Talk) (waiting bytes : List ℕ) (phase : Phase) → ProvedBy key mine theirs talk waiting phase
    → ProvedBy key mine theirs (record talk { wrote = talk.wrote ++ bytes }) waiting phase
written_proved key None theirs talk waiting bytes phase at = absurd at
written_proved key (Some mine) theirs talk waiting bytes phase at = record {
  first = (at.first.0 ++ bytes, ap (λ (t : List ℕ). t ++ bytes) at.first.1 ∙ append_assoc (record_text (record_of.Hello mine)) at.first.0 bytes);
  version = at.version;
  ways = at.ways;
  open_is = at.open_is;
  hello = at.hello;
  hello_is = at.hello_is;
  proof = at.proof;
  proof_is = at.proof_is;
  said = at.said;
  are = at.are;
  reading = at.reading;
  text = at.text;
}

written_at : (own : Own) (talk : Talk) (waiting bytes : List ℕ) (key : Key) (phase : Phase) (mine : Option Hello) (stage : Stage) → CodedAt own talk key waiting phase mine stage
    → CodedAt own (record talk { wrote = talk.wrote ++ bytes }) key waiting phase mine stage
written_at own talk waiting bytes key phase mine stages.Greeting at = at
written_at own talk waiting bytes key phase mine (stages.Asked theirs) at = at
written_at own talk waiting bytes key phase mine (stages.Matched theirs) at = at
written_at own talk waiting bytes key phase mine (stages.Proved theirs) at = (at.0, written_proved key mine theirs talk waiting bytes phase at.1)
written_at own talk waiting bytes key phase mine (stages.Open theirs) at = (at.0, written_proved key mine theirs talk waiting bytes phase at.1)
written_at own talk waiting bytes key phase mine (stages.Closed fault) at = tt

writes_goes : (own : Own) (talk : Talk) (count : ℕ) (old new : Channel) (stage : Stage) → unwritten new.out ≡ drop count (unwritten old.out) → new ≡ record old { out = record old.out { written = new.out.written } } → CodedOn own talk old stage
    → CodedOn own (record talk { wrote = talk.wrote ++ take count (unwritten old.out) }) new stage
writes_goes own talk count old new stage left others goes =
    on own (record talk { wrote = talk.wrote ++ take count (unwritten old.out) }) new stage old.key old.came.waiting old.phase goes.mine goes.key (ap (λ (c : Channel). c.key) others) (ap (λ (c : Channel). c.came.waiting) others)
    (ap (λ (c : Channel). c.phase) others) (written_begins goes.mine talk.wrote count old.out new.out left (ap (λ (c : Channel). c.out.hello) others) (ap (λ (c : Channel). c.out.proof) others) goes.begins)
    (written_at own talk old.came.waiting (take count (unwritten old.out)) old.key old.phase goes.mine stage goes.at)

pub coded_writes : (old new : CodedConnection) (count : ℕ) → unwritten new.channel.out ≡ drop count (unwritten old.channel.out)
    → new ≡ record old { channel = record old.channel { out = record old.channel.out { written = new.channel.out.written } } } → GoesOnWritten (Coded old) (Coded new) count
coded_writes old new count left others own talk goes =
    ∥∥₁_map goes (λ g. subst (λ (s : Stage). CodedGoes own (record talk { wrote = talk.wrote ++ take count (unwritten old.channel.out) }) new.channel s) (sym (ap (λ (c : CodedConnection). c.stage) others))
    (by_stage own talk (record talk { wrote = talk.wrote ++ take count (unwritten old.channel.out) }) old.channel new.channel old.stage
    (writes_goes own talk count old.channel new.channel old.stage left (ap (λ (c : CodedConnection). c.channel) others)) g))
