-- What calls leave of what a connection without codes wrote.
use Rattle.std.proofs.Common.{◌≡◌, inl, ℕ, ◌==◌, Bool, true, false, if◌then◌else◌, List, [], ◌∷◌, ◌++◌, length, take, drop, append_assoc, append-nil, Option, Some, None, IfSome, Result, Ok, Err, refl, sym, ap, subst, ◌∙◌}
use Rattle.std.proofs.Math.Logic.{∥∥₁_map}
use Rattle.std.proofs.lemmas.Bool.{eqb-true}
use Rattle.std.proofs.lemmas.List.{take-append-drop}
use Rattle.byte_queue.specs.Queued.{Queued}
use Rattle.peer_codes.specs.declared.fault.RecordFault.{RecordFault}
use Rattle.peer_codes.specs.declared.hello.Hello.{Hello}
use Rattle.peer_codes.specs.declared.version.Version.{Version}
use Rattle.peer_codes.specs.declared.records.Record.{Record}
use Rattle.peer_codes.specs.declared.records.Record.TheVariants as record_of
use Rattle.peer_codes.specs.Fits.{IsRecord}
use Rattle.peer_codes.specs.Spelling.{record_text}
use Rattle.node_links.specs.declared.peer_fault.PeerFault.{PeerFault}
use Rattle.node_links.specs.declared.own.Own.{Own}
use Rattle.node_links.specs.declared.own.Met.{Met}
use Rattle.node_links.specs.declared.outgoing.Outgoing.{Outgoing}
use Rattle.node_links.specs.declared.phase.Phase.{Phase}
use Rattle.node_links.specs.declared.phase.Phase.TheVariants as phases
use Rattle.node_links.specs.declared.plain_connection.PlainConnection.{PlainConnection}
use Rattle.node_links.specs.declared.connection.Connection.TheVariants.{Plain}
use Rattle.node_links.specs.Outgoings.{unwritten}
use Rattle.node_links.specs.Connections.{IsFront, Reads, Next, peer_in, said_next, begun_open, begun_by, begun_first, begun_next}
use Rattle.node_links.specs.Going.{peer_of, silence}
use Rattle.node_links.specs.Hearing.{texts}
use Rattle.node_links.specs.Judging.{judged}
use Rattle.node_links.specs.Steps.{is_version, stepped, step_by, opened, settled}
use Rattle.node_links.specs.Telling.{read_behind}
use Rattle.node_links.specs.Versions.{in_version, version_in}
use Rattle.node_links.specs.Waits.{Waits}
use Rattle.node_links.specs.Waiting.{next_of, has_next}
use Rattle.node_links.specs.Talks.{Talk}
use Rattle.node_links.specs.Speaking.{Given, OwnHello, IsOwn, frames_for, IsSaidTo, IsPlainTo, ArePlainTo, CameFirst, GreetsFirst, PlainKnows, PlainSpoke, Spoke, SpeaksOn, SpeaksOnWith, SpeaksOnWritten, SpeaksAs, SpeaksOf}
use Rattle.node_links.proofs.CodedGoing.{all_written}
use Rattle.node_links.proofs.CodedSpeaking.{next_said}
use Rattle.node_links.proofs.Handing.{Within, within_own, within_frames, if_some, own_within, plains_within}
use Rattle.node_links.proofs.Stepping.{Told, greeted_phase, further_phase}

-- ---- its beginning

abbrev fresh : Option Hello → Outgoing
fresh mine = record { hello = mine; begun = record { items = [] }; written = 0 }

begins_so : (given : List Given) (own : Own) (dialled : Option ℕ) (c : PlainConnection) (version : Option Version) (mine : Option Hello) → own.key ≡ None → c.phase ≡ phases.Greeting version → c.came.waiting ≡ [] → c.out ≡ fresh mine
    → IfSome mine (IsOwn given) → GreetsFirst dialled mine [] → PlainSpoke given own (silence dialled) c
begins_so given own dialled c version mine key phase waiting out is first = record {
  key = key;
  waits = subst (λ (o : Outgoing). IfSome o.hello (IsOwn given)) (sym out) is;
  theirs = None;
  came = tt;
  said = [];
  are = tt;
  first = subst (λ (o : Outgoing). GreetsFirst dialled o.hello []) (sym out) first;
  text = ap (λ (o : Outgoing). unwritten o) out;
  knows = subst (λ (p : Phase). PlainKnows None [] c.came.waiting p) (sym phase) (refl, sym waiting);
}

pub plain_calls_so : (own : Own) (number : ℕ) (c : PlainConnection) (mine : Hello) → own.key ≡ None → c.phase ≡ phases.Greeting (Some mine.version) → c.came.waiting ≡ [] → c.out ≡ fresh (Some mine)
    → Spoke (OwnHello mine ∷ []) own (silence (Some number)) (Plain c)
plain_calls_so own number c mine key phase waiting out =
    ∣ (begins_so (OwnHello mine ∷ []) own (Some number) c (Some mine.version) (Some mine) key phase waiting out (record { hello = mine; version = mine.version; among = inl refl; mine_is = refl }) tt) ∣₁

pub plain_listens_so : (own : Own) (c : PlainConnection) → own.key ≡ None → c.phase ≡ phases.Greeting None → c.came.waiting ≡ [] → c.out ≡ fresh None → Spoke [] own (silence None) (Plain c)
plain_listens_so own c key phase waiting out = ∣ (begins_so [] own None c None None key phase waiting out tt tt) ∣₁

-- ---- more is handed over

more_given : (given more : List Given) → Within given more → (own : Own) (talk : Talk) (c : PlainConnection) → PlainSpoke given own talk c → PlainSpoke more own talk c
more_given given more within own talk c so = record {
  key = so.key;
  waits = if_some (IsOwn given) (IsOwn more) c.out.hello (own_within given more within) so.waits;
  theirs = so.theirs;
  came = so.came;
  said = so.said;
  are = plains_within given more within so.theirs so.said so.are;
  first = so.first;
  text = so.text;
  knows = so.knows;
}

-- ---- a piece more

came_more : (came piece : List ℕ) (theirs : Hello) → CameFirst theirs came → CameFirst theirs (came ++ piece)
came_more came piece theirs is = record { is = is.is; rest = is.rest ++ piece; text = ap (λ (t : List ℕ). t ++ piece) is.text ∙ append_assoc (record_text (record_of.Hello theirs)) is.rest piece }

knows_more : (theirs : Option Hello) (came waiting piece : List ℕ) (phase : Phase) → PlainKnows theirs came waiting phase → PlainKnows theirs (came ++ piece) (waiting ++ piece) phase
knows_more theirs came waiting piece (phases.Greeting mine) knows = (knows.0, ap (λ (t : List ℕ). t ++ piece) knows.1)
knows_more theirs came waiting piece (phases.Asked hello) knows = knows
knows_more theirs came waiting piece (phases.Open hello) knows = knows
knows_more theirs came waiting piece (phases.Closed fault) knows = tt

pub plain_takes_so : (old new : PlainConnection) (piece : List ℕ) → new.came.waiting ≡ old.came.waiting ++ piece → new ≡ record old { came = new.came } → SpeaksOnWith (Plain old) (Plain new) piece
plain_takes_so old new piece waiting others given own talk spoke =
    ∥∥₁_map spoke (λ so. record {
      key = so.key;
      waits = subst (λ (o : Outgoing). IfSome o.hello (IsOwn given)) (sym (ap (λ (c : PlainConnection). c.out) others)) so.waits;
      theirs = so.theirs;
      came = if_some (λ hello. CameFirst hello talk.came) (λ hello. CameFirst hello (talk.came ++ piece)) so.theirs (came_more talk.came piece) so.came;
      said = so.said;
      are = so.are;
      first = subst (λ (o : Outgoing). GreetsFirst talk.dialled o.hello so.said) (sym (ap (λ (c : PlainConnection). c.out) others)) so.first;
      text = ap (λ (c : PlainConnection). talk.wrote ++ unwritten c.out) others ∙ so.text;
      knows =
          subst (λ (p : Phase). PlainKnows so.theirs (talk.came ++ piece) new.came.waiting p) (sym (ap (λ (c : PlainConnection). c.phase) others))
          (subst (λ (w : List ℕ). PlainKnows so.theirs (talk.came ++ piece) w old.phase) (sym waiting) (knows_more so.theirs talk.came old.came.waiting piece old.phase so.knows));
    })

-- ---- where what is said stays

-- how far it is, and what isn't read yet
alike_so : (given : List Given) (own : Own) (talk : Talk) (old new : PlainConnection) → new.out ≡ old.out → (so : PlainSpoke given own talk old) → PlainKnows so.theirs talk.came new.came.waiting new.phase → PlainSpoke given own talk new
alike_so given own talk old new out so knows = record {
  key = so.key;
  waits = subst (λ (o : Outgoing). IfSome o.hello (IsOwn given)) (sym out) so.waits;
  theirs = so.theirs;
  came = so.came;
  said = so.said;
  are = so.are;
  first = subst (λ (o : Outgoing). GreetsFirst talk.dialled o.hello so.said) (sym out) so.first;
  text = ap (λ (o : Outgoing). talk.wrote ++ unwritten o) out ∙ so.text;
  knows = knows;
}

-- ---- judging

opened_knows : (theirs : Option Hello) (came waiting : List ℕ) (hello : Hello) (verdict : Result (Unit {0}) PeerFault) → theirs ≡ Some hello → PlainKnows theirs came waiting (opened verdict hello)
opened_knows theirs came waiting hello (Ok done) is = is
opened_knows theirs came waiting hello (Err fault) is = tt

settled_knows : (node : Own) (dialled : Option ℕ) (met : List Met) (theirs : Option Hello) (came waiting : List ℕ) (phase : Phase) → PlainKnows theirs came waiting phase → PlainKnows theirs came waiting (settled node dialled met phase)
settled_knows node dialled met theirs came waiting (phases.Greeting mine) knows = knows
settled_knows node dialled met theirs came waiting (phases.Asked hello) knows = opened_knows theirs came waiting hello (judged node dialled met hello) knows
settled_knows node dialled met theirs came waiting (phases.Open hello) knows = knows
settled_knows node dialled met theirs came waiting (phases.Closed fault) knows = tt

settled_so : (node : Own) (dialled : Option ℕ) (met : List Met) (given : List Given) (own : Own) (talk : Talk) (c : PlainConnection) → PlainSpoke given own talk c → PlainSpoke given own talk (record c { phase = settled node dialled met c.phase })
settled_so node dialled met given own talk c so =
    alike_so given own talk c (record c { phase = settled node dialled met c.phase }) refl so (settled_knows node dialled met so.theirs talk.came c.came.waiting c.phase so.knows)

pub plain_settles_so : (node : Own) (dialled : Option ℕ) (met : List Met) (old new : PlainConnection) → new ≡ record old { phase = settled node dialled met old.phase } → SpeaksOn (Plain old) (Plain new)
plain_settles_so node dialled met old new e given own talk spoke = ∥∥₁_map spoke (λ so. subst (λ (c : PlainConnection). PlainSpoke given own talk c) (sym e) (settled_so node dialled met given own talk old so))

-- ---- the answer

greets_on : (dialled : Option ℕ) (waits : Option Hello) (mine : Hello) (said : List Record) → GreetsFirst dialled waits said → GreetsFirst dialled (Some mine) said
greets_on None waits mine said first = tt
greets_on (Some number) waits mine [] first = tt
greets_on (Some number) waits mine (one ∷ more) first = first

answered_so : (given : List Given) (own : Own) (talk : Talk) (c : PlainConnection) (mine : Hello) → IsOwn given mine → PlainSpoke given own talk c → PlainSpoke given own talk (record c { out = record c.out { hello = Some mine } })
answered_so given own talk c mine is so = record {
  key = so.key;
  waits = is;
  theirs = so.theirs;
  came = so.came;
  said = so.said;
  are = so.are;
  first = greets_on talk.dialled c.out.hello mine so.said so.first;
  text = so.text;
  knows = so.knows;
}

pub plain_answers_so : (old new : PlainConnection) (mine : Hello) → new ≡ record old { out = record old.out { hello = Some (in_version (version_in old.phase) mine) } } → SpeaksAs (Plain old) (Plain new) mine
plain_answers_so old new mine e given own talk spoke =
    ∥∥₁_map spoke (λ so. subst (λ (c : PlainConnection). PlainSpoke (OwnHello mine ∷ given) own talk c) (sym e)
    (answered_so (OwnHello mine ∷ given) own talk old (in_version (version_in old.phase) mine) (record { hello = mine; version = version_in old.phase; among = inl refl; mine_is = refl })
    (more_given given (OwnHello mine ∷ given) (within_own given mine) own talk old so)))

-- ---- what is written of it

written_so : (given : List Given) (own : Own) (talk : Talk) (c : PlainConnection) (count written : ℕ) → drop written c.out.begun.items ≡ drop count (unwritten c.out) → PlainSpoke given own talk c
    → PlainSpoke given own (record talk { wrote = talk.wrote ++ take count (unwritten c.out) }) (record c { out = record c.out { written = written } })
written_so given own talk c count written left so = record {
  key = so.key;
  waits = so.waits;
  theirs = so.theirs;
  came = so.came;
  said = so.said;
  are = so.are;
  first = so.first;
  text =
      append_assoc talk.wrote (take count (unwritten c.out)) (drop written c.out.begun.items)
      ∙ (ap (λ (t : List ℕ). talk.wrote ++ t) (ap (λ (t : List ℕ). take count (unwritten c.out) ++ t) left ∙ take-append-drop count (unwritten c.out)) ∙ so.text);
  knows = so.knows;
}

pub plain_writes_so : (old new : PlainConnection) (count : ℕ) → unwritten new.out ≡ drop count (unwritten old.out) → new ≡ record old { out = record old.out { written = new.out.written } } → SpeaksOnWritten (Plain old) (Plain new) count
plain_writes_so old new count left others given own talk spoke =
    let items : new.out.begun.items ≡ old.out.begun.items = ap (λ (c : PlainConnection). c.out.begun.items) others in
    let there : drop new.out.written old.out.begun.items ≡ drop count (unwritten old.out) = ap (λ (t : List ℕ). drop new.out.written t) (sym items) ∙ left in
    ∥∥₁_map spoke (λ so. subst (λ (c : PlainConnection). PlainSpoke given own (record talk { wrote = talk.wrote ++ take count (unwritten old.out) }) c) (sym others) (written_so given own talk old count new.out.written there so))

-- ---- a record that is begun

one_behind : (said : List Record) (one : Record) → texts (said ++ one ∷ []) ≡ texts said ++ record_text one
one_behind [] one = append-nil (record_text one)
one_behind (first ∷ said) one = ap (λ (t : List ℕ). record_text first ++ t) (one_behind said one) ∙ sym (append_assoc (record_text first) (texts said) (record_text one))

are_more : (given : List Given) (theirs : Option Hello) (said : List Record) (one : Record) → ArePlainTo given theirs said → IsPlainTo given theirs one → ArePlainTo given theirs (said ++ one ∷ [])
are_more given theirs [] one are is = (is, tt)
are_more given theirs (first ∷ said) one are is = (are.0, are_more given theirs said one are.1 is)

-- the own Hello goes first, or went
hello_first : (dialled : Option ℕ) (waits : Option Hello) (mine : Hello) (said : List Record) → GreetsFirst dialled waits said → GreetsFirst dialled None (said ++ record_of.Hello mine ∷ [])
hello_first None waits mine said first = tt
hello_first (Some number) waits mine [] first = tt
hello_first (Some number) waits mine (one ∷ more) first = first

one_first : (dialled : Option ℕ) (waits : Option Hello) (said : List Record) (one : Record) → waits ≡ None → GreetsFirst dialled waits said → GreetsFirst dialled waits (said ++ one ∷ [])
one_first None waits said one none first = tt
one_first (Some number) waits (other ∷ more) one none first = first
one_first (Some number) None [] one none first = absurd first
one_first (Some number) (Some mine) [] one none first = absurd cc

begun_text : (wrote left : List ℕ) (said : List Record) (one : Record) → length left ≡ 0 → wrote ++ left ≡ texts said → wrote ++ record_text one ≡ texts (said ++ one ∷ [])
begun_text wrote left said one none e = ap (λ (t : List ℕ). t ++ record_text one) (all_written wrote left (texts said) none e) ∙ sym (one_behind said one)

begun_so : (given : List Given) (own : Own) (talk : Talk) (c : PlainConnection) (one : Record) (left : Option Hello) → length (unwritten c.out) ≡ 0 → (so : PlainSpoke given own talk c) → IsPlainTo given so.theirs one → IfSome left (IsOwn given)
    → GreetsFirst talk.dialled left (so.said ++ one ∷ []) → PlainSpoke given own talk (record c { out = record { hello = left; begun = record { items = record_text one }; written = 0 } })
begun_so given own talk c one left none so is waits first = record {
  key = so.key;
  waits = waits;
  theirs = so.theirs;
  came = so.came;
  said = so.said ++ one ∷ [];
  are = are_more given so.theirs so.said one so.are is;
  first = first;
  text = begun_text talk.wrote (unwritten c.out) so.said one none so.text;
  knows = so.knows;
}

-- what waits may be said without codes too
plain_to : (given : List Given) (theirs : Hello) (one : Record) → IsSaidTo given (Some theirs) one → IsPlainTo given (Some theirs) one
plain_to given theirs (record_of.Hello hello) is = absurd is
plain_to given theirs (record_of.Frame frame) is = is
plain_to given theirs (record_of.Beat beat) is = is
plain_to given theirs (record_of.More more) is = is
plain_to given theirs (record_of.Proof proof) is = is

said_so : (given : List Given) (own : Own) (talk : Talk) (c : PlainConnection) (theirs : Hello) (said : Option Record) → length (unwritten c.out) ≡ 0 → c.out.hello ≡ None → (so : PlainSpoke given own talk c) → so.theirs ≡ Some theirs
    → IfSome said (λ one. IsSaidTo given (Some theirs) one) → PlainSpoke given own talk (said_next c said)
said_so given own talk c theirs None none hello so there is = so
said_so given own talk c theirs (Some one) none hello so there is =
    begun_so given own talk c one c.out.hello none so (subst (λ (t : Option Hello). IsPlainTo given t one) (sym there) (plain_to given theirs one is)) so.waits (one_first talk.dialled c.out.hello so.said one hello so.first)

either_so : (given : List Given) (own : Own) (talk : Talk) (b : Bool) (c : PlainConnection) (w : Waits) (p : PlainConnection × Waits) → PlainSpoke given own talk p.0 → PlainSpoke given own talk c → PlainSpoke given own talk (if b then p else (c, w)).0
either_so given own talk true c w p one other = one
either_so given own talk false c w p one other = other

by_so : (given : List Given) (own : Own) (talk : Talk) (phase : Phase) (c : PlainConnection) (w : Waits) → c.phase ≡ phase → length (unwritten c.out) ≡ 0 → c.out.hello ≡ None → PlainSpoke (frames_for (peer_in phase) w.frames given) own talk c
    → PlainSpoke (frames_for (peer_in phase) w.frames given) own talk (begun_by phase c w).0
by_so given own talk (phases.Open theirs) c w phase none hello so =
    let all : List Given = frames_for (Some theirs.ends.from) w.frames given in
    let there : so.theirs ≡ Some theirs = subst (λ (p : Phase). PlainKnows so.theirs talk.came c.came.waiting p) phase so.knows in
    either_so all own talk (has_next theirs.version w) c w (begun_open theirs.version c w) (said_so all own talk c theirs (next_of theirs.version w) none hello so there (next_said given theirs theirs.version w)) so
by_so given own talk (phases.Greeting mine) c w phase none hello so = so
by_so given own talk (phases.Asked theirs) c w phase none hello so = so
by_so given own talk (phases.Closed fault) c w phase none hello so = so

first_so : (given : List Given) (own : Own) (talk : Talk) (hello : Option Hello) (c : PlainConnection) (w : Waits) → length (unwritten c.out) ≡ 0 → c.out.hello ≡ hello → PlainSpoke (frames_for (peer_in c.phase) w.frames given) own talk c
    → PlainSpoke (frames_for (peer_in c.phase) w.frames given) own talk (begun_first hello c.phase c w).0
first_so given own talk None c w none e so = by_so given own talk c.phase c w refl none e so
first_so given own talk (Some mine) c w none e so =
    let all : List Given = frames_for (peer_in c.phase) w.frames given in
    begun_so all own talk c (record_of.Hello mine) None none so (subst (λ (h : Option Hello). IfSome h (IsOwn all)) e so.waits) tt (hello_first talk.dialled c.out.hello mine so.said so.first)

if_so : (given : List Given) (own : Own) (talk : Talk) (c : PlainConnection) (w : Waits) (p : PlainConnection × Waits) (b : Bool) → (b ≡ true → PlainSpoke given own talk p.0) → PlainSpoke given own talk c → PlainSpoke given own talk (if b then p else (c, w)).0
if_so given own talk c w p true one other = one refl
if_so given own talk c w p false one other = other

next_so : (given : List Given) (own : Own) (talk : Talk) (c : PlainConnection) (w : Waits) → PlainSpoke (frames_for (peer_in c.phase) w.frames given) own talk c → PlainSpoke (frames_for (peer_in c.phase) w.frames given) own talk (begun_next c w).0
unfolding begun_next
next_so given own talk c w so =
    if_so (frames_for (peer_in c.phase) w.frames given) own talk c w (begun_first c.out.hello c.phase c w) (length (unwritten c.out) == 0)
    (λ none. first_so given own talk c.out.hello c w (eqb-true (length (unwritten c.out)) 0 none) refl so) so

pub plain_says_so : (old new : PlainConnection) (w : Waits) → new ≡ (begun_next old w).0 → SpeaksOf (Plain old) (Plain new) (peer_of (Plain old)) w.frames
plain_says_so old new w e given own talk spoke =
    let all : List Given = frames_for (peer_in old.phase) w.frames given in
    ∥∥₁_map spoke (λ so. subst (λ (c : PlainConnection). PlainSpoke all own talk c) (sym e) (next_so given own talk old w (more_given given all (within_frames (peer_in old.phase) w.frames given) own talk old so)))

-- ---- what came

-- before the other's Hello came nothing is said but own ones
plains_later : (given : List Given) (theirs : Hello) (said : List Record) → ArePlainTo given None said → ArePlainTo given (Some theirs) said
plains_later given theirs [] are = tt
plains_later given theirs (record_of.Hello hello ∷ said) are = (are.0, plains_later given theirs said are.1)
plains_later given theirs (record_of.Frame frame ∷ said) are = absurd are.0
plains_later given theirs (record_of.Beat beat ∷ said) are = absurd are.0
plains_later given theirs (record_of.More more ∷ said) are = absurd are.0
plains_later given theirs (record_of.Proof proof ∷ said) are = absurd are.0

-- so is a connection that is this far, and of which so much isn't read
abbrev SoAt : List Given → Own → Talk → Outgoing → Queued → Phase → Type 0
SoAt given own talk out came phase = PlainSpoke given own talk (record { phase = phase; came = came; out = out })

closed_so : (given : List Given) (own : Own) (talk : Talk) (c : PlainConnection) (came : Queued) (fault : PeerFault) → PlainSpoke given own talk c → SoAt given own talk c.out came (phases.Closed fault)
closed_so given own talk c came fault so = alike_so given own talk c (record { phase = phases.Closed fault; came = came; out = c.out }) refl so tt

greets_so : (given : List Given) (own : Own) (talk : Talk) (c : PlainConnection) (came : Queued) (mine : Option Version) (hello : Hello) → c.phase ≡ phases.Greeting mine → IsRecord (record_of.Hello hello)
    → c.came.waiting ≡ record_text (record_of.Hello hello) ++ came.waiting → PlainSpoke given own talk c → SoAt given own talk c.out came (phases.Asked hello)
greets_so given own talk c came mine hello phase is text so =
    let knows : PlainKnows so.theirs talk.came c.came.waiting (phases.Greeting mine) = subst (λ (p : Phase). PlainKnows so.theirs talk.came c.came.waiting p) phase so.knows in
    record {
      key = so.key;
      waits = so.waits;
      theirs = Some hello;
      came = record { is = is; rest = came.waiting; text = knows.1 ∙ text };
      said = so.said;
      are = plains_later given hello so.said (subst (λ (t : Option Hello). ArePlainTo given t so.said) knows.0 so.are);
      first = so.first;
      text = so.text;
      knows = refl;
    }

stays_so : (given : List Given) (own : Own) (talk : Talk) (c : PlainConnection) (came : Queued) (hello : Hello) → c.phase ≡ phases.Open hello → PlainSpoke given own talk c → SoAt given own talk c.out came (phases.Open hello)
stays_so given own talk c came hello phase so =
    alike_so given own talk c (record { phase = phases.Open hello; came = came; out = c.out }) refl so (subst (λ (p : Phase). PlainKnows so.theirs talk.came c.came.waiting p) phase so.knows)

stepped_so : (given : List Given) (own : Own) (talk : Talk) (c : PlainConnection) (came : Queued) (phase : Phase) (said : Record) → c.phase ≡ phase → IsRecord said → c.came.waiting ≡ record_text said ++ came.waiting
    → PlainSpoke given own talk c → SoAt given own talk c.out came (stepped phase said).phase
stepped_so given own talk c came (phases.Greeting mine) (record_of.Hello hello) e is text so =
    greeted_phase (is_version mine hello.version) (λ (p : Phase). SoAt given own talk c.out came p) hello (λ same. greets_so given own talk c came mine hello e is text so) (λ fault. closed_so given own talk c came fault so)
stepped_so given own talk c came (phases.Greeting mine) (record_of.Proof proof) e is text so = closed_so given own talk c came _ so
stepped_so given own talk c came (phases.Greeting mine) (record_of.More more) e is text so = closed_so given own talk c came _ so
stepped_so given own talk c came (phases.Greeting mine) (record_of.Frame frame) e is text so = closed_so given own talk c came _ so
stepped_so given own talk c came (phases.Greeting mine) (record_of.Beat beat) e is text so = closed_so given own talk c came _ so
stepped_so given own talk c came (phases.Asked hello) said e is text so = closed_so given own talk c came _ so
stepped_so given own talk c came (phases.Open other) (record_of.Hello hello) e is text so = closed_so given own talk c came _ so
stepped_so given own talk c came (phases.Open other) (record_of.Proof proof) e is text so = closed_so given own talk c came _ so
stepped_so given own talk c came (phases.Open other) (record_of.More more) e is text so =
    further_phase (read_behind other more) (λ (p : Phase). SoAt given own talk c.out came p) other (λ further read. stays_so given own talk c came other e so) (λ fault. closed_so given own talk c came fault so)
stepped_so given own talk c came (phases.Open other) (record_of.Frame frame) e is text so = stays_so given own talk c came other e so
stepped_so given own talk c came (phases.Open other) (record_of.Beat beat) e is text so = stays_so given own talk c came other e so
stepped_so given own talk c came (phases.Closed fault) said e is text so = closed_so given own talk c came fault so

step_so : (given : List Given) (own : Own) (talk : Talk) (c : PlainConnection) (came : Queued) (read : Result Record RecordFault) → IsFront c.came.waiting read came.waiting → PlainSpoke given own talk c
    → SoAt given own talk c.out came (step_by c.phase read).phase
step_so given own talk c came (Err fault) front so = closed_so given own talk c came _ so
step_so given own talk c came (Ok said) front so = stepped_so given own talk c came c.phase said refl front.0 front.1 so

reads_so : (given : List Given) (own : Own) (talk : Talk) (old new : PlainConnection) (told : Told) → Reads old new told → PlainSpoke given own talk old → PlainSpoke given own talk new
reads_so given own talk old new told reads so = subst (λ (c : PlainConnection). PlainSpoke given own talk c) (sym reads.others) (step_so given own talk old new.came reads.read reads.front so)

same_so : (given : List Given) (own : Own) (talk : Talk) (old new : PlainConnection) → new ≡ old → PlainSpoke given own talk old → PlainSpoke given own talk new
same_so given own talk old new e so = subst (λ (c : PlainConnection). PlainSpoke given own talk c) (sym e) so

nexts_so : (given : List Given) (own : Own) (talk : Talk) (phase : Phase) (old new : PlainConnection) (result : Option Told) → Next phase old result new → PlainSpoke given own talk old → PlainSpoke given own talk new
nexts_so given own talk (phases.Asked hello) old new result next so = same_so given own talk old new next.1 so
nexts_so given own talk (phases.Closed fault) old new result next so = same_so given own talk old new next.1 so
nexts_so given own talk (phases.Greeting mine) old new None next so = same_so given own talk old new next.1 so
nexts_so given own talk (phases.Greeting mine) old new (Some told) next so = reads_so given own talk old new told next so
nexts_so given own talk (phases.Open other) old new None next so = same_so given own talk old new next.1 so
nexts_so given own talk (phases.Open other) old new (Some told) next so = reads_so given own talk old new told next so

pub plain_nexts_so : (old new : PlainConnection) (result : Option Told) → Next old.phase old result new → SpeaksOn (Plain old) (Plain new)
plain_nexts_so old new result next given own talk spoke = ∥∥₁_map spoke (λ so. nexts_so given own talk old.phase old new result next so)
