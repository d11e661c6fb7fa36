-- What calls leave of what a connection with codes wrote.
use Rattle.std.proofs.Common.{◌≡◌, inl, inr, ◌⊎◌, ℕ, ◌-◌, nat_le, ◌==◌, not, Bool, true, false, if◌then◌else◌, cond, List, [], ◌∷◌, ◌++◌, length, take, drop, append_assoc, append-nil, Option, Some, None, IfSome, Result, Ok, Err, refl, sym, ap, subst, ◌∙◌}
use Rattle.std.proofs.Math.Logic.{∥∥₁_map}
use Rattle.std.proofs.lemmas.List.{take-append-drop}
use Rattle.std.specs.Str.{bytes_eq}
use Rattle.byte_queue.specs.Queued.{Queued}
use Rattle.peer_codes.specs.declared.limits.TheConstants.{TAG_BYTES, LEAST_FRAME}
use Rattle.peer_codes.specs.declared.fault.RecordFault.{RecordFault}
use Rattle.peer_codes.specs.declared.fault.RecordFault.TheVariants.{BadLength, BadKind, BadHello}
use Rattle.peer_codes.specs.declared.connection_fault.ConnectionFault.{ConnectionFault}
use Rattle.peer_codes.specs.declared.connection_fault.ConnectionFault.TheVariants as channel_faults
use Rattle.peer_codes.specs.declared.event.Event.{Event}
use Rattle.peer_codes.specs.declared.event.Event.TheVariants as events
use Rattle.peer_codes.specs.declared.beat.Beat.{Beat}
use Rattle.peer_codes.specs.declared.frame.Frame.{Frame}
use Rattle.peer_codes.specs.declared.hello.Hello.{Hello}
use Rattle.peer_codes.specs.declared.key.Key.{Key}
use Rattle.peer_codes.specs.declared.kind.Kind.{Kind}
use Rattle.peer_codes.specs.declared.kind.Kind.TheVariants as kind_of
use Rattle.peer_codes.specs.declared.more.More.{More}
use Rattle.peer_codes.specs.declared.version.Version.{Version}
use Rattle.peer_codes.specs.declared.version.Version.TheVariants.{First, Second}
use Rattle.peer_codes.specs.declared.records.Proof.{Proof}
use Rattle.peer_codes.specs.declared.records.Record.{Record}
use Rattle.peer_codes.specs.declared.records.Record.TheVariants as record_of
use Rattle.peer_codes.specs.declared.role.Role.{Role}
use Rattle.peer_codes.specs.declared.role.Role.TheVariants.{Called}
use Rattle.peer_codes.specs.declared.way.Way.{Way}
use Rattle.peer_codes.specs.declared.phase.Ways.{Ways}
use Rattle.peer_codes.specs.declared.phase.Phase.{Phase}
use Rattle.peer_codes.specs.declared.phase.Phase.TheVariants as phases
use Rattle.peer_codes.specs.declared.outgoing.Outgoing.{Outgoing}
use Rattle.peer_codes.specs.declared.connection.Connection.{Connection as Channel}
use Rattle.peer_codes.specs.Beginning.{Begins as ChannelBegins, TextBegun, CodedBegun}
use Rattle.peer_codes.specs.Codes.{after, coded, uncovered}
use Rattle.peer_codes.specs.Connections.{Reads, Next, met as met_by, turned_away, answered, takes_more, with_more, begun_next}
use Rattle.peer_codes.specs.Faults.{kind_in, front}
use Rattle.peer_codes.specs.Histories.{said_phase}
use Rattle.peer_codes.specs.Outgoings.{unwritten, with_begun, and_frame}
use Rattle.peer_codes.specs.Reading.{hello_of, beat_of, is_frame}
use Rattle.peer_codes.specs.Spelling.{kind, body, record_text}
use Rattle.peer_codes.specs.Steps.{only_coded, of_version, closed, opened, heard, greeted, front_step, step_by, stepped, on_proof, frame_heard, beat_heard, beat_told, more_heard, on_more}
use Rattle.peer_codes.specs.Telling.{ToldBy, IsGreeting, IsOpened, IsHeard, own_proof}
use Rattle.peer_codes.specs.Versions.{same_version}
use Rattle.node_links.specs.declared.further.Further.{Further}
use Rattle.node_links.specs.declared.peer_fault.PeerFault.{PeerFault}
use Rattle.node_links.specs.declared.own.Own.{Own}
use Rattle.node_links.specs.declared.own.Met.{Met}
use Rattle.node_links.specs.declared.stage.Stage.{Stage}
use Rattle.node_links.specs.declared.stage.Stage.TheVariants as stages
use Rattle.node_links.specs.declared.coded_connection.CodedConnection.{CodedConnection}
use Rattle.node_links.specs.declared.connection.Connection.TheVariants.{Coded}
use Rattle.node_links.specs.Coding.{on_further, coded_step, peer_fault_of, matched, taken, settled_stage, peer_at, Hears, HearsOrWaits, HearsProof, NextCoded, has_said_hello, given as puts, begun_open, begun_by, begun_coded}
use Rattle.node_links.specs.Judging.{judged_match, judged_known}
use Rattle.node_links.specs.Telling.{read_behind}
use Rattle.node_links.specs.Versions.{in_version, version_at}
use Rattle.node_links.specs.Waits.{Waits}
use Rattle.node_links.specs.Waiting.{next_of, next_by, next_behind, more_of, first_frame, has_next}
use Rattle.node_links.specs.Talks.{Talk, role_of, IsHelloIn}
use Rattle.node_links.specs.Going.{HasHello, peer_of, silence}
use Rattle.node_links.specs.Speaking.{Given, OwnHello, IsOwn, frames_for, IsSaidTo, said_to, IsKnown, our_way, our_proof, way_on, coded_on, CameCoded, IsSoFar, IsOurWay, KnowsHellos, IsOfStage, CodedSpoke, Spoke, SpeaksOn, SpeaksOnWith, SpeaksOnWritten, SpeaksAs, SpeaksOf}
use Rattle.node_links.proofs.CodedGoing.{Told, Came, Stands, BeginsEach, WaitsEach, version_same, all_written, read_of, key_kept, front_taken, fault_is_told, step_behind}
use Rattle.node_links.proofs.Handing.{Within, within_own, within_frames, if_some, own_within, said_within, are_within}

-- where a call of `next` changes what is to be said, it told a Hello
abbrev pub SaysProof : Type 0
SaysProof = (old new : Channel) (result : Option Came) → Next old.phase old result new → (new.out ≡ old.out) ⊎ ((hello : Hello) × (result ≡ Some (Ok (events.Greeted hello))))

-- ---- by its parts

channel_is : (c : Channel) (key : Key) (phase : Phase) (came : Queued) (out : Outgoing) → c.key ≡ key → c.phase ≡ phase → c.came ≡ came → c.out ≡ out → c ≡ record { key = key; phase = phase; came = came; out = out }
channel_is c key phase came out k p q o =
    ap (λ (x : Key). let d : Channel = record { key = x; phase = c.phase; came = c.came; out = c.out } in d) k ∙ (ap (λ (x : Phase). let d : Channel = record { key = key; phase = x; came = c.came; out = c.out } in d) p
    ∙ (ap (λ (x : Queued). let d : Channel = record { key = key; phase = phase; came = x; out = c.out } in d) q ∙ ap (λ (x : Outgoing). let d : Channel = record { key = key; phase = phase; came = came; out = x } in d) o))

some_is : (a b : Hello) → Some a ≡ Some b → a ≡ b
some_is a b e = cc

-- another stage of the same channel
of_stage : (given : List Given) (own : Own) (talk : Talk) (c : Channel) (old new : Stage) (so : CodedSpoke given own talk c old) → IsOfStage so.mine so.theirs new → CodedSpoke given own talk c new
of_stage given own talk c old new so is = record { key = so.key; mine = so.mine; own_is = so.own_is; theirs = so.theirs; came = so.came; said = so.said; are = so.are; waits = so.waits; text = so.text; knows = so.knows; stage_is = is }

-- ---- more is handed over

more_given : (given more : List Given) → Within given more → (own : Own) (talk : Talk) (c : Channel) (stage : Stage) → CodedSpoke given own talk c stage → CodedSpoke more own talk c stage
more_given given more within own talk c stage so = record {
  key = so.key;
  mine = so.mine;
  own_is = if_some (IsOwn given) (IsOwn more) so.mine (own_within given more within) so.own_is;
  theirs = so.theirs;
  came = so.came;
  said = so.said;
  are = are_within given more within (said_to so.mine so.theirs) so.said so.are;
  waits =
      if_some (λ frame. IsSaidTo given (said_to so.mine so.theirs) (record_of.Frame frame)) (λ frame. IsSaidTo more (said_to so.mine so.theirs) (record_of.Frame frame)) c.out.frame
      (λ frame is. said_within given more within (said_to so.mine so.theirs) (record_of.Frame frame) is) so.waits;
  text = so.text;
  knows = so.knows;
  stage_is = so.stage_is;
}

-- ---- its beginning

abbrev fresh : Option Hello → Outgoing
fresh mine = record { hello = mine; proof = None; beat = None; more = None; frame = None; begun = record { items = [] }; written = 0 }

begins_so : (own : Own) (number : ℕ) (key : Key) (came : Queued) (mine : Hello) → own.key ≡ Some key → came.waiting ≡ []
    → CodedSpoke (OwnHello mine ∷ []) own (silence (Some number)) (record { key = key; phase = phases.Greeting (Some mine); came = came; out = fresh (Some mine) }) stages.Greeting
begins_so own number key came mine own_key none = record {
  key = own_key;
  mine = Some mine;
  own_is = record { hello = mine; version = mine.version; among = inl refl; mine_is = refl };
  theirs = None;
  came = tt;
  said = [];
  are = tt;
  waits = tt;
  text = (refl, refl, inl (refl, refl));
  knows = (refl, refl, tt, sym none);
  stage_is = tt;
}

listens_so : (own : Own) (key : Key) (came : Queued) → own.key ≡ Some key → came.waiting ≡ []
    → CodedSpoke [] own (silence None) (record { key = key; phase = phases.Greeting None; came = came; out = fresh None }) stages.Greeting
listens_so own key came own_key none = record { key = own_key; mine = None; own_is = tt; theirs = None; came = tt; said = []; are = tt; waits = tt; text = (refl, refl, refl, refl); knows = (refl, refl, refl, sym none); stage_is = tt }

fresh_so : (given : List Given) (own : Own) (talk : Talk) (c : CodedConnection) (key : Key) (phase : Phase) (out : Outgoing) → c.stage ≡ stages.Greeting → c.channel.phase ≡ phase → c.channel.key ≡ key → c.channel.out ≡ out
    → CodedSpoke given own talk (record { key = key; phase = phase; came = c.channel.came; out = out }) stages.Greeting → Spoke given own talk (Coded c)
fresh_so given own talk c key phase out stage phase_is key_is out_is so =
    ∣ (subst (λ (s : Stage). CodedSpoke given own talk c.channel s) (sym stage) (subst (λ (d : Channel). CodedSpoke given own talk d stages.Greeting) (sym (channel_is c.channel key phase c.channel.came out key_is phase_is refl out_is)) so)) ∣₁

pub coded_calls_so : (own : Own) (number : ℕ) (c : CodedConnection) (key : Key) (mine : Hello) → own.key ≡ Some key → c.stage ≡ stages.Greeting → c.channel.phase ≡ phases.Greeting (Some mine) → c.channel.key ≡ key
    → c.channel.came.waiting ≡ [] → c.channel.out ≡ fresh (Some mine) → Spoke (OwnHello mine ∷ []) own (silence (Some number)) (Coded c)
coded_calls_so own number c key mine own_key stage phase key_is waiting out =
    fresh_so (OwnHello mine ∷ []) own (silence (Some number)) c key (phases.Greeting (Some mine)) (fresh (Some mine)) stage phase key_is out (begins_so own number key c.channel.came mine own_key waiting)

pub coded_listens_so : (own : Own) (c : CodedConnection) (key : Key) → own.key ≡ Some key → c.stage ≡ stages.Greeting → c.channel.phase ≡ phases.Greeting None → c.channel.key ≡ key → c.channel.came.waiting ≡ [] → c.channel.out ≡ fresh None
    → Spoke [] own (silence None) (Coded c)
coded_listens_so own c key own_key stage phase key_is waiting out = fresh_so [] own (silence None) c key (phases.Greeting None) (fresh None) stage phase key_is out (listens_so own key c.channel.came own_key waiting)

-- ---- a piece more

pub came_more : (came piece : List ℕ) (theirs : Hello) → CameCoded theirs came → CameCoded theirs (came ++ piece)
came_more came piece theirs is = record { hello = is.hello; is = is.is; rest = is.rest ++ piece; text = ap (λ (t : List ℕ). t ++ piece) is.text ∙ append_assoc is.hello is.rest piece }

knows_more : (key : Key) (dialled : Option ℕ) (mine theirs : Option Hello) (said : List Record) (came waiting piece : List ℕ) (phase : Phase) → KnowsHellos key dialled mine theirs said came waiting phase
    → KnowsHellos key dialled mine theirs said (came ++ piece) (waiting ++ piece) phase
knows_more key dialled mine theirs said came waiting piece (phases.Greeting own) knows = (knows.0, knows.1, knows.2, ap (λ (t : List ℕ). t ++ piece) knows.3)
knows_more key dialled mine theirs said came waiting piece (phases.Asked caller) knows = knows
knows_more key dialled mine theirs said came waiting piece phases.Refused knows = knows
knows_more key dialled mine theirs said came waiting piece (phases.Proving proof ways) knows = knows
knows_more key dialled mine theirs said came waiting piece (phases.Open ways) knows = knows
knows_more key dialled mine theirs said came waiting piece (phases.Closed fault) knows = tt

piece_so : (given : List Given) (own : Own) (talk : Talk) (c : Channel) (came : Queued) (stage : Stage) (piece : List ℕ) → came.waiting ≡ c.came.waiting ++ piece → CodedSpoke given own talk c stage
    → CodedSpoke given own (record talk { came = talk.came ++ piece }) (record c { came = came }) stage
piece_so given own talk c came stage piece waiting so = record {
  key = so.key;
  mine = so.mine;
  own_is = so.own_is;
  theirs = so.theirs;
  came = if_some (λ hello. CameCoded hello talk.came) (λ hello. CameCoded hello (talk.came ++ piece)) so.theirs (came_more talk.came piece) so.came;
  said = so.said;
  are = so.are;
  waits = so.waits;
  text = so.text;
  knows =
      subst (λ (w : List ℕ). KnowsHellos c.key talk.dialled so.mine so.theirs so.said (talk.came ++ piece) w c.phase) (sym waiting)
      (knows_more c.key talk.dialled so.mine so.theirs so.said talk.came c.came.waiting piece c.phase so.knows);
  stage_is = so.stage_is;
}

pub coded_takes_so : (old new : CodedConnection) (piece : List ℕ) → new.channel.came.waiting ≡ old.channel.came.waiting ++ piece → new ≡ record old { channel = record old.channel { came = new.channel.came } }
    → SpeaksOnWith (Coded old) (Coded new) piece
coded_takes_so old new piece waiting others given own talk spoke =
    ∥∥₁_map spoke (λ so. subst (λ (c : CodedConnection). CodedSpoke given own (record talk { came = talk.came ++ piece }) c.channel c.stage) (sym others) (piece_so given own talk old.channel new.channel.came old.stage piece waiting so))

-- ---- judging

matched_is : (mine theirs : Option Hello) (verdict : Result (Unit {0}) PeerFault) (hello : Hello) → theirs ≡ Some hello → IsOfStage mine theirs (matched verdict hello)
matched_is mine theirs (Ok done) hello is = is
matched_is mine theirs (Err fault) hello is = tt

taken_is : (mine theirs : Option Hello) (verdict : Result (Unit {0}) PeerFault) (hello : Hello) → IsOfStage mine theirs (stages.Proved hello) → IsOfStage mine theirs (taken verdict hello)
taken_is mine theirs (Ok done) hello is = is
taken_is mine theirs (Err fault) hello is = tt

settled_is : (own : Own) (dialled : Option ℕ) (met : List Met) (mine theirs : Option Hello) (stage : Stage) → IsOfStage mine theirs stage → IsOfStage mine theirs (settled_stage own dialled met stage)
settled_is own dialled met mine theirs (stages.Asked hello) is = matched_is mine theirs (judged_match own dialled hello) hello is
settled_is own dialled met mine theirs (stages.Proved hello) is = taken_is mine theirs (judged_known own met hello) hello is
settled_is own dialled met mine theirs stages.Greeting is = tt
settled_is own dialled met mine theirs (stages.Matched hello) is = is
settled_is own dialled met mine theirs (stages.Open hello) is = is
settled_is own dialled met mine theirs (stages.Closed fault) is = tt

pub coded_settles_so : (node : Own) (dialled : Option ℕ) (met : List Met) (old new : CodedConnection) → new ≡ record old { stage = settled_stage node dialled met old.stage } → SpeaksOn (Coded old) (Coded new)
coded_settles_so node dialled met old new e given own talk spoke =
    ∥∥₁_map spoke (λ so. subst (λ (c : CodedConnection). CodedSpoke given own talk c.channel c.stage) (sym e)
    (of_stage given own talk old.channel old.stage (settled_stage node dialled met old.stage) so (settled_is node dialled met so.mine so.theirs old.stage so.stage_is)))

-- ---- the answer

-- before the own Hello is known nothing is said
silent_so : (key : Key) (role : Role) (mine theirs : Option Hello) (said : List Record) (hello : Option Hello) (proof : Option Proof) (text : List ℕ) → mine ≡ None → IsSoFar key role mine theirs said hello proof text
    → (said ≡ []) × (text ≡ []) × (proof ≡ None)
silent_so key role None theirs said hello proof text e is = (is.2, is.3, is.1)
silent_so key role (Some mine) theirs said hello proof text e is = absurd cc

-- and no frame waits
unheld : (given : List Given) (mine theirs to : Option Hello) (frame : Option Frame) → mine ≡ None → IfSome frame (λ f. IsSaidTo given (said_to mine theirs) (record_of.Frame f)) → IfSome frame (λ f. IsSaidTo given to (record_of.Frame f))
unheld given None theirs to frame e waits = if_some (λ f. ⊥) (λ f. IsSaidTo given to (record_of.Frame f)) frame (λ f no. absurd no) waits
unheld given (Some mine) theirs to frame e waits = absurd cc

-- a stage before the proof, by the Hello that came alone
early_is : (mine mine_new theirs theirs_new : Option Hello) (stage : Stage) → mine ≡ None → theirs ≡ theirs_new → IsOfStage mine theirs stage → IsOfStage mine_new theirs_new stage
early_is mine mine_new theirs theirs_new stages.Greeting none same is = tt
early_is mine mine_new theirs theirs_new (stages.Asked hello) none same is = sym same ∙ is
early_is mine mine_new theirs theirs_new (stages.Matched hello) none same is = sym same ∙ is
early_is mine mine_new theirs theirs_new (stages.Proved hello) none same ((own, some), is) = let e : None ≡ Some own = sym none ∙ some in absurd cc
early_is mine mine_new theirs theirs_new (stages.Open hello) none same ((own, some), is) = let e : None ≡ Some own = sym none ∙ some in absurd cc
early_is mine mine_new theirs theirs_new (stages.Closed fault) none same is = tt

-- both Hellos are known now
met_so : (given : List Given) (own : Own) (talk : Talk) (c : Channel) (stage : Stage) (caller mine : Hello) → IsOwn given mine → c.phase ≡ phases.Asked caller → CodedSpoke given own talk c stage → CodedSpoke given own talk (met_by caller mine c) stage
met_so given own talk c stage caller mine is_own phase so =
    let knows : KnowsHellos c.key talk.dialled so.mine so.theirs so.said talk.came c.came.waiting (phases.Asked caller) = subst (λ (p : Phase). KnowsHellos c.key talk.dialled so.mine so.theirs so.said talk.came c.came.waiting p) phase so.knows in
    let silent = silent_so c.key (role_of talk.dialled) so.mine so.theirs so.said c.out.hello c.out.proof (talk.wrote ++ unwritten c.out) knows.0 so.text in
    let role : Called ≡ role_of talk.dialled = sym (ap (λ (d : Option ℕ). role_of d) knows.2) in
    record {
      key = so.key;
      mine = Some mine;
      own_is = is_own;
      theirs = Some caller;
      came = subst (λ (t : Option Hello). IfSome t (λ hello. CameCoded hello talk.came)) knows.1 so.came;
      said = [];
      are = tt;
      waits = unheld given so.mine so.theirs (Some caller) c.out.frame knows.0 so.waits;
      text = subst (λ (r : Role). IsSoFar c.key r (Some mine) (Some caller) [] (Some mine) (Some (our_proof c.key Called mine caller)) (talk.wrote ++ unwritten c.out)) role (refl, refl, refl, silent.1);
      knows = subst (λ (r : Role). IsOurWay c.key r (Some mine) (Some caller) [] (our_way c.key Called mine caller)) role (record { own = mine; own_is = refl; other = caller; other_is = refl; way_is = refl });
      stage_is = early_is so.mine (Some mine) so.theirs (Some caller) stage knows.0 knows.1 so.stage_is;
    }

-- the own Hello is said alone
away_so : (given : List Given) (own : Own) (talk : Talk) (c : Channel) (stage : Stage) (mine : Hello) (so : CodedSpoke given own talk c stage) → IsOwn given mine → so.mine ≡ None → IsOfStage (Some mine) None stage
    → CodedSpoke given own talk (turned_away mine c) stage
away_so given own talk c stage mine so is_own none is =
    let silent = silent_so c.key (role_of talk.dialled) so.mine so.theirs so.said c.out.hello c.out.proof (talk.wrote ++ unwritten c.out) none so.text in
    record { key = so.key; mine = Some mine; own_is = is_own; theirs = None; came = tt; said = []; are = tt; waits = unheld given so.mine so.theirs None c.out.frame none so.waits; text = (silent.2, refl, inl (refl, silent.1)); knows = tt; stage_is = is }

-- the Hello that is judged is the one that is answered
caller_is : (theirs : Option Hello) (hello caller : Hello) → theirs ≡ Some hello → theirs ≡ Some caller → hello ≡ caller
caller_is theirs hello caller one other = some_is hello caller (sym one ∙ other)

refused_is : (mine theirs : Option Hello) (stage : Stage) (new : Hello) → mine ≡ None → theirs ≡ None → IsOfStage mine theirs stage → IsOfStage (Some new) None stage
refused_is mine theirs stage new none same is = early_is mine (Some new) theirs None stage none same is

-- where it answers so
abbrev SaysTo : List Given → Own → Talk → Channel → Stage → Hello → Phase → Type 0
SaysTo given own talk c stage mine phase = CodedSpoke given own talk (answered phase mine c) stage

same_version_so : (given : List Given) (own : Own) (talk : Talk) (c : Channel) (stage : Stage) (caller mine : Hello) → same_version caller.version mine.version ≡ true → IsOwn given mine → c.phase ≡ phases.Asked caller → CodedSpoke given own talk c stage
    → SaysTo given own talk c stage mine (phases.Asked caller)
same_version_so given own talk c stage caller mine same is_own phase so =
    subst (λ (b : Bool). CodedSpoke given own talk (cond b (met_by caller mine c) (turned_away mine c)) stage) (sym same) (met_so given own talk c stage caller mine is_own phase so)

either_so : (given : List Given) (own : Own) (talk : Talk) (c : Channel) (stage : Stage) (caller mine : Hello) (b : Bool) → IsOwn given mine → c.phase ≡ phases.Asked caller → (so : CodedSpoke given own talk c stage) → so.mine ≡ None → IsOfStage (Some mine) None stage
    → CodedSpoke given own talk (cond b (met_by caller mine c) (turned_away mine c)) stage
either_so given own talk c stage caller mine true is_own phase so none is = met_so given own talk c stage caller mine is_own phase so
either_so given own talk c stage caller mine false is_own phase so none is = away_so given own talk c stage mine so is_own none is

asked_so : (given : List Given) (own : Own) (talk : Talk) (c : Channel) (stage : Stage) (caller hello : Hello) → IsOwn given hello → c.phase ≡ phases.Asked caller → (so : CodedSpoke given own talk c stage) → so.mine ≡ None → so.theirs ≡ Some caller
    → SaysTo given own talk c stage (in_version (version_at stage) hello) (phases.Asked caller)
asked_so given own talk c stages.Greeting caller hello is_own phase so none there =
    either_so given own talk c stages.Greeting caller (in_version First hello) (same_version caller.version First) (record { hello = is_own.hello; version = First; among = is_own.among; mine_is = ap (λ (h : Hello). in_version First h) is_own.mine_is }) phase so none tt
asked_so given own talk c (stages.Closed fault) caller hello is_own phase so none there =
    either_so given own talk c (stages.Closed fault) caller (in_version First hello) (same_version caller.version First) (record { hello = is_own.hello; version = First; among = is_own.among; mine_is = ap (λ (h : Hello). in_version First h) is_own.mine_is }) phase so none tt
asked_so given own talk c (stages.Asked theirs) caller hello is_own phase so none there =
    same_version_so given own talk c (stages.Asked theirs) caller (in_version theirs.version hello) (version_same caller.version theirs.version (ap (λ (h : Hello). h.version) (sym (caller_is so.theirs theirs caller so.stage_is there))))
    (record { hello = is_own.hello; version = theirs.version; among = is_own.among; mine_is = ap (λ (h : Hello). in_version theirs.version h) is_own.mine_is }) phase so
asked_so given own talk c (stages.Matched theirs) caller hello is_own phase so none there =
    same_version_so given own talk c (stages.Matched theirs) caller (in_version theirs.version hello) (version_same caller.version theirs.version (ap (λ (h : Hello). h.version) (sym (caller_is so.theirs theirs caller so.stage_is there))))
    (record { hello = is_own.hello; version = theirs.version; among = is_own.among; mine_is = ap (λ (h : Hello). in_version theirs.version h) is_own.mine_is }) phase so
asked_so given own talk c (stages.Proved theirs) caller hello is_own phase so none there = let e : None ≡ Some so.stage_is.0.0 = sym none ∙ so.stage_is.0.1 in absurd cc
asked_so given own talk c (stages.Open theirs) caller hello is_own phase so none there = let e : None ≡ Some so.stage_is.0.0 = sym none ∙ so.stage_is.0.1 in absurd cc

answers_so : (given : List Given) (own : Own) (talk : Talk) (c : Channel) (stage : Stage) (hello : Hello) (phase : Phase) → IsOwn given hello → c.phase ≡ phase → CodedSpoke given own talk c stage
    → SaysTo given own talk c stage (in_version (version_at stage) hello) phase
answers_so given own talk c stage hello (phases.Asked caller) is_own e so =
    let knows : KnowsHellos c.key talk.dialled so.mine so.theirs so.said talk.came c.came.waiting (phases.Asked caller) = subst (λ (p : Phase). KnowsHellos c.key talk.dialled so.mine so.theirs so.said talk.came c.came.waiting p) e so.knows in
    asked_so given own talk c stage caller hello is_own e so knows.0 knows.1
answers_so given own talk c stage hello phases.Refused is_own e so =
    let knows : KnowsHellos c.key talk.dialled so.mine so.theirs so.said talk.came c.came.waiting phases.Refused = subst (λ (p : Phase). KnowsHellos c.key talk.dialled so.mine so.theirs so.said talk.came c.came.waiting p) e so.knows in
    away_so given own talk c stage (in_version (version_at stage) hello) so
    (record { hello = is_own.hello; version = version_at stage; among = is_own.among; mine_is = ap (λ (h : Hello). in_version (version_at stage) h) is_own.mine_is }) knows.0
    (refused_is so.mine so.theirs stage (in_version (version_at stage) hello) knows.0 knows.1 so.stage_is)
answers_so given own talk c stage hello (phases.Greeting earlier) is_own e so = so
answers_so given own talk c stage hello (phases.Proving theirs ways) is_own e so = so
answers_so given own talk c stage hello (phases.Open ways) is_own e so = so
answers_so given own talk c stage hello (phases.Closed fault) is_own e so = so

pub coded_answers_so : (old new : CodedConnection) (mine : Hello) → new ≡ record old { channel = answered old.channel.phase (in_version (version_at old.stage) mine) old.channel } → SpeaksAs (Coded old) (Coded new) mine
coded_answers_so old new mine e given own talk spoke =
    ∥∥₁_map spoke (λ so. subst (λ (c : CodedConnection). CodedSpoke (OwnHello mine ∷ given) own talk c.channel c.stage) (sym e)
    (answers_so (OwnHello mine ∷ given) own talk old.channel old.stage mine old.channel.phase (record { hello = mine; version = mine.version; among = inl refl; mine_is = refl }) refl
    (more_given given (OwnHello mine ∷ given) (within_own given mine) own talk old.channel old.stage so)))

pub coded_unanswered_so : (old new : CodedConnection) (mine : Hello) → new ≡ old → SpeaksAs (Coded old) (Coded new) mine
coded_unanswered_so old new mine e given own talk spoke =
    ∥∥₁_map spoke (λ so. subst (λ (c : CodedConnection). CodedSpoke (OwnHello mine ∷ given) own talk c.channel c.stage) (sym e) (more_given given (OwnHello mine ∷ given) (within_own given mine) own talk old.channel old.stage so))

-- ---- what is written of it

moved_text : (wrote : List ℕ) (count : ℕ) (left left_new : List ℕ) → left_new ≡ drop count left → (wrote ++ take count left) ++ left_new ≡ wrote ++ left
moved_text wrote count left left_new e = append_assoc wrote (take count left) left_new ∙ ap (λ (t : List ℕ). wrote ++ t) (ap (λ (t : List ℕ). take count left ++ t) e ∙ take-append-drop count left)

written_so : (given : List Given) (own : Own) (talk : Talk) (c : Channel) (stage : Stage) (count written : ℕ) → drop written c.out.begun.items ≡ drop count (unwritten c.out) → CodedSpoke given own talk c stage
    → CodedSpoke given own (record talk { wrote = talk.wrote ++ take count (unwritten c.out) }) (record c { out = record c.out { written = written } }) stage
written_so given own talk c stage count written left so = record {
  key = so.key;
  mine = so.mine;
  own_is = so.own_is;
  theirs = so.theirs;
  came = so.came;
  said = so.said;
  are = so.are;
  waits = so.waits;
  text =
      subst (λ (t : List ℕ). IsSoFar c.key (role_of talk.dialled) so.mine so.theirs so.said c.out.hello c.out.proof t) (sym (moved_text talk.wrote count (unwritten c.out) (drop written c.out.begun.items) left)) so.text;
  knows = so.knows;
  stage_is = so.stage_is;
}

pub coded_writes_so : (old new : CodedConnection) (count : ℕ) → unwritten new.channel.out ≡ drop count (unwritten old.channel.out)
    → new ≡ record old { channel = record old.channel { out = record old.channel.out { written = new.channel.out.written } } } → SpeaksOnWritten (Coded old) (Coded new) count
coded_writes_so old new count left others given own talk spoke =
    let items : new.channel.out.begun.items ≡ old.channel.out.begun.items = ap (λ (c : CodedConnection). c.channel.out.begun.items) others in
    let there : drop new.channel.out.written old.channel.out.begun.items ≡ drop count (unwritten old.channel.out) = ap (λ (t : List ℕ). drop new.channel.out.written t) (sym items) ∙ left in
    ∥∥₁_map spoke (λ so. subst (λ (c : CodedConnection). CodedSpoke given own (record talk { wrote = talk.wrote ++ take count (unwritten old.channel.out) }) c.channel c.stage) (sym others)
    (written_so given own talk old.channel old.stage count new.channel.out.written there so))

-- ---- a record that is begun

-- nothing was unfinished: the new text stands behind the one before
text_behind : (wrote left text begun : List ℕ) → length left ≡ 0 → wrote ++ left ≡ text → wrote ++ begun ≡ text ++ begun
text_behind wrote left text begun none e = ap (λ (t : List ℕ). t ++ begun) (all_written wrote left text none e)

behind : (wrote left begun : List ℕ) → length left ≡ 0 → wrote ++ begun ≡ (wrote ++ left) ++ begun
behind wrote left begun none = text_behind wrote left (wrote ++ left) begun none refl

hello_so : (key : Key) (role : Role) (mine theirs : Option Hello) (said : List Record) (hello : Hello) (proof : Option Proof) (text : List ℕ) → IsSoFar key role mine theirs said (Some hello) proof text
    → IsSoFar key role mine theirs said None proof (text ++ record_text (record_of.Hello hello))
hello_so key role None theirs said hello proof text (e, no_proof, none, nothing) = absurd cc
hello_so key role (Some mine) None said hello proof text (no_proof, none, inl (h, nothing)) =
    (no_proof, none, inr (refl, ap (λ (t : List ℕ). t ++ record_text (record_of.Hello hello)) nothing ∙ ap (λ (x : Hello). record_text (record_of.Hello x)) (some_is hello mine h)))
hello_so key role (Some mine) None said hello proof text (no_proof, none, inr (e, begun)) = absurd cc
hello_so key role (Some mine) (Some theirs) said hello (Some proof) text (h, p, none, nothing) =
    (p, none, ap (λ (t : List ℕ). t ++ record_text (record_of.Hello hello)) nothing ∙ ap (λ (x : Hello). record_text (record_of.Hello x)) h)
hello_so key role (Some mine) (Some theirs) said hello None text is = absurd is

proof_so : (key : Key) (role : Role) (mine theirs : Option Hello) (said : List Record) (proof : Proof) (text : List ℕ) → IsSoFar key role mine theirs said None (Some proof) text
    → IsSoFar key role mine theirs said None None (text ++ record_text (record_of.Proof proof))
proof_so key role None theirs said proof text (h, e, none, nothing) = absurd cc
proof_so key role (Some mine) None said proof text (e, none, either) = absurd cc
proof_so key role (Some mine) (Some theirs) said proof text (p, none, begun) =
    let way : Way = our_way key role mine theirs in
    ap (λ (t : List ℕ). t ++ record_text (record_of.Proof proof)) begun
    ∙ ap (λ (t : List ℕ). record_text (record_of.Hello mine) ++ t)
    (ap (λ (x : Proof). record_text (record_of.Proof x)) p ∙ (sym (append-nil (record_text (record_of.Proof (our_proof key role mine theirs)))) ∙ ap (λ (s : List Record). record_text (record_of.Proof (our_proof key role mine theirs)) ++ coded_on way s) (sym none)))

-- the next record of this side's way
coded_so : (key : Key) (role : Role) (mine theirs : Option Hello) (said : List Record) (one : Record) (way : Way) (text : List ℕ) → IsOurWay key role mine theirs said way → IsSoFar key role mine theirs said None None text
    → IsSoFar key role mine theirs (one ∷ said) None None (text ++ coded way (kind one) (body one))
coded_so key role None theirs said one way text ours is = let e : None ≡ Some ours.own = ours.own_is in absurd cc
coded_so key role (Some mine) None said one way text ours is = let e : None ≡ Some ours.other = ours.other_is in absurd cc
coded_so key role (Some mine) (Some theirs) said one way text ours is =
    let first : List ℕ = record_text (record_of.Hello mine) in
    let proof : List ℕ = record_text (record_of.Proof (our_proof key role mine theirs)) in
    let fresh_one : Way = our_way key role mine theirs in
    let same : our_way key role ours.own ours.other ≡ fresh_one = ap (λ (h : Hello). our_way key role h ours.other) (sym (some_is mine ours.own ours.own_is)) ∙ ap (λ (h : Hello). our_way key role mine h) (sym (some_is theirs ours.other ours.other_is)) in
    let here : way ≡ way_on fresh_one said = ours.way_is ∙ ap (λ (w : Way). way_on w said) same in
    let last : List ℕ = coded way (kind one) (body one) in
    ap (λ (t : List ℕ). t ++ last) is ∙ (append_assoc first (proof ++ coded_on fresh_one said) last
    ∙ ap (λ (t : List ℕ). first ++ t) (append_assoc proof (coded_on fresh_one said) last ∙ ap (λ (w : Way). proof ++ (coded_on fresh_one said ++ coded w (kind one) (body one))) here))

way_so : (key : Key) (role : Role) (mine theirs : Option Hello) (said : List Record) (one : Record) (way : Way) → IsOurWay key role mine theirs said way → IsOurWay key role mine theirs (one ∷ said) (after way (length (body one)))
way_so key role mine theirs said one way ours = record { own = ours.own; own_is = ours.own_is; other = ours.other; other_is = ours.other_is; way_is = ap (λ (w : Way). after w (length (body one))) ours.way_is }

-- on an open channel a record is said to the node whose Hello came
open_to : (given : List Given) (key : Key) (role : Role) (mine theirs : Option Hello) (said : List Record) (one : Record) (way : Way) → IsOurWay key role mine theirs said way → ((other : Hello) → IsSaidTo given (Some other) one)
    → IsSaidTo given (said_to mine theirs) one
open_to given key role None theirs said one way ours is = let e : None ≡ Some ours.own = ours.own_is in absurd cc
open_to given key role (Some mine) None said one way ours is = let e : None ≡ Some ours.other = ours.other_is in absurd cc
open_to given key role (Some mine) (Some theirs) said one way ours is = is theirs

coded_begun_so : (given : List Given) (own : Own) (talk : Talk) (old new : Channel) (stage : Stage) (one : Record) (left : Outgoing) → CodedBegun (kind one) (body one) left old new → left.hello ≡ old.out.hello → left.proof ≡ old.out.proof
    → (so : CodedSpoke given own talk old stage) → ((ways : Ways) → IsOurWay old.key (role_of talk.dialled) so.mine so.theirs so.said ways.writing → IsSaidTo given (said_to so.mine so.theirs) one)
    → IfSome left.frame (λ frame. IsSaidTo given (said_to so.mine so.theirs) (record_of.Frame frame)) → CodedSpoke given own talk new stage
coded_begun_so given own talk old new stage one left is same_hello same_proof so to waits =
    let phase_is : new.phase ≡ phases.Open (record { reading = is.ways.reading; writing = after is.ways.writing (length (body one)) }) = is.phase ∙ ap (λ (p : Phase). said_phase (length (body one)) p) is.open_was in
    let ours : IsOurWay old.key (role_of talk.dialled) so.mine so.theirs so.said is.ways.writing =
    subst (λ (p : Phase). KnowsHellos old.key talk.dialled so.mine so.theirs so.said talk.came old.came.waiting p) is.open_was so.knows in
    let text : IsSoFar old.key (role_of talk.dialled) so.mine so.theirs so.said None None (talk.wrote ++ unwritten old.out) =
    subst (λ (p : Option Proof). IsSoFar old.key (role_of talk.dialled) so.mine so.theirs so.said None p (talk.wrote ++ unwritten old.out)) is.proof
    (subst (λ (h : Option Hello). IsSoFar old.key (role_of talk.dialled) so.mine so.theirs so.said h old.out.proof (talk.wrote ++ unwritten old.out)) is.hello so.text) in
    let text_new : IsSoFar old.key (role_of talk.dialled) so.mine so.theirs (one ∷ so.said) None None (talk.wrote ++ coded is.ways.writing (kind one) (body one)) =
    subst (λ (t : List ℕ). IsSoFar old.key (role_of talk.dialled) so.mine so.theirs (one ∷ so.said) None None t) (sym (behind talk.wrote (unwritten old.out) (coded is.ways.writing (kind one) (body one)) is.begun.finished))
    (coded_so old.key (role_of talk.dialled) so.mine so.theirs so.said one is.ways.writing (talk.wrote ++ unwritten old.out) ours text) in
    let whole : CodedSpoke given own talk (record { key = old.key; phase = phases.Open (record { reading = is.ways.reading; writing = after is.ways.writing (length (body one)) }); came = old.came; out = with_begun (coded is.ways.writing (kind one) (body one)) left }) stage =
    record {
      key = so.key;
      mine = so.mine;
      own_is = so.own_is;
      theirs = so.theirs;
      came = so.came;
      said = one ∷ so.said;
      are = (to is.ways ours, so.are);
      waits = waits;
      text =
          subst (λ (h : Option Hello). IsSoFar old.key (role_of talk.dialled) so.mine so.theirs (one ∷ so.said) h left.proof (talk.wrote ++ coded is.ways.writing (kind one) (body one))) (sym (same_hello ∙ is.hello))
          (subst (λ (p : Option Proof). IsSoFar old.key (role_of talk.dialled) so.mine so.theirs (one ∷ so.said) None p (talk.wrote ++ coded is.ways.writing (kind one) (body one))) (sym (same_proof ∙ is.proof)) text_new);
      knows = way_so old.key (role_of talk.dialled) so.mine so.theirs so.said one is.ways.writing ours;
      stage_is = so.stage_is;
    } in
    subst (λ (c : Channel). CodedSpoke given own talk c stage) (sym (channel_is new old.key _ old.came _ is.begun.key phase_is is.begun.came is.begun.out)) whole

waited_is : (given : List Given) (to : Option Hello) (waits : Option Frame) (frame : Frame) → waits ≡ Some frame → IfSome waits (λ f. IsSaidTo given to (record_of.Frame f)) → IsSaidTo given to (record_of.Frame frame)
waited_is given to waits frame e is = subst (λ (w : Option Frame). IfSome w (λ f. IsSaidTo given to (record_of.Frame f))) e is

-- the own Hello or the proof is begun
first_so : (given : List Given) (own : Own) (talk : Talk) (old new : Channel) (stage : Stage) (text : List ℕ) (left : Outgoing) → TextBegun text left old new → new.phase ≡ old.phase → left.frame ≡ old.out.frame → (so : CodedSpoke given own talk old stage)
    → IsSoFar old.key (role_of talk.dialled) so.mine so.theirs so.said left.hello left.proof ((talk.wrote ++ unwritten old.out) ++ text) → CodedSpoke given own talk new stage
first_so given own talk old new stage text left is phase frame so far =
    let whole : CodedSpoke given own talk (record { key = old.key; phase = old.phase; came = old.came; out = with_begun text left }) stage =
    record {
      key = so.key;
      mine = so.mine;
      own_is = so.own_is;
      theirs = so.theirs;
      came = so.came;
      said = so.said;
      are = so.are;
      waits = subst (λ (f : Option Frame). IfSome f (λ x. IsSaidTo given (said_to so.mine so.theirs) (record_of.Frame x))) (sym frame) so.waits;
      text = subst (λ (t : List ℕ). IsSoFar old.key (role_of talk.dialled) so.mine so.theirs so.said left.hello left.proof t) (sym (behind talk.wrote (unwritten old.out) text is.finished)) far;
      knows = so.knows;
      stage_is = so.stage_is;
    } in
    subst (λ (c : Channel). CodedSpoke given own talk c stage) (sym (channel_is new old.key old.phase old.came (with_begun text left) is.key phase is.came is.out)) whole

begins_so_on : (given : List Given) (own : Own) (talk : Talk) (old new : Channel) (stage : Stage) → ChannelBegins old new → CodedSpoke given own talk old stage → CodedSpoke given own talk new stage
begins_so_on given own talk old new stage (inl is) so = subst (λ (c : Channel). CodedSpoke given own talk c stage) (sym (channel_is new old.key old.phase old.came old.out is.key is.phase is.came is.out)) so
begins_so_on given own talk old new stage (inr (inl is)) so =
    first_so given own talk old new stage (record_text (record_of.Hello is.hello)) (record old.out { hello = None }) is.begun is.phase refl so
    (hello_so old.key (role_of talk.dialled) so.mine so.theirs so.said is.hello old.out.proof (talk.wrote ++ unwritten old.out)
    (subst (λ (h : Option Hello). IsSoFar old.key (role_of talk.dialled) so.mine so.theirs so.said h old.out.proof (talk.wrote ++ unwritten old.out)) is.waited so.text))
begins_so_on given own talk old new stage (inr (inr (inl is))) so =
    first_so given own talk old new stage (record_text (record_of.Proof is.proof)) (record old.out { proof = None }) is.begun is.phase refl so
    (subst (λ (h : Option Hello). IsSoFar old.key (role_of talk.dialled) so.mine so.theirs so.said h None ((talk.wrote ++ unwritten old.out) ++ record_text (record_of.Proof is.proof))) (sym is.hello)
    (proof_so old.key (role_of talk.dialled) so.mine so.theirs so.said is.proof (talk.wrote ++ unwritten old.out)
    (subst (λ (p : Option Proof). IsSoFar old.key (role_of talk.dialled) so.mine so.theirs so.said None p (talk.wrote ++ unwritten old.out)) is.waited
    (subst (λ (h : Option Hello). IsSoFar old.key (role_of talk.dialled) so.mine so.theirs so.said h old.out.proof (talk.wrote ++ unwritten old.out)) is.hello so.text))))
begins_so_on given own talk old new stage (inr (inr (inr (inl is)))) so =
    coded_begun_so given own talk old new stage (record_of.Beat is.beat) (record old.out { beat = None }) is.begun refl refl so
    (λ ways ours. open_to given old.key (role_of talk.dialled) so.mine so.theirs so.said (record_of.Beat is.beat) ways.writing ours (λ other. tt)) so.waits
begins_so_on given own talk old new stage (inr (inr (inr (inr (inl is))))) so =
    coded_begun_so given own talk old new stage (record_of.More is.more) (record old.out { more = None }) is.begun refl refl so
    (λ ways ours. open_to given old.key (role_of talk.dialled) so.mine so.theirs so.said (record_of.More is.more) ways.writing ours (λ other. tt)) so.waits
begins_so_on given own talk old new stage (inr (inr (inr (inr (inr is))))) so =
    coded_begun_so given own talk old new stage (record_of.Frame is.frame) (record old.out { frame = None }) is.begun refl refl so
    (λ ways ours. waited_is given (said_to so.mine so.theirs) old.out.frame is.frame is.waited so.waits) tt

-- ---- what is put there to be said

left_so : (given : List Given) (own : Own) (talk : Talk) (c : Channel) (out : Outgoing) (stage : Stage) → unwritten out ≡ unwritten c.out → out.hello ≡ c.out.hello → out.proof ≡ c.out.proof → (so : CodedSpoke given own talk c stage)
    → IfSome out.frame (λ frame. IsSaidTo given (said_to so.mine so.theirs) (record_of.Frame frame)) → CodedSpoke given own talk (record c { out = out }) stage
left_so given own talk c out stage left hello proof so waits = record {
  key = so.key;
  mine = so.mine;
  own_is = so.own_is;
  theirs = so.theirs;
  came = so.came;
  said = so.said;
  are = so.are;
  waits = waits;
  text =
      subst (λ (h : Option Hello). IsSoFar c.key (role_of talk.dialled) so.mine so.theirs so.said h out.proof (talk.wrote ++ unwritten out)) (sym hello)
      (subst (λ (p : Option Proof). IsSoFar c.key (role_of talk.dialled) so.mine so.theirs so.said c.out.hello p (talk.wrote ++ unwritten out)) (sym proof)
      (subst (λ (t : List ℕ). IsSoFar c.key (role_of talk.dialled) so.mine so.theirs so.said c.out.hello c.out.proof (talk.wrote ++ t)) (sym left) so.text));
  knows = so.knows;
  stage_is = so.stage_is;
}

and_waits : (given : List Given) (to : Option Hello) (waits : Option Frame) (frame : Frame) → IfSome waits (λ f. IsSaidTo given to (record_of.Frame f)) → IsSaidTo given to (record_of.Frame frame)
    → IfSome (and_frame waits frame) (λ f. IsSaidTo given to (record_of.Frame f))
and_waits given to None frame waits is = is
and_waits given to (Some other) frame waits is = waits

said_to_is : (mine theirs : Option Hello) (hello : Hello) → IsKnown mine × (theirs ≡ Some hello) → said_to mine theirs ≡ Some hello
said_to_is None theirs hello ((own, e), is) = absurd cc
said_to_is (Some mine) theirs hello (known, is) = is

if_so : (given : List Given) (own : Own) (talk : Talk) (c d : Channel) (stage : Stage) (b : Bool) → CodedSpoke given own talk c stage → CodedSpoke given own talk d stage → CodedSpoke given own talk (if b then c else d) stage
if_so given own talk c d stage true one other = one
if_so given own talk c d stage false one other = other

more_so : (given : List Given) (own : Own) (talk : Talk) (c : Channel) (stage : Stage) (more : More) (b : Bool) → CodedSpoke given own talk c stage → CodedSpoke given own talk (with_more b more c) stage
more_so given own talk c stage more true so = left_so given own talk c (record c.out { more = Some more }) stage refl refl refl so so.waits
more_so given own talk c stage more false so = so

puts_so : (given : List Given) (own : Own) (talk : Talk) (c : Channel) (theirs : Hello) (said : Option Record) → IfSome said (λ one. IsSaidTo given (Some theirs) one) → CodedSpoke given own talk c (stages.Open theirs)
    → CodedSpoke given own talk (puts c said) (stages.Open theirs)
puts_so given own talk c theirs None is so = so
puts_so given own talk c theirs (Some (record_of.Beat beat)) is so = left_so given own talk c (record c.out { beat = Some beat }) (stages.Open theirs) refl refl refl so so.waits
puts_so given own talk c theirs (Some (record_of.Frame frame)) is so =
    if_so given own talk (record c { out = record c.out { frame = and_frame c.out.frame frame } }) c (stages.Open theirs) (nat_le LEAST_FRAME (length frame.bytes.items))
    (left_so given own talk c (record c.out { frame = and_frame c.out.frame frame }) (stages.Open theirs) refl refl refl so
    (and_waits given (said_to so.mine so.theirs) c.out.frame frame so.waits (subst (λ (t : Option Hello). IsSaidTo given t (record_of.Frame frame)) (sym (said_to_is so.mine so.theirs theirs so.stage_is)) is))) so
puts_so given own talk c theirs (Some (record_of.Hello hello)) is so = so
puts_so given own talk c theirs (Some (record_of.Proof proof)) is so = so
puts_so given own talk c theirs (Some (record_of.More more)) is so = more_so given own talk c (stages.Open theirs) more (takes_more c.phase c.out.more more.kind) so

-- what waits next is a frame that is handed over, or none
pub first_said : (given : List Given) (theirs : Hello) (frames : List Frame) → IfSome (first_frame frames) (λ one. IsSaidTo (frames_for (Some theirs.ends.from) frames given) (Some theirs) one)
first_said given theirs [] = tt
first_said given theirs (frame ∷ more) = inl refl

behind_said : (given : List Given) (theirs : Hello) (more : Option More) (frames : List Frame) → IfSome (next_behind more frames) (λ one. IsSaidTo (frames_for (Some theirs.ends.from) frames given) (Some theirs) one)
behind_said given theirs (Some more) frames = tt
behind_said given theirs None frames = first_said given theirs frames

by_said : (given : List Given) (theirs : Hello) (beat : Option Beat) (version : Version) (w : Waits) → IfSome (next_by beat version w) (λ one. IsSaidTo (frames_for (Some theirs.ends.from) w.frames given) (Some theirs) one)
by_said given theirs (Some beat) version w = tt
by_said given theirs None version w = behind_said given theirs (more_of version w) w.frames

pub next_said : (given : List Given) (theirs : Hello) (version : Version) (w : Waits) → IfSome (next_of version w) (λ one. IsSaidTo (frames_for (Some theirs.ends.from) w.frames given) (Some theirs) one)
next_said given theirs version w = by_said given theirs w.beat version w

abbrev Of : List Given → Own → Talk → CodedConnection → Type 0
Of given own talk c = CodedSpoke given own talk c.channel c.stage

either_of : (given : List Given) (own : Own) (talk : Talk) (b : Bool) (c : CodedConnection) (w : Waits) (p : CodedConnection × Waits) → Of given own talk p.0 → Of given own talk c → Of given own talk (if b then p else (c, w)).0
either_of given own talk true c w p one other = one
either_of given own talk false c w p one other = other

by_so : (begins : BeginsEach) (given : List Given) (own : Own) (talk : Talk) (stage : Stage) (channel : Channel) (w : Waits) → CodedSpoke (frames_for (peer_at stage) w.frames given) own talk channel stage
    → Of (frames_for (peer_at stage) w.frames given) own talk (begun_by stage (record { channel = channel; stage = stage }) w).0
by_so begins given own talk (stages.Open theirs) channel w so =
    let all : List Given = frames_for (Some theirs.ends.from) w.frames given in
    let c : CodedConnection = record { channel = channel; stage = stages.Open theirs } in
    let there : Channel = puts channel (next_of theirs.version w) in
    either_of all own talk (has_next theirs.version w) c w (begun_open theirs.version c w)
    (begins_so_on all own talk there (begun_next there) (stages.Open theirs) (begins there) (puts_so all own talk channel theirs (next_of theirs.version w) (next_said given theirs theirs.version w) so)) so
by_so begins given own talk stages.Greeting channel w so = so
by_so begins given own talk (stages.Asked theirs) channel w so = so
by_so begins given own talk (stages.Matched theirs) channel w so = so
by_so begins given own talk (stages.Proved theirs) channel w so = so
by_so begins given own talk (stages.Closed fault) channel w so = so

begun_so : (begins : BeginsEach) (given : List Given) (own : Own) (talk : Talk) (c : CodedConnection) (w : Waits) → Of (frames_for (peer_at c.stage) w.frames given) own talk c → Of (frames_for (peer_at c.stage) w.frames given) own talk (begun_coded c w).0
begun_so begins given own talk c w so =
    let all : List Given = frames_for (peer_at c.stage) w.frames given in
    let first : CodedSpoke all own talk (begun_next c.channel) c.stage = begins_so_on all own talk c.channel (begun_next c.channel) c.stage (begins c.channel) so in
    let there : CodedConnection = record c { channel = begun_next c.channel } in
    either_of all own talk (length (unwritten there.channel.out) == 0) there w (begun_by c.stage there w) (by_so begins given own talk c.stage (begun_next c.channel) w first) first

pub coded_says_so : (begins : BeginsEach) (old new : CodedConnection) (w : Waits) → new ≡ (begun_coded old w).0 → SpeaksOf (Coded old) (Coded new) (peer_of (Coded old)) w.frames
coded_says_so begins old new w e given own talk spoke =
    let all : List Given = frames_for (peer_at old.stage) w.frames given in
    ∥∥₁_map spoke (λ so. subst (λ (c : CodedConnection). Of all own talk c) (sym e)
    (begun_so begins given own talk old w (more_given given all (within_frames (peer_at old.stage) w.frames given) own talk old.channel old.stage so)))

-- ---- what came

-- where nothing of this side changes but how far it is
kept_so : (given : List Given) (own : Own) (talk : Talk) (old new : Channel) (stage stage_new : Stage) → new.key ≡ old.key → new.out ≡ old.out → (so : CodedSpoke given own talk old stage)
    → KnowsHellos old.key talk.dialled so.mine so.theirs so.said talk.came new.came.waiting new.phase → IsOfStage so.mine so.theirs stage_new → CodedSpoke given own talk new stage_new
kept_so given own talk old new stage stage_new key out so knows is =
    let whole : CodedSpoke given own talk (record { key = old.key; phase = new.phase; came = new.came; out = old.out }) stage_new =
    record { key = so.key; mine = so.mine; own_is = so.own_is; theirs = so.theirs; came = so.came; said = so.said; are = so.are; waits = so.waits; text = so.text; knows = knows; stage_is = is } in
    subst (λ (c : Channel). CodedSpoke given own talk c stage_new) (sym (channel_is new old.key new.phase new.came old.out key refl refl out)) whole

-- before the other's Hello came nothing is said to anybody
unsaid : (key : Key) (role : Role) (mine : Option Hello) (said : List Record) (hello : Option Hello) (proof : Option Proof) (text : List ℕ) → IsSoFar key role mine None said hello proof text → said ≡ []
unsaid key role None said hello proof text is = is.2
unsaid key role (Some mine) said hello proof text is = is.1

unheld_yet : (given : List Given) (mine : Option Hello) (to : Option Hello) (frame : Option Frame) → IfSome frame (λ f. IsSaidTo given (said_to mine None) (record_of.Frame f)) → IfSome frame (λ f. IsSaidTo given to (record_of.Frame f))
unheld_yet given None to frame waits = if_some (λ f. ⊥) (λ f. IsSaidTo given to (record_of.Frame f)) frame (λ f no. absurd no) waits
unheld_yet given (Some mine) to frame waits = if_some (λ f. ⊥) (λ f. IsSaidTo given to (record_of.Frame f)) frame (λ f no. absurd no) waits

-- the proof waits behind the own Hello
greets_far : (key : Key) (dialled : Option ℕ) (mine : Option Hello) (theirs : Hello) (hello : Option Hello) (proof : Option Proof) (text : List ℕ) → HasHello dialled mine → IsSoFar key (role_of dialled) mine None [] hello proof text
    → IsSoFar key (role_of dialled) mine (Some theirs) [] hello (own_proof key.bytes mine theirs proof) text
greets_far key None None theirs hello proof text has is = is
greets_far key None (Some mine) theirs hello proof text has is = absurd cc
greets_far key (Some number) None theirs hello proof text has is = absurd has
greets_far key (Some number) (Some mine) theirs (Some hello) proof text has (p, none, inl (h, nothing)) = (some_is hello mine h, refl, refl, nothing)
greets_far key (Some number) (Some mine) theirs (Some hello) proof text has (p, none, inr (e, begun)) = absurd cc
greets_far key (Some number) (Some mine) theirs None proof text has (p, none, inl (e, nothing)) = absurd cc
greets_far key (Some number) (Some mine) theirs None proof text has (p, none, inr (e, begun)) = (refl, refl, begun)

greets_knows : (key : Key) (dialled : Option ℕ) (mine : Option Hello) (theirs : Hello) (came waiting : List ℕ) → HasHello dialled mine → KnowsHellos key dialled mine (Some theirs) [] came waiting (greeted key.bytes mine (Some theirs)).phase
greets_knows key None None theirs came waiting has = (refl, refl, refl)
greets_knows key None (Some mine) theirs came waiting has = absurd cc
greets_knows key (Some number) None theirs came waiting has = absurd has
greets_knows key (Some number) (Some mine) theirs came waiting has = record { own = mine; own_is = refl; other = theirs; other_is = refl; way_is = refl }

greets_so : (given : List Given) (own : Own) (talk : Talk) (old new : Channel) (stage stage_new : Stage) (theirs : Hello) → Reads old new (Ok (events.Greeted theirs)) → IsGreeting theirs old new → (so : CodedSpoke given own talk old stage) → ((mine : Option Hello) → IsOfStage mine (Some theirs) stage_new)
    → CodedSpoke given own talk new stage_new
greets_so given own talk old new stage stage_new theirs reads is so is_stage =
    let bytes : List ℕ = front old.came.waiting in
    let hello_is : IsHelloIn theirs bytes = (is.came.kind_is, ap (λ (t : List ℕ). only_coded (hello_of t)) is.came.content_is ∙ is.hello_is) in
    let knows : KnowsHellos old.key talk.dialled so.mine so.theirs so.said talk.came old.came.waiting (phases.Greeting is.own) = subst (λ (p : Phase). KnowsHellos old.key talk.dialled so.mine so.theirs so.said talk.came old.came.waiting p) is.greeting so.knows in
    let phase_is : new.phase ≡ (greeted old.key.bytes is.own (Some theirs)).phase =
    ap (λ (c : Channel). c.phase) reads.others ∙ (ap (λ (p : Phase). (front_step old.key.bytes p bytes).phase) is.greeting ∙ step_behind old.key.bytes is.own bytes theirs hello_is is.version) in
    let alone : IsSoFar old.key (role_of talk.dialled) so.mine None so.said old.out.hello old.out.proof (talk.wrote ++ unwritten old.out) =
    subst (λ (t : Option Hello). IsSoFar old.key (role_of talk.dialled) so.mine t so.said old.out.hello old.out.proof (talk.wrote ++ unwritten old.out)) knows.1 so.text in
    let none : so.said ≡ [] = unsaid old.key (role_of talk.dialled) so.mine so.said old.out.hello old.out.proof (talk.wrote ++ unwritten old.out) alone in
    let far : IsSoFar old.key (role_of talk.dialled) is.own None [] old.out.hello old.out.proof (talk.wrote ++ unwritten old.out) =
    subst (λ (m : Option Hello). IsSoFar old.key (role_of talk.dialled) m None [] old.out.hello old.out.proof (talk.wrote ++ unwritten old.out)) knows.0
    (subst (λ (s : List Record). IsSoFar old.key (role_of talk.dialled) so.mine None s old.out.hello old.out.proof (talk.wrote ++ unwritten old.out)) none alone) in
    let whole : CodedSpoke given own talk (record { key = old.key; phase = (greeted old.key.bytes is.own (Some theirs)).phase; came = new.came; out = record old.out { proof = own_proof old.key.bytes is.own theirs old.out.proof } }) stage_new =
    record {
      key = so.key;
      mine = is.own;
      own_is = subst (λ (m : Option Hello). IfSome m (IsOwn given)) knows.0 so.own_is;
      theirs = Some theirs;
      came = record { hello = bytes; is = hello_is; rest = new.came.waiting; text = knows.3 ∙ front_taken old new _ reads };
      said = [];
      are = tt;
      waits = unheld_yet given so.mine (said_to is.own (Some theirs)) old.out.frame (subst (λ (t : Option Hello). IfSome old.out.frame (λ f. IsSaidTo given (said_to so.mine t) (record_of.Frame f))) knows.1 so.waits);
      text = greets_far old.key talk.dialled is.own theirs old.out.hello old.out.proof (talk.wrote ++ unwritten old.out) knows.2 far;
      knows = greets_knows old.key talk.dialled is.own theirs talk.came new.came.waiting knows.2;
      stage_is = is_stage is.own;
    } in
    subst (λ (c : Channel). CodedSpoke given own talk c stage_new) (sym (channel_is new old.key _ new.came _ (key_kept old new _ reads) phase_is refl is.out)) whole

-- what was told isn't that a Hello came
abbrev IsNoGreeting : Event → Type 0
IsNoGreeting (events.Greeted hello) = ⊥
IsNoGreeting events.Opened = Unit {0}
IsNoGreeting (events.Frame frame) = Unit {0}
IsNoGreeting (events.Beat beat) = Unit {0}
IsNoGreeting (events.More more) = Unit {0}

event_is : (event : Event) (hello : Hello) → IsNoGreeting event → ◌≡◌ {A = Option Came} (Some (Ok event)) (Some (Ok (events.Greeted hello))) → ⊥
event_is (events.Greeted other) hello is e = is
event_is events.Opened hello is e = absurd cc
event_is (events.Frame frame) hello is e = absurd cc
event_is (events.Beat beat) hello is e = absurd cc
event_is (events.More more) hello is e = absurd cc

out_is : (old new : Channel) (event : Event) → IsNoGreeting event → (new.out ≡ old.out) ⊎ ((hello : Hello) × (◌≡◌ {A = Option Came} (Some (Ok event)) (Some (Ok (events.Greeted hello))))) → new.out ≡ old.out
out_is old new event is (inl same) = same
out_is old new event is (inr (hello, e)) = absurd (event_is event hello is e)

opens_so : (given : List Given) (own : Own) (talk : Talk) (old new : Channel) (stage stage_new : Stage) → new.key ≡ old.key → new.out ≡ old.out → IsOpened old new → (so : CodedSpoke given own talk old stage) → (IsKnown so.mine → IsOfStage so.mine so.theirs stage_new)
    → CodedSpoke given own talk new stage_new
opens_so given own talk old new stage stage_new key out is so is_stage =
    let ours : IsOurWay old.key (role_of talk.dialled) so.mine so.theirs so.said is.ways.writing = subst (λ (p : Phase). KnowsHellos old.key talk.dialled so.mine so.theirs so.said talk.came old.came.waiting p) is.awaited so.knows in
    kept_so given own talk old new stage stage_new key out so (subst (λ (p : Phase). KnowsHellos old.key talk.dialled so.mine so.theirs so.said talk.came new.came.waiting p) (sym is.opens) ours) (is_stage (ours.own, ours.own_is))

hears_so : (given : List Given) (own : Own) (talk : Talk) (old new : Channel) (stage stage_new : Stage) (kind_heard : Kind) (body_heard : List ℕ) → new.key ≡ old.key → new.out ≡ old.out → IsHeard kind_heard body_heard old new → (so : CodedSpoke given own talk old stage)
    → IsOfStage so.mine so.theirs stage_new → CodedSpoke given own talk new stage_new
hears_so given own talk old new stage stage_new kind_heard body_heard key out is so is_stage =
    let ours : IsOurWay old.key (role_of talk.dialled) so.mine so.theirs so.said is.ways.writing = subst (λ (p : Phase). KnowsHellos old.key talk.dialled so.mine so.theirs so.said talk.came old.came.waiting p) is.open_was so.knows in
    kept_so given own talk old new stage stage_new key out so (subst (λ (p : Phase). KnowsHellos old.key talk.dialled so.mine so.theirs so.said talk.came new.came.waiting p) (sym is.goes_on) ours) is_stage

-- whatever event, where the stage that follows goes by the Hello that came
event_so : (says : SaysProof) (given : List Given) (own : Own) (talk : Talk) (old new : Channel) (stage : Stage) (fault : PeerFault) (event : Event) → Next old.phase old (Some (Ok event)) new → ToldBy event old new → CodedSpoke given own talk old stage
    → CodedSpoke given own talk new (stages.Closed fault)
event_so says given own talk old new stage fault (events.Greeted theirs) next is so = greets_so given own talk old new stage (stages.Closed fault) theirs (read_of old new (events.Greeted theirs) next) is so (λ mine. tt)
event_so says given own talk old new stage fault events.Opened next is so =
    opens_so given own talk old new stage (stages.Closed fault) (key_kept old new _ (read_of old new events.Opened next)) (out_is old new events.Opened tt (says old new _ next)) is so (λ known. tt)
event_so says given own talk old new stage fault (events.Frame frame) next is so =
    hears_so given own talk old new stage (stages.Closed fault) _ _ (key_kept old new _ (read_of old new (events.Frame frame) next)) (out_is old new (events.Frame frame) tt (says old new _ next)) is so tt
event_so says given own talk old new stage fault (events.Beat beat) next (text, reading, is) so =
    hears_so given own talk old new stage (stages.Closed fault) _ _ (key_kept old new _ (read_of old new (events.Beat beat) next)) (out_is old new (events.Beat beat) tt (says old new _ next)) is so tt
event_so says given own talk old new stage fault (events.More more) next is so =
    hears_so given own talk old new stage (stages.Closed fault) _ _ (key_kept old new _ (read_of old new (events.More more) next)) (out_is old new (events.More more) tt (says old new _ next)) is.heard so tt

further_is : (mine theirs : Option Hello) (hello : Hello) (read : Result Further RecordFault) → IsOfStage mine theirs (stages.Open hello) → IsOfStage mine theirs (on_further hello read).stage
further_is mine theirs hello (Ok further) is = is
further_is mine theirs hello (Err fault) is = tt

told_so : (says : SaysProof) (given : List Given) (own : Own) (talk : Talk) (old new : Channel) (stage : Stage) (event : Event) → Next old.phase old (Some (Ok event)) new → ToldBy event old new → CodedSpoke given own talk old stage
    → CodedSpoke given own talk new (coded_step stage (Ok event)).stage
told_so says given own talk old new stages.Greeting (events.Greeted theirs) next is so = greets_so given own talk old new stages.Greeting (stages.Asked theirs) theirs (read_of old new (events.Greeted theirs) next) is so (λ mine. refl)
told_so says given own talk old new stages.Greeting events.Opened next is so = event_so says given own talk old new stages.Greeting _ events.Opened next is so
told_so says given own talk old new stages.Greeting (events.Frame frame) next is so = event_so says given own talk old new stages.Greeting _ (events.Frame frame) next is so
told_so says given own talk old new stages.Greeting (events.Beat beat) next is so = event_so says given own talk old new stages.Greeting _ (events.Beat beat) next is so
told_so says given own talk old new stages.Greeting (events.More more) next is so = event_so says given own talk old new stages.Greeting _ (events.More more) next is so
told_so says given own talk old new (stages.Asked theirs) event next is so = event_so says given own talk old new (stages.Asked theirs) _ event next is so
told_so says given own talk old new (stages.Matched theirs) (events.Greeted other) next is so = event_so says given own talk old new (stages.Matched theirs) _ (events.Greeted other) next is so
told_so says given own talk old new (stages.Matched theirs) events.Opened next is so =
    opens_so given own talk old new (stages.Matched theirs) (stages.Proved theirs) (key_kept old new _ (read_of old new events.Opened next)) (out_is old new events.Opened tt (says old new _ next)) is so (λ known. (known, so.stage_is))
told_so says given own talk old new (stages.Matched theirs) (events.Frame frame) next is so = event_so says given own talk old new (stages.Matched theirs) _ (events.Frame frame) next is so
told_so says given own talk old new (stages.Matched theirs) (events.Beat beat) next is so = event_so says given own talk old new (stages.Matched theirs) _ (events.Beat beat) next is so
told_so says given own talk old new (stages.Matched theirs) (events.More more) next is so = event_so says given own talk old new (stages.Matched theirs) _ (events.More more) next is so
told_so says given own talk old new (stages.Proved theirs) event next is so = event_so says given own talk old new (stages.Proved theirs) _ event next is so
told_so says given own talk old new (stages.Open theirs) (events.Greeted other) next is so = event_so says given own talk old new (stages.Open theirs) _ (events.Greeted other) next is so
told_so says given own talk old new (stages.Open theirs) events.Opened next is so = event_so says given own talk old new (stages.Open theirs) _ events.Opened next is so
told_so says given own talk old new (stages.Open theirs) (events.Frame frame) next is so =
    hears_so given own talk old new (stages.Open theirs) (stages.Open theirs) _ _ (key_kept old new _ (read_of old new (events.Frame frame) next)) (out_is old new (events.Frame frame) tt (says old new _ next)) is so so.stage_is
told_so says given own talk old new (stages.Open theirs) (events.Beat beat) next (text, reading, is) so =
    hears_so given own talk old new (stages.Open theirs) (stages.Open theirs) _ _ (key_kept old new _ (read_of old new (events.Beat beat) next)) (out_is old new (events.Beat beat) tt (says old new _ next)) is so so.stage_is
told_so says given own talk old new (stages.Open theirs) (events.More more) next is so =
    hears_so given own talk old new (stages.Open theirs) (on_further theirs (read_behind theirs more)).stage _ _ (key_kept old new _ (read_of old new (events.More more) next)) (out_is old new (events.More more) tt (says old new _ next)) is.heard so
    (further_is so.mine so.theirs theirs (read_behind theirs more) so.stage_is)
told_so says given own talk old new (stages.Closed fault) event next is so = event_so says given own talk old new (stages.Closed fault) fault event next is so

-- ---- a fault

-- the channel is closed by it, or was dialled and refuses the Hello that came
abbrev Refuses : Phase → Phase → Type 0
Refuses old new = ((fault : ConnectionFault) × (new ≡ phases.Closed fault)) ⊎ ((old ≡ phases.Greeting None) × (new ≡ phases.Refused))

abbrev IsFaulty : Result Event ConnectionFault → Type 0
IsFaulty (Ok event) = ⊥
IsFaulty (Err fault) = Unit {0}

-- a fault does so
abbrev Closes : Phase → Phase → Result Event ConnectionFault → Type 0
Closes old new event = IsFaulty event → Refuses old new

either_one : {S : Type 0} (b : Bool) (one other : S) (P : S → Type 0) → P one → P other → P (if b then one else other)
either_one true one other P is is_other = is
either_one false one other P is is_other = is_other

greeting_closes : (key : List ℕ) (own theirs : Option Hello) → Closes (phases.Greeting own) (greeted key own theirs).phase (greeted key own theirs).event
greeting_closes key None None faulty = inr (refl, refl)
greeting_closes key (Some own) None faulty = inl (channel_faults.Record BadHello, refl)
greeting_closes key None (Some theirs) faulty = absurd faulty
greeting_closes key (Some own) (Some theirs) faulty = absurd faulty

closed_closes : (phase : Phase) (fault : ConnectionFault) → Closes phase (phases.Closed fault) (Err fault)
closed_closes phase fault faulty = inl (fault, refl)

proof_closes : (phase : Phase) (theirs : Proof) (ways : Ways) (content : List ℕ) → Closes phase (on_proof theirs ways kind_of.Proof content).phase (on_proof theirs ways kind_of.Proof content).event
proof_closes phase theirs ways content =
    either_one (not (length content == TAG_BYTES)) (closed (channel_faults.Record BadLength)) (if bytes_eq content theirs.tag then opened ways else closed channel_faults.WrongProof) (λ s. Closes phase s.phase s.event)
    (closed_closes phase (channel_faults.Record BadLength))
    (either_one (bytes_eq content theirs.tag) (opened ways) (closed channel_faults.WrongProof) (λ s. Closes phase s.phase s.event) (λ faulty. absurd faulty) (closed_closes phase channel_faults.WrongProof))

frame_closes : (phase : Phase) (ways : Ways) (count : ℕ) (read : Result (List ℕ) ConnectionFault) → Closes phase (frame_heard ways count read).phase (frame_heard ways count read).event
frame_closes phase ways count (Err fault) = closed_closes phase fault
frame_closes phase ways count (Ok text) =
    either_one (is_frame text) (heard ways count (events.Frame (record { bytes = record { items = text } }))) (closed (channel_faults.Record BadLength)) (λ s. Closes phase s.phase s.event) (λ faulty. absurd faulty) (closed_closes phase (channel_faults.Record BadLength))

told_closes : (phase : Phase) (ways : Ways) (count : ℕ) (read : Result Beat RecordFault) → Closes phase (beat_told ways count read).phase (beat_told ways count read).event
told_closes phase ways count (Err fault) = closed_closes phase (channel_faults.Record fault)
told_closes phase ways count (Ok beat) = λ faulty. absurd faulty

beat_closes : (phase : Phase) (ways : Ways) (count : ℕ) (read : Result (List ℕ) ConnectionFault) → Closes phase (beat_heard ways count read).phase (beat_heard ways count read).event
beat_closes phase ways count (Err fault) = closed_closes phase fault
beat_closes phase ways count (Ok text) = told_closes phase ways count (beat_of text)

more_closes : (phase : Phase) (ways : Ways) (count byte : ℕ) (read : Result (List ℕ) ConnectionFault) → Closes phase (more_heard ways count byte read).phase (more_heard ways count byte read).event
more_closes phase ways count byte (Err fault) = closed_closes phase fault
more_closes phase ways count byte (Ok text) = λ faulty. absurd faulty

further_closes : (phase : Phase) (version : Version) (ways : Ways) (byte : ℕ) (content : List ℕ) → Closes phase (on_more version ways byte content).phase (on_more version ways byte content).event
further_closes phase First ways byte content = closed_closes phase (channel_faults.Record BadKind)
further_closes phase Second ways byte content = more_closes phase ways (length content - TAG_BYTES) byte (uncovered ways.reading (kind_of.More byte) content)

stepped_closes : (key : List ℕ) (phase : Phase) (kind_come : Kind) (content : List ℕ) → Closes phase (stepped key phase kind_come content).phase (stepped key phase kind_come content).event
unfolding stepped
stepped_closes key (phases.Greeting own) kind_of.Hello content = greeting_closes key own (of_version own (only_coded (hello_of content)))
stepped_closes key (phases.Greeting own) kind_of.Proof content = closed_closes (phases.Greeting own) channel_faults.UnexpectedRecord
stepped_closes key (phases.Greeting own) kind_of.Frame content = closed_closes (phases.Greeting own) channel_faults.UnexpectedRecord
stepped_closes key (phases.Greeting own) kind_of.Beat content = closed_closes (phases.Greeting own) channel_faults.UnexpectedRecord
stepped_closes key (phases.Greeting own) (kind_of.More byte) content = closed_closes (phases.Greeting own) (channel_faults.Record BadKind)
stepped_closes key (phases.Asked caller) kind_come content = closed_closes (phases.Asked caller) channel_faults.UnexpectedRecord
stepped_closes key phases.Refused kind_come content = closed_closes phases.Refused (channel_faults.Record BadHello)
stepped_closes key (phases.Proving theirs ways) kind_of.Proof content = proof_closes (phases.Proving theirs ways) theirs ways content
stepped_closes key (phases.Proving theirs ways) kind_of.Hello content = closed_closes (phases.Proving theirs ways) channel_faults.UnexpectedRecord
stepped_closes key (phases.Proving theirs ways) kind_of.Frame content = closed_closes (phases.Proving theirs ways) channel_faults.UnexpectedRecord
stepped_closes key (phases.Proving theirs ways) kind_of.Beat content = closed_closes (phases.Proving theirs ways) channel_faults.UnexpectedRecord
stepped_closes key (phases.Proving theirs ways) (kind_of.More byte) content = closed_closes (phases.Proving theirs ways) (channel_faults.Record BadKind)
stepped_closes key (phases.Open ways) kind_of.Frame content = frame_closes (phases.Open ways) ways (length content - TAG_BYTES) (uncovered ways.reading kind_of.Frame content)
stepped_closes key (phases.Open ways) kind_of.Beat content = beat_closes (phases.Open ways) ways (length content - TAG_BYTES) (uncovered ways.reading kind_of.Beat content)
stepped_closes key (phases.Open ways) kind_of.Hello content = closed_closes (phases.Open ways) channel_faults.UnexpectedRecord
stepped_closes key (phases.Open ways) kind_of.Proof content = closed_closes (phases.Open ways) channel_faults.UnexpectedRecord
stepped_closes key (phases.Open ways) (kind_of.More byte) content = further_closes (phases.Open ways) ways.reading.version ways byte content
stepped_closes key (phases.Closed fault) kind_come content = closed_closes (phases.Closed fault) fault

step_closes : (key : List ℕ) (phase : Phase) (read : Result Kind RecordFault) (content : List ℕ) → Closes phase (step_by key phase read content).phase (step_by key phase read content).event
step_closes key phase (Err fault) content = closed_closes phase (channel_faults.Record fault)
step_closes key phase (Ok kind_come) content = stepped_closes key phase kind_come content

front_closes : (key : List ℕ) (phase : Phase) (bytes : List ℕ) → Closes phase (front_step key phase bytes).phase (front_step key phase bytes).event
unfolding front_step
front_closes key phase bytes = step_closes key phase (kind_in bytes) (drop 5 bytes)

undialled : (dialled : Option ℕ) → HasHello dialled None → dialled ≡ None
undialled None has = refl
undialled (Some number) has = absurd has

-- who closes or refuses knows of both Hellos what it knew
refuses_knows : (key : Key) (dialled : Option ℕ) (mine theirs : Option Hello) (said : List Record) (came waiting waiting_new : List ℕ) (old new : Phase) → Refuses old new → KnowsHellos key dialled mine theirs said came waiting old
    → KnowsHellos key dialled mine theirs said came waiting_new new
refuses_knows key dialled mine theirs said came waiting waiting_new old new (inl (fault, e)) knows = subst (λ (p : Phase). KnowsHellos key dialled mine theirs said came waiting_new p) (sym e) tt
refuses_knows key dialled mine theirs said came waiting waiting_new old new (inr (greeting, e)) knows =
    let knew : KnowsHellos key dialled mine theirs said came waiting (phases.Greeting None) = subst (λ (p : Phase). KnowsHellos key dialled mine theirs said came waiting p) greeting knows in
    subst (λ (p : Phase). KnowsHellos key dialled mine theirs said came waiting_new p) (sym e) (knew.0, knew.1, undialled dialled knew.2)

fault_reads : (says : SaysProof) (given : List Given) (own : Own) (talk : Talk) (old new : Channel) (stage : Stage) (fault : PeerFault) (found : ConnectionFault) → new.out ≡ old.out → Reads old new (Err found) → CodedSpoke given own talk old stage
    → CodedSpoke given own talk new (stages.Closed fault)
fault_reads says given own talk old new stage fault found out reads so =
    let phase_is : new.phase ≡ (front_step old.key.bytes old.phase (front old.came.waiting)).phase = ap (λ (c : Channel). c.phase) reads.others in
    let refuses : Refuses old.phase (front_step old.key.bytes old.phase (front old.came.waiting)).phase = front_closes old.key.bytes old.phase (front old.came.waiting) (subst (λ (e : Came). IsFaulty e) reads.told_is tt) in
    kept_so given own talk old new stage (stages.Closed fault) (key_kept old new _ reads) out so
    (subst (λ (p : Phase). KnowsHellos old.key talk.dialled so.mine so.theirs so.said talk.came new.came.waiting p) (sym phase_is)
    (refuses_knows old.key talk.dialled so.mine so.theirs so.said talk.came old.came.waiting new.came.waiting old.phase _ refuses so.knows)) tt

same_so : (given : List Given) (own : Own) (talk : Talk) (old new : Channel) (stage : Stage) (fault : PeerFault) → new ≡ old → CodedSpoke given own talk old stage → CodedSpoke given own talk new (stages.Closed fault)
same_so given own talk old new stage fault e so = subst (λ (c : Channel). CodedSpoke given own talk c (stages.Closed fault)) (sym e) (of_stage given own talk old stage (stages.Closed fault) so tt)

fault_is_no_hello : (found : ConnectionFault) (old new : Channel) → (new.out ≡ old.out) ⊎ ((hello : Hello) × (◌≡◌ {A = Option Came} (Some (Err found)) (Some (Ok (events.Greeted hello))))) → new.out ≡ old.out
fault_is_no_hello found old new (inl same) = same
fault_is_no_hello found old new (inr (hello, e)) = absurd (fault_is_told (events.Greeted hello) found (sym e))

fault_by : (says : SaysProof) (given : List Given) (own : Own) (talk : Talk) (phase : Phase) (old new : Channel) (stage : Stage) (fault : PeerFault) (found : ConnectionFault) → new.out ≡ old.out → Next phase old (Some (Err found)) new → CodedSpoke given own talk old stage
    → CodedSpoke given own talk new (stages.Closed fault)
fault_by says given own talk (phases.Asked caller) old new stage fault found out next so = same_so given own talk old new stage fault next.1 so
fault_by says given own talk (phases.Closed earlier) old new stage fault found out next so = same_so given own talk old new stage fault next.1 so
fault_by says given own talk phases.Refused old new stage fault found out next so = same_so given own talk old new stage fault next.1 so
fault_by says given own talk (phases.Greeting mine) old new stage fault found out next so = fault_reads says given own talk old new stage fault found out next so
fault_by says given own talk (phases.Proving theirs ways) old new stage fault found out next so = fault_reads says given own talk old new stage fault found out next so
fault_by says given own talk (phases.Open ways) old new stage fault found out next so = fault_reads says given own talk old new stage fault found out next so

came_so : (stands : Stands) (says : SaysProof) (given : List Given) (own : Own) (talk : Talk) (old new : Channel) (stage : Stage) (came : Came) → Next old.phase old (Some came) new → CodedSpoke given own talk old stage
    → CodedSpoke given own talk new (coded_step stage came).stage
came_so stands says given own talk old new stage (Err found) next so = fault_by says given own talk old.phase old new stage (peer_fault_of found) found (fault_is_no_hello found old new (says old new _ next)) next so
came_so stands says given own talk old new stage (Ok event) next so = told_so says given own talk old new stage event next (stands old new event next) so

-- ---- a call of `next`

hears_on : (stands : Stands) (says : SaysProof) (given : List Given) (own : Own) (talk : Talk) (old new : CodedConnection) (told : Told) → Hears old new told → Of given own talk old → Of given own talk new
hears_on stands says given own talk old new told hears so = subst (λ (s : Stage). CodedSpoke given own talk new.channel s) (sym hears.stage) (came_so stands says given own talk old.channel new.channel old.stage hears.came hears.next so)

parts_so : (given : List Given) (own : Own) (talk : Talk) (old new : CodedConnection) → new.channel ≡ old.channel → new.stage ≡ old.stage → Of given own talk old → Of given own talk new
parts_so given own talk old new channel stage so = subst (λ (s : Stage). CodedSpoke given own talk new.channel s) (sym stage) (subst (λ (c : Channel). CodedSpoke given own talk c old.stage) (sym channel) so)

waits_so : (stands : Stands) (waits : WaitsEach) (says : SaysProof) (given : List Given) (own : Own) (talk : Talk) (old new : CodedConnection) (result : Option Told) → HearsOrWaits old result new → Of given own talk old → Of given own talk new
waits_so stands waits says given own talk old new None (next, stays) so = parts_so given own talk old new (waits old.channel new.channel next) stays so
waits_so stands waits says given own talk old new (Some told) hears so = hears_on stands says given own talk old new told hears so

stays_so : (given : List Given) (own : Own) (talk : Talk) (old new : CodedConnection) → new ≡ old → Of given own talk old → Of given own talk new
stays_so given own talk old new e so = subst (λ (c : CodedConnection). Of given own talk c) (sym e) so

proved_so : (stands : Stands) (waits : WaitsEach) (says : SaysProof) (given : List Given) (own : Own) (talk : Talk) (said : Bool) (old new : CodedConnection) (result : Option Told) → HearsProof said old result new → Of given own talk old → Of given own talk new
proved_so stands waits says given own talk true old new result next so = waits_so stands waits says given own talk old new result next so
proved_so stands waits says given own talk false old new result next so = stays_so given own talk old new next.1 so

next_so : (stands : Stands) (waits : WaitsEach) (says : SaysProof) (given : List Given) (own : Own) (talk : Talk) (stage : Stage) (old new : CodedConnection) (result : Option Told) → NextCoded stage old result new → Of given own talk old → Of given own talk new
next_so stands waits says given own talk (stages.Asked hello) old new result next so = stays_so given own talk old new next.1 so
next_so stands waits says given own talk (stages.Proved hello) old new result next so = stays_so given own talk old new next.1 so
next_so stands waits says given own talk (stages.Closed fault) old new result next so = stays_so given own talk old new next.1 so
next_so stands waits says given own talk stages.Greeting old new result next so = waits_so stands waits says given own talk old new result next so
next_so stands waits says given own talk (stages.Matched hello) old new result next so = proved_so stands waits says given own talk (has_said_hello old.channel.out) old new result next so
next_so stands waits says given own talk (stages.Open hello) old new result next so = waits_so stands waits says given own talk old new result next so

pub coded_nexts_so : (stands : Stands) (waits : WaitsEach) (says : SaysProof) (old new : CodedConnection) (result : Option Told) → NextCoded old.stage old result new → SpeaksOn (Coded old) (Coded new)
coded_nexts_so stands waits says old new result next given own talk spoke = ∥∥₁_map spoke (λ so. next_so stands waits says given own talk old.stage old new result next so)
