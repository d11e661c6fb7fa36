-- What is sent is backed, and stays so.
use Rattle.std.proofs.Common.{◌≡◌, ℕ, ◌⊎◌, inl, inr, Bool, true, false, if◌then◌else◌, List, [], ◌∷◌, Option, Some, None, Result, Ok, Err, refl, sym, ap, subst, ◌∙◌}
use Rattle.paxos_wire.specs.declared.ballot.Ballot.{Ballot}
use Rattle.paxos_wire.specs.declared.message.Message.{Message as Wire}
use Rattle.paxos_wire.specs.declared.message.Message.TheVariants as frame
use Rattle.slot_log.specs.declared.command.Command.{Command}
use Rattle.slot_log.specs.declared.slot_fault.SlotFault.{SlotFault}
use Rattle.protocol_model.specs.Sets.{In}
use Rattle.protocol_model.specs.Ballots.{Below, AtMost}
use Rattle.protocol_model.specs.Messages.{Vote, Message, Prepare, Promise, Refuse, Accept, Accepted, Chosen, Ask, Forward, Said, sender_of}
use Rattle.protocol_model.specs.Stores.{Store, promised, voted, unchanged}
use Rattle.protocol_model.specs.Backing.{Backs, HasNoOther, IsWithinPromise, IsAcceptedToo}
use Rattle.protocol_model.specs.Dealers.{Dealer}
use Rattle.protocol_model.specs.Nodes.{Node}
use Rattle.protocol_model.specs.Worlds.{World, Reached, new_world}
use Rattle.protocol_model.specs.Laws.{IsLeft}
use Rattle.paxos_wire.specs.Order.{is_below}
use Rattle.proposer.specs.Campaigns.{next_ballot}
use Rattle.learner.specs.Learning.{Learned, answer_to_chosen, believing as with_chosen}
use Rattle.learner.specs.CommandRuns.{answer_to_run, hearing_run}
use Rattle.seat_session.specs.Session.{Standing as Talk}
use Rattle.seat_session.specs.declared.said.Said.{Said as Saying}
use Rattle.seat_session.specs.declared.said.Said.TheVariants.{Ready, Act}
use Rattle.seat_session.specs.declared.session_fault.SessionFault.{SessionFault}
use Rattle.dealer_kind.specs.Kind.{dealer_of}
use Rattle.node_rules.specs.Standings.{Place, Standing, front_of, with_stored, idle}
use Rattle.node_rules.specs.Sending.{Frame, to_others}
use Rattle.node_rules.specs.Showing.{Piece}
use Rattle.node_rules.specs.Turns.{Turn, Refusal, Down, Spent, Conflict, still, sending, joined, behind, and_then}
use Rattle.node_rules.specs.Applying.{applying}
use Rattle.node_rules.specs.Learning.{learning, asking_on, comes_to_window}
use Rattle.protocol_model.specs.Votes.{command_run_at, taking_command_run}
use Rattle.node_rules.specs.Accepting.{refusing, promising, preparing, voting}
use Rattle.node_rules.specs.Proposing.{higher, greatest_seen, is_over, is_spent, beginning}
use Rattle.node_rules.specs.Seats.{session_at, with_session, connecting, dropping, left, answering, answering_all, HearsPiece}
use Rattle.node_rules.specs.Calls.{Call, Start, Tick, Away, Line, Connect, Drop, Stop}
use Rattle.node_rules.specs.Calls as call
use Rattle.node_rules.specs.Rules.{seeing, taking, starting, stopping, IsTurnUp, IsTurnDown, IsTurnBy, IsTurn, standing_after}
use Rattle.node_rules.specs.Being.{IsOf}
use Rattle.node_rules.specs.Called.{Comes, IsSaid, Ends, took, refused, failed}
use Rattle.node_rules.specs.Called as ways
use Rattle.node_rules.specs.Given.{Given}
use Rattle.node_rules.specs.Sound.{Stands}
use Rattle.node_rules.specs.LawsBacking.{SentIsBacked, BackedStaysSo}
use Rattle.protocol_model.proofs.Sets.{in_first}
use Rattle.protocol_model.proofs.Ballots.{at_most_self, below_if, at_most_if_not}
use Rattle.node_rules.proofs.Ordering.{higher_is}
use Rattle.node_rules.proofs.Ticking.{above}
use Rattle.node_rules.proofs.Results.{ok_is, ok_not}
use Rattle.node_rules.proofs.Chaining.{turns_are_chains}
use Rattle.node_rules.proofs.Sounding.{harmless_by, harmless_still}
use Rattle.node_rules.proofs.Resting.{Closed, rests, proposes}
use Rattle.node_rules.proofs.Led.{tick_splits, order_turn, piece_splits, frame_turn}
use Rattle.node_rules.proofs.Noting.{played_for}
use Rattle.node_rules.proofs.Asked.{asked_same}

-- what the model says of backing
pub record Backing : Type 0 where
  pub promise : (store : Store) (ballot : Ballot) (message : Message) → Below store.promise ballot → Backs store message → Backs (promised store ballot) message
  pub vote : (store : Store) (slot : ℕ) (vote : Vote) (message : Message)
      → IsWithinPromise store → AtMost store.promise vote.ballot → HasNoOther store slot vote → Backs store message → Backs (voted store slot vote) message
  pub command_run : (store : Store) (ballot : Ballot) (slot : ℕ) (commands : List Command) (message : Message)
      → IsWithinPromise store → AtMost store.promise ballot → Backs store message → Backs (taking_command_run store ballot slot commands) message
  pub left : (dealer : Dealer) (n i : ℕ) (world : World) (store : Store) (message : Message)
      → Reached dealer n world → IsLeft i (world.nodes i) store → In message world.ever → sender_of message ≡ i
      → IsAcceptedToo world.ever message → Backs store message

-- ---- what is sent

-- what the next start may find is left by the node
left_by : (own : ℕ → Command → Bool) (place : Place) (after : Standing) (last node : Node) (found : Store) (b : Bool) → after.up ≡ b
    → IsOf own place after last → IsOf own place after node → (found ≡ last.store) ⊎ (found ≡ last.begun) → IsLeft place.node node found
left_by own place after last node found true up of is h =
    let store : found ≡ node.store = elim h [
      | inl e ↦ e ∙ (of.store ∙ sym is.store)
      | inr e ↦ e ∙ (of.begun ∙ ((of.runs up).unbegun ∙ sym is.store))
    ] in
    inl (is.up ∙ up, unchanged found store)
left_by own place after last node found false down of is h = inr (is.up ∙ down, elim h [ inl e ↦ inl (e ∙ (of.store ∙ sym is.store)) | inr e ↦ inr (e ∙ (of.begun ∙ sym is.begun)) ])

accepted_too : (ever : List Message) (i : ℕ) (message : Message) → sender_of message ≡ i
    → ((ballot : Ballot) (slot : ℕ) (command : Command) → message ≡ Accept ballot slot command → In (Accepted i ballot slot command) ever) → IsAcceptedToo ever message
accepted_too ever i (Prepare ballot slot) own accepted = tt
accepted_too ever i (Promise sender ballot slot told) own accepted = tt
accepted_too ever i (Refuse sender ballot slot promised) own accepted = tt
accepted_too ever i (Accept ballot slot command) own accepted = subst (λ k. In (Accepted k ballot slot command) ever) (sym own) (accepted ballot slot command refl)
accepted_too ever i (Accepted sender ballot slot command) own accepted = tt
accepted_too ever i (Chosen sender slot command) own accepted = tt
accepted_too ever i (Ask sender slot) own accepted = tt
accepted_too ever i (Forward sender command) own accepted = tt
accepted_too ever i (Said sender command) own accepted = tt

pub sent_is_backed : Given → Backing → SentIsBacked
sent_is_backed g b own place world s called turn last st comes h of message said found is =
    let taken = turns_are_chains g called own place world s turn st comes h in
    let c = taken.called in
    let now = g.reach (dealer_of place.setting own) place.nodes place.node new_world world c.output c.last st.reached st.is_place.node c.chain in
    let sender : sender_of message ≡ place.node = c.carry.own message (c.carry.said message said) in
    let ever : (m : Message) → In m c.output.sent → In m now.0.ever = λ m k. subst (λ (l : List Message). In m l) (sym now.2.ever) (in_first c.output.sent world.ever m k) in
    b.left (dealer_of place.setting own) place.nodes place.node now.0 found message now.1
    (subst (λ (y : Node). IsLeft place.node y found) (sym now.2.moved) (left_by own place turn.after last c.last found turn.after.up refl of c.of is))
    (ever message (c.carry.said message said)) sender
    (accepted_too now.0.ever place.node message sender (λ ballot slot command e.
    ever (Accepted place.node ballot slot command) (c.carry.said (Accepted place.node ballot slot command)
    (c.carry.accepts ballot slot command (subst (IsSaid place.node turn.frames) e said)))))

-- ---- what was backed

-- what the one store backs the other backs
abbrev Keeps : Store → Store → Type 0
Keeps old new = (message : Message) → Backs old message → Backs new message

closed_keeps : (b : Backing) (place : Place) (s : Standing) (c : Turn) → IsWithinPromise s.store → Closed place s c → Keeps s.store c.after.store
closed_keeps b place s c within (rests campaign e) m h = subst (λ (st : Store). Backs st m) (sym (ap (λ (t : Turn). t.after.store) e)) h
closed_keeps b place s c within (proposes o) m h =
    let made = o.made in
    subst (λ (st : Store). Backs st m) (sym (ap (λ (t : Turn). t.after.store) o.turn_is))
    (b.command_run s.store made.ballot made.slot made.commands m within (subst (AtMost s.store.promise) o.promised (at_most_self s.store.promise)) h)

closed_begun : (place : Place) (s : Standing) (c : Turn) → s.begun ≡ s.store → Closed place s c → c.after.begun ≡ c.after.store
closed_begun place s c same (rests campaign e) = ap (λ (t : Turn). t.after.begun) e ∙ (same ∙ sym (ap (λ (t : Turn). t.after.store) e))
closed_begun place s c same (proposes o) = ap (λ (t : Turn). t.after.begun) o.turn_is ∙ sym (ap (λ (t : Turn). t.after.store) o.turn_is)

learned_store : {A : Type 0} (place : Place) (answer : Result A SlotFault) (learned : Learned) (s : Standing) (first : Turn) → learning place answer learned s ≡ Ok first → first.after.store ≡ s.store
learned_store place (Ok answer) learned s first e = ap (λ (t : Turn). t.after.store) (sym (ok_is (applying place learned s) first e))
learned_store place (Err fault) learned s first e = absurd (ok_not first (Conflict s.store) (sym e))

voted_store : {A : Type 0} (place : Place) (answer : Result A SlotFault) (learned : Learned) (s : Standing) (sent : List Frame) (first : Turn)
    → behind (sending sent s) (learning place answer learned s) ≡ Ok first → first.after.store ≡ s.store
voted_store place (Ok answer) learned s sent first e = ap (λ (t : Turn). t.after.store) (sym (ok_is (joined (sending sent s) (applying place learned s)) first e))
voted_store place (Err fault) learned s sent first e = absurd (ok_not first (Conflict s.store) (sym e))

asked_store : (b : Bool) (frames : List Frame) (s : Standing) → (if b then sending frames s else still s).after.store ≡ s.store
asked_store true frames s = refl
asked_store false frames s = refl

chosen_store : {A : Type 0} (place : Place) (answer : Result A SlotFault) (learned : Learned) (s : Standing) (from : ℕ) (first : Turn)
    → and_then (learning place answer learned s) (λ told. Ok (asking_on from (front_of s) told)) ≡ Ok first → first.after.store ≡ s.store
chosen_store place (Ok answer) learned s from first e =
    let u : Turn = applying place learned s in
    ap (λ (t : Turn). t.after.store) (sym (ok_is (joined u (asking_on from (front_of s) u.after)) first e))
    ∙ asked_store (comes_to_window (front_of s) (front_of u.after)) _ u.after
chosen_store place (Err fault) learned s from first e = absurd (ok_not first (Conflict s.store) (sym e))

keeps_by : (old new same : Store) → new ≡ same → Keeps old same → Keeps old new
keeps_by old new same e keeps m h = subst (λ (st : Store). Backs st m) (sym e) (keeps m h)

accept_keeps : (b : Backing) (place : Place) (from : ℕ) (ballot : Ballot) (slot : ℕ) (commands : List Command) (s : Standing) (first : Turn) (low : Bool) → is_below ballot s.store.promise ≡ low
    → IsWithinPromise s.store → (if low then Ok (refusing from ballot slot s) else voting place ballot slot commands (idle s)) ≡ Ok first → Keeps s.store first.after.store
accept_keeps b place from ballot slot commands s first true e within h =
    keeps_by s.store first.after.store s.store (ap (λ (t : Turn). t.after.store) (sym (ok_is (refusing from ballot slot s) first h))) (λ m k. k)
accept_keeps b place from ballot slot commands s first false e within h =
    let told : List Command = command_run_at s.store ballot slot commands in
    let kept : Standing = with_stored (idle s) (taking_command_run s.store ballot slot commands) in
    keeps_by s.store first.after.store kept.store
    (voted_store place (answer_to_run kept.learned place.node ballot slot told) (hearing_run kept.learned place.node ballot slot told) kept (to_others place (frame.Accepted ballot slot told)) first h)
    (λ m k. b.command_run s.store ballot slot commands m within (at_most_if_not ballot s.store.promise e) k)

prepare_keeps : (b : Backing) (from : ℕ) (ballot : Ballot) (slot : ℕ) (s : Standing) (above : Bool) → is_below s.store.promise ballot ≡ above
    → Keeps s.store (if above then promising from ballot slot s else refusing from ballot slot s).after.store
prepare_keeps b from ballot slot s true e m h = b.promise s.store ballot m (below_if s.store.promise ballot e) h
prepare_keeps b from ballot slot s false e m h = h

message_keeps : (b : Backing) (place : Place) (s : Standing) (from : ℕ) (message : Wire) (first : Turn) → IsWithinPromise s.store
    → taking place from message (seeing message s) ≡ Ok first → Keeps s.store first.after.store
message_keeps b place s from (frame.Prepare ballot slot) first within is =
    let s0 : Standing = seeing (frame.Prepare ballot slot) s in
    keeps_by s.store first.after.store (preparing from ballot slot s0).after.store (ap (λ (t : Turn). t.after.store) (sym (ok_is (preparing from ballot slot s0) first is)))
    (prepare_keeps b from ballot slot s0 (is_below s0.store.promise ballot) refl)
message_keeps b place s from (frame.Promise ballot slot told) first within is = keeps_by s.store first.after.store s.store (ap (λ (t : Turn). t.after.store) (sym (ok_is _ first is))) (λ m h. h)
message_keeps b place s from (frame.Refuse ballot slot promised) first within is = keeps_by s.store first.after.store s.store (ap (λ (t : Turn). t.after.store) (sym (ok_is _ first is))) (λ m h. h)
message_keeps b place s from (frame.Accept ballot slot commands) first within is =
    let s0 : Standing = seeing (frame.Accept ballot slot commands) s in
    accept_keeps b place from ballot slot commands s0 first (is_below ballot s0.store.promise) refl within is
message_keeps b place s from (frame.Accepted ballot slot commands) first within is =
    let s0 : Standing = seeing (frame.Accepted ballot slot commands) s in
    keeps_by s.store first.after.store s.store (learned_store place (answer_to_run s0.learned from ballot slot commands) (hearing_run s0.learned from ballot slot commands) s0 first is) (λ m h. h)
message_keeps b place s from (frame.Chosen slot command) first within is =
    let s0 : Standing = seeing (frame.Chosen slot command) s in
    keeps_by s.store first.after.store s.store (chosen_store place (answer_to_chosen s0.learned.log slot command) (with_chosen s0.learned slot command) s0 from first is) (λ m h. h)
message_keeps b place s from (frame.Ask slot) first within is = keeps_by s.store first.after.store s.store (ap (λ (t : Turn). t.after.store) (sym (ok_is _ first is))) (λ m h. h)
message_keeps b place s from (frame.Forward command) first within is = keeps_by s.store first.after.store s.store (ap (λ (t : Turn). t.after.store) (sym (ok_is _ first is))) (λ m h. h)

tick_keeps : (b : Backing) (place : Place) (s : Standing) (first : Turn) (over spent : Bool)
    → (if over then Ok (still s) else if spent then Err Spent else Ok (beginning place (next_ballot place.node (greatest_seen s)) s)) ≡ Ok first → Keeps s.store first.after.store
tick_keeps b place s first true spent is = keeps_by s.store first.after.store s.store (ap (λ (t : Turn). t.after.store) (sym (ok_is (still s) first is))) (λ m h. h)
tick_keeps b place s first false true is = absurd (ok_not first Spent (sym is))
tick_keeps b place s first false false is =
    let ballot : Ballot = next_ballot place.node (greatest_seen s) in
    keeps_by s.store first.after.store (promised s.store ballot) (ap (λ (t : Turn). t.after.store) (sym (ok_is (beginning place ballot s) first is)))
    (λ m h. b.promise s.store ballot m (above s.store.promise (higher s.seen s.store.promise) place.node (higher_is s.seen s.store.promise).1) h)

answers_store : (place : Place) (seat : ℕ) (said : List (Result Saying SessionFault)) (t : Turn) → (answering_all place seat said t).after.store ≡ t.after.store
unfolding answering_all
answers_store place seat [] t = refl
answers_store place seat (Ok Ready ∷ more) t = answers_store place seat more (joined t (answering place seat (Ok Ready) t.after))
answers_store place seat (Ok (Act act) ∷ more) t = answers_store place seat more (joined t (answering place seat (Ok (Act act)) t.after))
answers_store place seat (Err fault ∷ more) t = answers_store place seat more (joined t (answering place seat (Err fault) t.after))

heard_store : (place : Place) (s : Standing) (seat : ℕ) (bytes : List ℕ) (heard : Turn) (session : Option Talk) → HearsPiece place seat bytes session s heard → heard.after.store ≡ s.store
heard_store place s seat bytes heard None hears = ap (λ (t : Turn). t.after.store) hears
heard_store place s seat bytes heard (Some old) (said, new, drains, same) = ap (λ (t : Turn). t.after.store) same ∙ answers_store place seat said (still (with_session s seat (left new)))

-- both stores that a standing may leave
pub record KeepsBoth (old : Store) (after : Standing) : Type 0 where
  pub store : (message : Message) → Backs old message → Backs after.store message
  pub begun : (message : Message) → Backs old message → Backs after.begun message

both_of : (old : Store) (after : Standing) → after.begun ≡ after.store → Keeps old after.store → KeepsBoth old after
both_of old after same keeps = record { store = keeps; begun = λ m h. subst (λ (st : Store). Backs st m) (sym same) (keeps m h) }

up_keeps : (g : Given) (b : Backing) (own : ℕ → Command → Bool) (place : Place) (world : World) (s : Standing) (called : Call) (turn : Turn) (st : Stands own place world s) → s.up ≡ true
    → Comes place world.ever called → IsTurnUp place s called (Ok turn) → KeepsBoth s.store turn.after
up_keeps g b own place world s called turn st up comes h = by_call called comes h
  where
    unbegun : s.begun ≡ s.store
    unbegun = (st.of.runs up).unbegun

    within : IsWithinPromise s.store
    within = subst IsWithinPromise st.of.store (st.of.runs up).knows.within

    by_turn : (t : Turn) → turn ≡ t → t.after.begun ≡ t.after.store → Keeps s.store t.after.store → KeepsBoth s.store turn.after
    by_turn t e same keeps = subst (λ (u : Turn). KeepsBoth s.store u.after) (sym e) (both_of s.store t.after same keeps)

    by_call : (called : Call) → Comes place world.ever called → IsTurnUp place s called (Ok turn) → KeepsBoth s.store turn.after
    by_call (Start found) comes h = by_turn (still s) (ok_is turn (still s) h) unbegun (λ m k. k)
    by_call Tick comes h = elim (tick_splits g own place world s st up) [
      | inl split ↦
          (let c = split.closes in
          by_turn (joined split.first c.turn) (ok_is turn (joined split.first c.turn) (h ∙ split.whole)) (closed_begun place split.first.after c.turn split.path.unbegun c.closed)
          (λ m k. closed_keeps b place split.first.after c.turn (subst IsWithinPromise split.path.knows.store split.path.knows.within) c.closed m
          (tick_keeps b place s split.first (is_over place s) (is_spent s) split.is m k)))
      | inr none ↦ absurd (ok_not turn none.0 (h ∙ none.2))
    ]
    by_call Away comes h =
        let o = order_turn g own place world s st up turn h in
        let c = o.closes in
        by_turn (joined (played_for place o.act s) c.turn) o.whole (closed_begun place (played_for place o.act s).after c.turn o.sits.path.unbegun c.closed)
        (λ m k. closed_keeps b place (played_for place o.act s).after c.turn (subst IsWithinPromise o.sits.path.knows.store o.sits.path.knows.within) c.closed m k)
    by_call (call.Frame from bytes) comes h =
        let f = frame_turn g own place world s st up from bytes turn comes h in
        let c = f.split.closes in
        let same : turn.after ≡ c.turn.after = ap (λ (t : Turn). t.after) f.whole ∙ asked_same from f.message c.turn.after in
        subst (KeepsBoth s.store) (sym same) (both_of s.store c.turn.after (closed_begun place f.split.first.after c.turn f.split.path.unbegun c.closed)
        (λ m k. closed_keeps b place f.split.first.after c.turn (subst IsWithinPromise f.split.path.knows.store f.split.path.knows.within) c.closed m
        (message_keeps b place s from f.message f.split.first within f.split.is m k)))
    by_call (Line seat bytes) comes (heard, hears, e) =
        let p = piece_splits g own place world s st up seat bytes heard comes hears in
        let c = p.closes in
        by_turn (joined heard c.turn) (ok_is turn (joined heard c.turn) (e ∙ ap (λ (k : Result Turn Refusal). behind heard k) c.is)) (closed_begun place heard.after c.turn p.path.unbegun c.closed)
        (λ m k. closed_keeps b place heard.after c.turn (subst IsWithinPromise p.path.knows.store p.path.knows.within) c.closed m
        (subst (λ (x : Store). Backs x m) (sym (heard_store place s seat bytes heard (session_at s.sessions seat) hears)) k))
    by_call (Connect seat) comes h = by_turn (connecting seat s) (ok_is turn (connecting seat s) h) unbegun (λ m k. k)
    by_call (Drop seat) comes h = by_turn (dropping seat s) (ok_is turn (dropping seat s) h) unbegun (λ m k. k)
    by_call Stop comes h = by_turn (stopping place s) (ok_is turn (stopping place s) h) refl (λ m k. k)

-- ---- however a call ends

-- each store that the standing may leave backs it
abbrev AllBack : Standing → Message → Type 0
AllBack s message = Backs s.store message × Backs s.begun message

down_keeps : (place : Place) (s : Standing) (called : Call) (turn : Turn) → IsTurnDown place s called (Ok turn) → (message : Message) → AllBack s message → AllBack turn.after message
down_keeps place s (Start found) turn (from, h) m k =
    let back : Backs found m = elim from [ inl e ↦ subst (λ (st : Store). Backs st m) (sym e) k.0 | inr e ↦ subst (λ (st : Store). Backs st m) (sym e) k.1 ] in
    subst (λ (t : Turn). AllBack t.after m) (sym (ok_is turn (starting place found) h)) (back, back)
down_keeps place s Tick turn h m k = absurd (ok_not turn Down h)
down_keeps place s Away turn h m k = absurd (ok_not turn Down h)
down_keeps place s (call.Frame from bytes) turn h m k = absurd (ok_not turn Down h)
down_keeps place s (Line seat bytes) turn h m k = absurd (ok_not turn Down h)
down_keeps place s (Connect seat) turn h m k = absurd (ok_not turn Down h)
down_keeps place s (Drop seat) turn h m k = absurd (ok_not turn Down h)
down_keeps place s Stop turn h m k = subst (λ (t : Turn). AllBack t.after m) (sym (ok_is turn (still s) h)) k

turn_keeps : (g : Given) (b : Backing) (own : ℕ → Command → Bool) (place : Place) (world : World) (s : Standing) (called : Call) (turn : Turn) (up : Bool) (st : Stands own place world s) → s.up ≡ up
    → Comes place world.ever called → IsTurnBy up place s called (Ok turn) → (message : Message) → AllBack s message → AllBack turn.after message
turn_keeps g b own place world s called turn true st up comes h m k = let keeps = up_keeps g b own place world s called turn st up comes h in (keeps.store m k.0, keeps.begun m k.0)
turn_keeps g b own place world s called turn false st down comes h m k = down_keeps place s called turn h m k

outcome_keeps : (g : Given) (b : Backing) (own : ℕ → Command → Bool) (place : Place) (world : World) (s : Standing) (called : Call) (outcome : Result Turn Refusal) (st : Stands own place world s)
    → Comes place world.ever called → IsTurn place s called outcome → (message : Message) → AllBack s message → AllBack (standing_after place s outcome) message
outcome_keeps g b own place world s called (Ok turn) st comes h m k = turn_keeps g b own place world s called turn s.up st refl comes h m k
outcome_keeps g b own place world s called (Err refusal) st comes h m k =
    subst (λ (y : Standing). AllBack y m) (sym (harmless_still place s refusal (harmless_by g own place world s refusal called s.up st refl comes h))) k

ends_keep : (g : Given) (b : Backing) (own : ℕ → Command → Bool) (place : Place) (world : World) (s : Standing) (called : Call) (after : Standing) (frames : List Frame) (shown : List Piece)
    (st : Stands own place world s) → Comes place world.ever called → Ends place s called after frames shown → (message : Message) → AllBack s message → AllBack after message
ends_keep g b own place world s called after frames shown st comes (took turn rule e f p) m k =
    subst (λ (y : Standing). AllBack y m) (sym e) (outcome_keeps g b own place world s called (Ok turn) st comes rule m k)
ends_keep g b own place world s called after frames shown st comes (refused refusal rule e f p) m k =
    subst (λ (y : Standing). AllBack y m) (sym e) (outcome_keeps g b own place world s called (Err refusal) st comes rule m k)
ends_keep g b own place world s called after frames shown st comes (failed outcome begun up rule from e f p) m k =
    subst (λ (y : Standing). AllBack y m) (sym e) (
      k.0,
      elim from [
        | inl same ↦ subst (λ (x : Store). Backs x m) (sym same) k.0
        | inr same ↦ subst (λ (x : Store). Backs x m) (sym same) (outcome_keeps g b own place world s called outcome st comes rule m k).1
      ],
    )
ends_keep g b own place world s called after frames shown st comes (ways.unchanged e f p) m k = subst (λ (y : Standing). AllBack y m) (sym e) k

pub backed_stays_so : Given → Backing → BackedStaysSo
backed_stays_so g b own place world s called after frames shown last st comes ends of m k found is =
    let old : AllBack s m = (subst (λ (x : Store). Backs x m) st.of.store (k (world.nodes place.node).store (inl refl)), subst (λ (x : Store). Backs x m) st.of.begun (k (world.nodes place.node).begun (inr refl))) in
    let new = ends_keep g b own place world s called after frames shown st comes ends m old in
    elim is [ inl e ↦ subst (λ (x : Store). Backs x m) (sym (e ∙ of.store)) new.0 | inr e ↦ subst (λ (x : Store). Backs x m) (sym (e ∙ of.begun)) new.1 ]
