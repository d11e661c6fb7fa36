-- However a call ends, it is a chain of moves.
use Rattle.std.proofs.Common.{◌≡◌, ℕ, inl, inr, ◌⊎◌, Bool, true, false, true≢false, if◌then◌else◌, ◌&&◌, List, [], ◌∷◌, Option, Some, None, Result, Ok, Err, refl, sym, ap, subst, ◌∙◌}
use Rattle.std.specs.Prelude.{nat_le}
use Rattle.paxos_wire.specs.declared.limits.TheConstants.{SLOTS}
use Rattle.paxos_wire.specs.Faults.{reading}
use Rattle.paxos_wire.specs.declared.message.Message.TheVariants as frame
use Rattle.slot_log.specs.declared.command.Command.{Command}
use Rattle.slot_log.specs.declared.slot_fault.SlotFault.{SlotFault}
use Rattle.protocol_model.specs.Sets.{In}
use Rattle.protocol_model.specs.Stores.{Store, Append}
use Rattle.protocol_model.specs.Arrivals.{Arrival, Event}
use Rattle.protocol_model.specs.Worlds.{World}
use Rattle.protocol_model.specs.Messages.{Message}
use Rattle.protocol_model.specs.Moves.{nothing, more, stops}
use Rattle.proposer.specs.declared.accept_run.AcceptRun.{AcceptRun}
use Rattle.proposer.specs.declared.fault.ProposeFault.{ProposeFault}
use Rattle.proposer.specs.Campaigns.{leads}
use Rattle.learner.specs.Learning.{Learned}
use Rattle.node_rules.specs.Standings.{Place, Standing, applied, front_of, stopped, with_stored, idle}
use Rattle.node_rules.specs.Sending.{Frame, to_others}
use Rattle.node_rules.specs.Showing.{Piece}
use Rattle.node_rules.specs.Turns.{Turn, Refusal, Down, Spent, BadFrame, Conflict, NothingToAct, still, sending, behind, and_then}
use Rattle.node_rules.specs.Learning.{learning, counting_votes}
use Rattle.proposer.specs.CommandRuns.{marked_run_from}
use Rattle.learner.specs.CommandRuns.{answer_to_run, hearing_run}
use Rattle.protocol_model.specs.Votes.{command_run_at, taking_command_run}
use Rattle.node_rules.specs.Accepting.{voting}
use Rattle.node_rules.specs.Proposing.{proposing, closing_by, proposal_at, closing}
use Rattle.node_rules.specs.Seats.{connecting, dropping, away_at, ordering_by}
use Rattle.node_rules.specs.Calls.{Call, Start, Tick, Away, Line, Connect, Drop, Stop}
use Rattle.node_rules.specs.Calls as call
use Rattle.node_rules.specs.Rules.{stopping, IsTurnUp, IsTurnDown, IsTurnBy, IsTurn, standing_after}
use Rattle.node_rules.specs.Called.{came_in, Comes, log_before, events_of, taken_events, failed_events, Called, Begins, took, refused, failed, unchanged}
use Rattle.node_rules.specs.Given.{Given}
use Rattle.node_rules.specs.Sound.{Stands, AppendsAreBegun, CallsAreSound, LinesAreRefusedDown}
use Rattle.node_rules.proofs.Telling.{nothing_shown}
use Rattle.node_rules.proofs.Paths.{Scope, first_in, Path, Goes, IsHarmless}
use Rattle.node_rules.proofs.Beginning.{hearing_of, begin}
use Rattle.node_rules.proofs.Framing.{frame_goes, tick_goes}
use Rattle.node_rules.proofs.Closing.{close}
use Rattle.node_rules.proofs.Hearing.{piece_sits}
use Rattle.node_rules.proofs.Noting.{played_for, order_sits}
use Rattle.node_rules.proofs.Halting.{Halted, halt_same, Leaves, frame_leaves, tick_leaves, then_closes}
use Rattle.node_rules.proofs.Starting.{nothing_taken}
use Rattle.node_rules.proofs.Results.{ok_is, ok_not, err_is}
use Rattle.node_rules.proofs.Chaining.{scope_of, log_is, runs_in, turns_are_chains}

-- ---- refusals change nothing, unless another command is known

pub harmless_still : (place : Place) (s : Standing) (r : Refusal) → IsHarmless r → standing_after place s (Err r) ≡ s
harmless_still place s Down h = refl
harmless_still place s Spent h = refl
harmless_still place s (BadFrame fault) h = refl
harmless_still place s (Conflict store) h = absurd h
harmless_still place s NothingToAct h = refl

harmless_up : (g : Given) (own : ℕ → Command → Bool) (place : Place) (world : World) (s : Standing) (r : Refusal) (called : Call) (st : Stands own place world s) → s.up ≡ true
    → Comes place world.ever called → IsTurnUp place s called (Err r) → IsHarmless r
harmless_up g own place world s r (Start found) st up comes h = absurd (ok_not (still s) r (sym h))
harmless_up g own place world s r Tick st up comes h =
    let x : Scope = scope_of g own place world s st true [] in
    subst (Goes x [] (hearing_of s (first_in x))) (sym h) (tick_goes x s refl (runs_in g own place world s st up true []) refl)
harmless_up g own place world s r Away st up comes h = by_act (away_at place s) refl h
  where
    by_act : (act : Option Command) → away_at place s ≡ act → ◌≡◌ {A = Result Turn Refusal} (Err r) (and_then (ordering_by place act s) (closing place)) → IsHarmless r
    by_act None e k = subst IsHarmless (sym (err_is r NothingToAct k)) tt
    by_act (Some act) e k =
        let x : Scope = scope_of g own place world s st true [] in
        let sits = order_sits x s act (runs_in g own place world s st up true []) refl e in
        subst (Goes x sits.came sits.heard) (sym k) (close x sits.came sits.heard (played_for place act s) refl sits.path)
harmless_up g own place world s r (call.Frame from bytes) st up comes h =
    let x : Scope = scope_of g own place world s st true (came_in (call.Frame from bytes)) in
    subst (Goes x [] (hearing_of s (first_in x))) (sym h) (frame_goes x s from (reading bytes) (g.has_commands bytes) refl (runs_in g own place world s st up true (came_in (call.Frame from bytes))) refl comes)
harmless_up g own place world s r (Line seat bytes) st up comes (heard, hears, e) =
    let x : Scope = scope_of g own place world s st true [] in
    let sits = (piece_sits x s seat bytes heard (runs_in g own place world s st up true []) refl comes hears).0 in
    subst (Goes x sits.came sits.heard) (sym e) (close x sits.came sits.heard heard refl sits.path)
harmless_up g own place world s r (Connect seat) st up comes h = absurd (ok_not (connecting seat s) r (sym h))
harmless_up g own place world s r (Drop seat) st up comes h = absurd (ok_not (dropping seat s) r (sym h))
harmless_up g own place world s r Stop st up comes h = absurd (ok_not (stopping place s) r (sym h))

down_is : (r : Refusal) → ◌≡◌ {A = Result Turn Refusal} (Err r) (Err Down) → IsHarmless r
down_is r e = subst IsHarmless (sym (err_is r Down e)) tt

harmless_down : (place : Place) (s : Standing) (r : Refusal) (called : Call) → IsTurnDown place s called (Err r) → IsHarmless r
harmless_down place s r (Start found) (left, h) = absurd (ok_not _ r (sym h))
harmless_down place s r Tick h = down_is r h
harmless_down place s r Away h = down_is r h
harmless_down place s r (call.Frame from bytes) h = down_is r h
harmless_down place s r (Line seat bytes) h = down_is r h
harmless_down place s r (Connect seat) h = down_is r h
harmless_down place s r (Drop seat) h = down_is r h
harmless_down place s r Stop h = absurd (ok_not (still s) r (sym h))

pub harmless_by : (g : Given) (own : ℕ → Command → Bool) (place : Place) (world : World) (s : Standing) (r : Refusal) (called : Call) (b : Bool) (st : Stands own place world s) → s.up ≡ b
    → Comes place world.ever called → IsTurnBy b place s called (Err r) → IsHarmless r
harmless_by g own place world s r called true st e comes h = harmless_up g own place world s r called st e comes h
harmless_by g own place world s r called false st e comes h = harmless_down place s r called h

-- ---- appends

begins_of : (x : Scope) (came : List Arrival) (store : Store) (events : List (List Event)) → Halted x came store → In (events_of came) events
    → Begins x.own x.place x.world.ever (first_in x) events store
begins_of x came store events h happened = record {
  output = record { sent = h.sent; shown = []; came = came };
  last = h.last;
  chain = h.chain;
  up = h.up;
  same_store = h.same_store;
  left = inl (h.up, h.append);
  own_messages = h.own;
  unaccepted = h.unvoted;
  unshown = refl;
  happened = happened;
}

-- the chain of a call as far as it came, with the store that its append may leave
pub record Halts (g : Given) (own : ℕ → Command → Bool) (place : Place) (world : World) (s : Standing) (st : Stands own place world s) (called : Call) (store : Store) : Type 0 where
  pub came : List Arrival
  pub halted : Halted (scope_of g own place world s st false (came_in called)) came store
  pub happened : In (events_of came) (failed_events place.node (front_of s) called)

quiet_halted : (g : Given) (own : ℕ → Command → Bool) (place : Place) (world : World) (s : Standing) (st : Stands own place world s) → s.up ≡ true → (messages : List Message) (store : Store) → store ≡ s.store
    → Halted (scope_of g own place world s st false messages) [] store
quiet_halted g own place world s st up messages store same =
    let x : Scope = scope_of g own place world s st false [] in
    let h : Halted x [] s.store = halt_same x [] (hearing_of s (first_in x)) (applied s) (still s) refl refl (begin x s (runs_in g own place world s st up false []) refl) in
    record {
      sent = h.sent;
      last = h.last;
      chain = h.chain;
      up = h.up;
      same_store = h.same_store;
      append = subst (λ (k : Store). Append place.node h.last.has h.last.store k) (sym same) h.append;
      own = h.own;
      unvoted = h.unvoted;
      got = λ m k. elim (h.got m k) [ inl a ↦ inl a | inr b ↦ elim b [ inl none ↦ absurd none | inr c ↦ inr (inr c) ] ];
    }

first_event : (i front : ℕ) (called : Call) → In [] (failed_events i front called)
first_event i front (Start found) = inl refl
first_event i front Tick = inl refl
first_event i front Away = inl refl
first_event i front (call.Frame from bytes) = inl refl
first_event i front (Line seat bytes) = inl refl
first_event i front (Connect seat) = inl refl
first_event i front (Drop seat) = inl refl
first_event i front Stop = inl refl

same_halts : (g : Given) (own : ℕ → Command → Bool) (place : Place) (world : World) (s : Standing) (st : Stands own place world s) (called : Call) (store : Store) → s.up ≡ true → store ≡ s.store
    → Halts g own place world s st called store
same_halts g own place world s st called store up same = record {
  came = [];
  halted = quiet_halted g own place world s st up (came_in called) store same;
  happened = first_event place.node (front_of s) called;
}

unbegun_of : (own : ℕ → Command → Bool) (place : Place) (world : World) (s : Standing) (st : Stands own place world s) → s.up ≡ true → s.begun ≡ s.store
unbegun_of own place world s st up = (st.of.runs up).unbegun

refused_halts : (g : Given) (own : ℕ → Command → Bool) (place : Place) (world : World) (s : Standing) (st : Stands own place world s) (called : Call) (r : Refusal) → s.up ≡ true → IsHarmless r
    → Halts g own place world s st called (standing_after place s (Err r)).begun
refused_halts g own place world s st called r up harmless =
    same_halts g own place world s st called (standing_after place s (Err r)).begun up
    (ap (λ (k : Standing). k.begun) (harmless_still place s r harmless) ∙ unbegun_of own place world s st up)

halts_up : (g : Given) (own : ℕ → Command → Bool) (place : Place) (world : World) (s : Standing) (st : Stands own place world s) (called : Call) (turn : Turn) → s.up ≡ true
    → Comes place world.ever called → IsTurnUp place s called (Ok turn) → Halts g own place world s st called turn.after.begun
halts_up g own place world s st (Start found) turn up comes h =
    same_halts g own place world s st (Start found) turn.after.begun up (ap (λ (t : Turn). t.after.begun) (ok_is turn (still s) h) ∙ unbegun_of own place world s st up)
halts_up g own place world s st Tick turn up comes h =
    let x : Scope = scope_of g own place world s st false [] in
    let y : Scope = scope_of g own place world s st true [] in
    let path : Path y [] (hearing_of s (first_in y)) (applied turn.after) turn =
    subst (Goes y [] (hearing_of s (first_in y))) (sym h) (tick_goes y s refl (runs_in g own place world s st up true []) refl) in
    record {
      came = [];
      halted = subst (Halted x []) (sym path.unbegun) (subst (Leaves x []) (sym h) (tick_leaves x s refl refl (runs_in g own place world s st up false []) refl));
      happened = inl refl;
    }
halts_up g own place world s st Away turn up comes h = by_act (away_at place s) refl h
  where
    x : Scope
    x = scope_of g own place world s st false []

    y : Scope
    y = scope_of g own place world s st true []

    by_act : (act : Option Command) → away_at place s ≡ act → ◌≡◌ {A = Result Turn Refusal} (Ok turn) (and_then (ordering_by place act s) (closing place)) → Halts g own place world s st Away turn.after.begun
    by_act None e k = absurd (ok_not turn NothingToAct k)
    by_act (Some act) e k =
        let sits = order_sits y s act (runs_in g own place world s st up true []) refl e in
        let path : Path y sits.came sits.heard (applied turn.after) turn =
        subst (Goes y sits.came sits.heard) (sym k) (close y sits.came sits.heard (played_for place act s) refl sits.path) in
        let quiet = order_sits x s act (runs_in g own place world s st up false []) refl e in
        record {
          came = quiet.came;
          halted = subst (Halted x quiet.came) (sym path.unbegun) (subst (Leaves x quiet.came) (sym k) (then_closes x quiet.came quiet.heard (Ok (played_for place act s)) refl refl (inl quiet.path)));
          happened = inr quiet.happened;
        }
halts_up g own place world s st (call.Frame from bytes) turn up comes h =
    let ms : List Message = came_in (call.Frame from bytes) in
    let x : Scope = scope_of g own place world s st false ms in
    let y : Scope = scope_of g own place world s st true ms in
    let path : Path y [] (hearing_of s (first_in y)) (applied turn.after) turn =
    subst (Goes y [] (hearing_of s (first_in y))) (sym h) (frame_goes y s from (reading bytes) (g.has_commands bytes) refl (runs_in g own place world s st up true ms) refl comes) in
    record {
      came = [];
      halted = subst (Halted x []) (sym path.unbegun) (subst (Leaves x []) (sym h) (frame_leaves x s from (reading bytes) (g.has_commands bytes) refl refl (runs_in g own place world s st up false ms) refl comes));
      happened = inl refl;
    }
halts_up g own place world s st (Line seat bytes) turn up comes (heard, hears, e) =
    let x : Scope = scope_of g own place world s st false [] in
    let y : Scope = scope_of g own place world s st true [] in
    let sits = (piece_sits y s seat bytes heard (runs_in g own place world s st up true []) refl comes hears).0 in
    let path : Path y sits.came sits.heard (applied turn.after) turn = subst (Goes y sits.came sits.heard) (sym e) (close y sits.came sits.heard heard refl sits.path) in
    let quiet = (piece_sits x s seat bytes heard (runs_in g own place world s st up false []) refl comes hears).1 in
    record {
      came = quiet.1.came;
      halted = subst (Halted x quiet.1.came) (sym path.unbegun) (subst (Leaves x quiet.1.came) (sym e) (then_closes x quiet.1.came quiet.0 (Ok heard) refl refl (inl quiet.1.path)));
      happened = inr (inl quiet.1.only);
    }
halts_up g own place world s st (Connect seat) turn up comes h =
    same_halts g own place world s st (Connect seat) turn.after.begun up (ap (λ (t : Turn). t.after.begun) (ok_is turn (connecting seat s) h) ∙ unbegun_of own place world s st up)
halts_up g own place world s st (Drop seat) turn up comes h =
    same_halts g own place world s st (Drop seat) turn.after.begun up (ap (λ (t : Turn). t.after.begun) (ok_is turn (dropping seat s) h) ∙ unbegun_of own place world s st up)
halts_up g own place world s st Stop turn up comes h =
    same_halts g own place world s st Stop turn.after.begun up (ap (λ (t : Turn). t.after.begun) (ok_is turn (stopping place s) h))

halts : (g : Given) (own : ℕ → Command → Bool) (place : Place) (world : World) (s : Standing) (st : Stands own place world s) (called : Call) (outcome : Result Turn Refusal) → s.up ≡ true
    → Comes place world.ever called → IsTurnUp place s called outcome → Halts g own place world s st called (standing_after place s outcome).begun
halts g own place world s st called (Ok turn) up comes h = halts_up g own place world s st called turn up comes h
halts g own place world s st called (Err r) up comes h = refused_halts g own place world s st called r up (harmless_up g own place world s r called st up comes h)

rule_up : (place : Place) (s : Standing) (called : Call) (outcome : Result Turn Refusal) → s.up ≡ true → IsTurn place s called outcome → IsTurnUp place s called outcome
rule_up place s called outcome up h = subst (λ (b : Bool). IsTurnBy b place s called outcome) up h

pub appends_are_begun : Given → AppendsAreBegun
appends_are_begun g own place world s called outcome st comes up h =
    let k = halts g own place world s st called outcome up comes (rule_up place s called outcome up h) in
    begins_of (scope_of g own place world s st false (came_in called)) k.came (standing_after place s outcome).begun (failed_events place.node (front_of s) called) k.halted k.happened

-- ---- a call that failed

failed_called : (g : Given) (own : ℕ → Command → Bool) (place : Place) (world : World) (s : Standing) (st : Stands own place world s) (called : Call) (begun : Store) → Halts g own place world s st called begun
    → Called own place world.ever (world.nodes place.node) (log_before place s) (came_in called) (failed_events place.node (front_of s) called) [] [] (stopped place s.store begun)
failed_called g own place world s st called begun k =
    let h = k.halted in
    record {
      output = record { sent = h.sent; shown = []; came = k.came };
      last = record h.last { begun = begun; up = false };
      chain = more _ h.last nothing _ _ h.chain (stops begun h.up h.append refl refl) refl;
      of = record { up = refl; store = h.same_store ∙ st.of.store; begun = refl; runs = λ e. absurd (true≢false (sym e)) };
      carry = record {
        others = λ f i. absurd i;
        said = λ m i. absurd (i.1.1);
        own = h.own;
        accepted = λ a b c d i. absurd (h.unvoted a b c d i);
        accepts = λ b c d i. absurd (i.1.1);
      };
      shown = nothing_shown place.node h.last.starts (log_before place s);
      logged = λ e. absurd (true≢false (sym e));
      got = h.got;
      happened = k.happened;
    }

begun_halts : (g : Given) (own : ℕ → Command → Bool) (place : Place) (world : World) (s : Standing) (st : Stands own place world s) (called : Call) (outcome : Result Turn Refusal) (begun : Store) → s.up ≡ true
    → Comes place world.ever called → IsTurnUp place s called outcome → (begun ≡ s.store) ⊎ (begun ≡ (standing_after place s outcome).begun) → Halts g own place world s st called begun
begun_halts g own place world s st called outcome begun up comes h (inl same) = same_halts g own place world s st called begun up same
begun_halts g own place world s st called outcome begun up comes h (inr made) =
    subst (Halts g own place world s st called) (sym made) (halts g own place world s st called outcome up comes h)

-- ---- however it ends

unchanged_called : (own : ℕ → Command → Bool) (place : Place) (world : World) (s : Standing) (st : Stands own place world s) (messages : List Message) (after : Standing) (frames : List Frame) (shown : List Piece)
    → after ≡ s → frames ≡ [] → shown ≡ []
    → Called own place world.ever (world.nodes place.node) (log_before place s) messages ([] ∷ []) frames shown after
unchanged_called own place world s st messages after frames shown ea ef es =
    subst (λ (a : Standing). Called own place world.ever (world.nodes place.node) (log_before place s) messages ([] ∷ []) frames shown a) (sym ea)
    (subst (λ (f : List Frame). Called own place world.ever (world.nodes place.node) (log_before place s) messages ([] ∷ []) f shown s) (sym ef)
    (subst (λ (p : List Piece). Called own place world.ever (world.nodes place.node) (log_before place s) messages ([] ∷ []) [] p s) (sym es)
    (nothing_taken own place world.ever (world.nodes place.node) (log_before place s) messages ([] ∷ []) s st.of (λ y. log_is place s y) (inl refl))))

pub calls_are_sound : Given → CallsAreSound
calls_are_sound g own place world s called after frames shown st comes (took turn h ea ef es) =
    let t = (turns_are_chains g called own place world s turn st comes h).called in
    subst (λ (a : Standing). Called own place world.ever (world.nodes place.node) (log_before place s) (came_in called) (taken_events place.node (front_of s) s.up called) frames shown a) (sym ea)
    (subst (λ (f : List Frame). Called own place world.ever (world.nodes place.node) (log_before place s) (came_in called) (taken_events place.node (front_of s) s.up called) f shown turn.after) (sym ef)
    (subst (λ (p : List Piece). Called own place world.ever (world.nodes place.node) (log_before place s) (came_in called) (taken_events place.node (front_of s) s.up called) turn.frames p turn.after) (sym es) t))
calls_are_sound g own place world s called after frames shown st comes (refused refusal h ea ef es) =
    unchanged_called own place world s st (came_in called) after frames shown
    (ea ∙ harmless_still place s refusal (harmless_by g own place world s refusal called s.up st refl comes h)) ef es
calls_are_sound g own place world s called after frames shown st comes (failed outcome begun up h made ea ef es) =
    let t = failed_called g own place world s st called begun (begun_halts g own place world s st called outcome begun up comes (rule_up place s called outcome up h) made) in
    subst (λ (a : Standing). Called own place world.ever (world.nodes place.node) (log_before place s) (came_in called) (failed_events place.node (front_of s) called) frames shown a) (sym ea)
    (subst (λ (f : List Frame). Called own place world.ever (world.nodes place.node) (log_before place s) (came_in called) (failed_events place.node (front_of s) called) f shown (stopped place s.store begun)) (sym ef)
    (subst (λ (p : List Piece). Called own place world.ever (world.nodes place.node) (log_before place s) (came_in called) (failed_events place.node (front_of s) called) [] p (stopped place s.store begun)) (sym es) t))
calls_are_sound g own place world s called after frames shown st comes (unchanged ea ef es) =
    unchanged_called own place world s st (came_in called) after frames shown ea ef es

-- ---- lines

-- where there is no turn, another command was known
OnlyConflict : Result Turn Refusal → Type 0
OnlyConflict (Ok turn) = Unit {0}
OnlyConflict (Err Down) = ⊥
OnlyConflict (Err Spent) = ⊥
OnlyConflict (Err (BadFrame fault)) = ⊥
OnlyConflict (Err (Conflict store)) = Unit {0}
OnlyConflict (Err NothingToAct) = ⊥

behind_only : (u : Turn) (r : Result Turn Refusal) → OnlyConflict r → OnlyConflict (behind u r)
unfolding OnlyConflict
behind_only u (Ok v) h = tt
behind_only u (Err e) h = h

learning_only : {A : Type 0} (place : Place) (answer : Result A SlotFault) (new : Learned) (s : Standing) → OnlyConflict (learning place answer new s)
unfolding OnlyConflict
learning_only place (Ok a) new s = tt
learning_only place (Err e) new s = tt

proposing_only : (place : Place) (made : AcceptRun) (s : Standing) → OnlyConflict (proposing place made s)
proposing_only place made s =
    let told : List Command = command_run_at s.store made.ballot made.slot made.commands in
    let after : Standing = with_stored s (taking_command_run s.store made.ballot made.slot made.commands) in
    behind_only (sending (to_others place (frame.Accept made.ballot made.slot made.commands)) s) (voting place made.ballot made.slot made.commands s)
    (behind_only (sending (to_others place (frame.Accepted made.ballot made.slot told)) after) (counting_votes place place.node made.ballot made.slot told after)
    (learning_only place (answer_to_run after.learned place.node made.ballot made.slot told) (hearing_run after.learned place.node made.ballot made.slot told) after))

closing_by_only : (place : Place) (s t : Standing) (b : Bool) (r : Result (Option AcceptRun) ProposeFault) → OnlyConflict (if b then Ok (still (idle t)) else closing_by place r s)
unfolding OnlyConflict
closing_by_only place s t true r = tt
closing_by_only place s t false (Ok (Some made)) = proposing_only place made s
closing_by_only place s t false (Ok None) = tt
closing_by_only place s t false (Err fault) = tt

closing_only : (place : Place) (s : Standing) → OnlyConflict (closing place s)
closing_only place s =
    closing_by_only place (record s { campaign = marked_run_from s.campaign (proposal_at place s) }) s (leads place.nodes s.campaign && nat_le SLOTS (front_of s)) (proposal_at place s)

conflict_down : (place : Place) (s : Standing) (r : Refusal) → OnlyConflict (Err r) → (standing_after place s (Err r)).up ≡ false
unfolding OnlyConflict
conflict_down place s Down h = absurd h
conflict_down place s Spent h = absurd h
conflict_down place s (BadFrame fault) h = absurd h
conflict_down place s (Conflict store) h = refl
conflict_down place s NothingToAct h = absurd h

pub lines_are_refused_down : LinesAreRefusedDown
lines_are_refused_down place s seat bytes refusal h up =
    let t = rule_up place s (Line seat bytes) (Err refusal) up h in
    conflict_down place s refusal (subst OnlyConflict (sym t.2) (behind_only t.0 (closing place t.0.after) (closing_only place t.0.after)))
