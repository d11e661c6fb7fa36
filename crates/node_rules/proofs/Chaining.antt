-- The turns of calls are chains of moves.
use Rattle.std.proofs.Common.{◌≡◌, ℕ, suc, inl, Bool, true, false, true≢false, if◌then◌else◌, List, [], ◌∷◌, Option, Some, None, Result, Ok, refl, sym, ap, subst, length}
use Rattle.paxos_wire.specs.Faults.{reading}
use Rattle.slot_log.specs.declared.command.Command.{Command}
use Rattle.protocol_model.specs.Sets.{In}
use Rattle.protocol_model.specs.Arrivals.{Event, Started}
use Rattle.protocol_model.specs.Worlds.{World}
use Rattle.protocol_model.specs.Messages.{Message}
use Rattle.dealer_kind.specs.Kind.{log_of}
use Rattle.node_rules.specs.Standings.{Place, Standing, applied, front_of, no_sessions}
use Rattle.node_rules.specs.Turns.{Turn, Refusal, Down, NothingToAct, still, and_then}
use Rattle.node_rules.specs.Calls.{Call, Start, Tick, Away, Line, Connect, Drop, Stop}
use Rattle.node_rules.specs.Calls as call
use Rattle.node_rules.specs.Rules.{starting, stopping, IsTurnUp, IsTurnDown, IsTurnBy}
use Rattle.node_rules.specs.Proposing.{closing}
use Rattle.node_rules.specs.Seats.{connecting, dropping, away_at, ordering_by}
use Rattle.node_rules.specs.Called.{came_in, Comes, log_before, taken_events, Taken}
use Rattle.node_rules.specs.Given.{Given}
use Rattle.node_rules.specs.Sound.{Stands, TurnsAreChains}
use Rattle.node_rules.specs.Proposed.{IsSettled}
use Rattle.node_rules.proofs.Results.{ok_is, ok_not}
use Rattle.node_rules.proofs.Paths.{Scope, first_in, Goes}
use Rattle.node_rules.proofs.Beginning.{Runs, hearing_of, finish}
use Rattle.node_rules.proofs.Framing.{frame_goes, tick_goes}
use Rattle.node_rules.proofs.Settled.{then_closed}
use Rattle.node_rules.proofs.AtRest.{tick_settled, frame_settled}
use Rattle.node_rules.proofs.Closing.{close}
use Rattle.node_rules.proofs.Hearing.{Sits, connect_sits, drop_sits, piece_sits}
use Rattle.node_rules.proofs.Noting.{played_for, order_events, order_sits}
use Rattle.node_rules.proofs.Starting.{nobody, start_goes, nothing_all, stop_taken}

abbrev pub scope_of : Given → (own : ℕ → Command → Bool) (place : Place) (world : World) (s : Standing) → Stands own place world s → Bool → List Message → Scope
scope_of g own place world s st ends messages = record {
  given = g;
  own = own;
  place = place;
  world = world;
  is_place = st.is_place;
  reached = st.reached;
  start = (world.nodes place.node).starts;
  had = (world.nodes place.node).has;
  log = log_before place s;
  messages = messages;
  ends = ends;
}

-- the log of a node that runs, and of one that doesn't
pub log_is : (place : Place) (s : Standing) → s.up ≡ true → log_before place s ≡ log_of place.setting (applied s)
log_is place s up = ap (λ (b : Bool). if b then log_of place.setting (applied s) else []) up

no_log : (place : Place) (s : Standing) → s.up ≡ false → log_before place s ≡ []
no_log place s down = ap (λ (b : Bool). if b then log_of place.setting (applied s) else []) down

pub runs_in : (g : Given) (own : ℕ → Command → Bool) (place : Place) (world : World) (s : Standing) (st : Stands own place world s) → s.up ≡ true → (ends : Bool) (messages : List Message)
    → Runs (scope_of g own place world s st ends messages) s
runs_in g own place world s st up ends messages = record { of = st.of; up = up; log = log_is place s up; start = refl; had = refl }

-- ---- a node that runs

-- where the seats of a path are those of its end
ends_up : (x : Scope) (turn : Turn) (events : List (List Event)) → x.ends ≡ true → x.had ≡ (first_in x).has → Sits x turn events → IsSettled x.place turn.after
    → Taken x.own x.place x.world.ever (first_in x) x.log x.messages events turn.frames turn.shown turn.after
ends_up x turn events ends same sits settled =
    finish x sits.came sits.heard turn events ends sits.path (λ m h. subst (λ (l : List Message). In m l) same h) sits.sessions sits.happened settled

-- the piece or the order, and then the close
line_goes : (x : Scope) (turn heard : Turn) (events : List (List Event)) → x.ends ≡ true → x.had ≡ (first_in x).has → (sits : Sits x heard events)
    → Goes x sits.came sits.heard (Ok turn) → IsSettled x.place turn.after → Taken x.own x.place x.world.ever (first_in x) x.log x.messages events turn.frames turn.shown turn.after
line_goes x turn heard events ends same sits goes settled =
    finish x sits.came sits.heard turn events ends goes (λ m h. subst (λ (l : List Message). In m l) same h) sits.sessions sits.happened settled

chain_up : (g : Given) (own : ℕ → Command → Bool) (place : Place) (world : World) (s : Standing) (turn : Turn) (called : Call) (st : Stands own place world s) → s.up ≡ true
    → Comes place world.ever called → IsTurnUp place s called (Ok turn)
    → Taken own place world.ever (world.nodes place.node) (log_before place s) (came_in called) (taken_events place.node (front_of s) true called) turn.frames turn.shown turn.after
chain_up g own place world s turn (Start found) st up comes h =
    subst (λ (t : Turn). Taken own place world.ever (world.nodes place.node) (log_before place s) [] ([] ∷ []) t.frames t.shown t.after) (sym (ok_is turn (still s) h))
    (nothing_all own place world.ever (world.nodes place.node) (log_before place s) ([] ∷ []) s st.of (λ y. log_is place s y) (inl refl))
chain_up g own place world s turn Tick st up comes h =
    let x : Scope = scope_of g own place world s st true [] in
    finish x [] (hearing_of s (first_in x)) turn ([] ∷ []) refl
    (subst (Goes x [] (hearing_of s (first_in x))) (sym h) (tick_goes x s refl (runs_in g own place world s st up true []) refl))
    (λ m k. k) (st.of.runs up).sessions (inl refl) (tick_settled x s turn refl (runs_in g own place world s st up true []) refl (sym h))
chain_up g own place world s turn Away st up comes h = by_act (away_at place s) refl h
  where
    x : Scope
    x = scope_of g own place world s st true []

    by_act : (act : Option Command) → away_at place s ≡ act → ◌≡◌ {A = Result Turn Refusal} (Ok turn) (and_then (ordering_by place act s) (closing place))
        → Taken own place world.ever (world.nodes place.node) (log_before place s) [] (order_events x s) turn.frames turn.shown turn.after
    by_act None e k = absurd (ok_not turn NothingToAct k)
    by_act (Some act) e k =
        let sits = order_sits x s act (runs_in g own place world s st up true []) refl e in
        line_goes x turn (played_for place act s) (order_events x s) refl refl sits
        (subst (Goes x sits.came sits.heard) (sym k) (close x sits.came sits.heard (played_for place act s) refl sits.path))
        (then_closed x sits.came sits.heard (Ok (played_for place act s)) turn sits.path (sym k))
chain_up g own place world s turn (call.Frame from bytes) st up comes h =
    let x : Scope = scope_of g own place world s st true (came_in (call.Frame from bytes)) in
    finish x [] (hearing_of s (first_in x)) turn ([] ∷ []) refl
    (subst (Goes x [] (hearing_of s (first_in x))) (sym h) (frame_goes x s from (reading bytes) (g.has_commands bytes) refl (runs_in g own place world s st up true (came_in (call.Frame from bytes))) refl comes))
    (λ m k. k) (st.of.runs up).sessions (inl refl)
    (frame_settled x s from (reading bytes) turn (g.has_commands bytes) refl (runs_in g own place world s st up true (came_in (call.Frame from bytes))) refl comes (sym h))
chain_up g own place world s turn (Line seat bytes) st up comes (heard, hears, e) =
    let x : Scope = scope_of g own place world s st true [] in
    let sits = (piece_sits x s seat bytes heard (runs_in g own place world s st up true []) refl comes hears).0 in
    line_goes x turn heard (taken_events place.node (front_of s) true (Line seat bytes)) refl refl sits
    (subst (Goes x sits.came sits.heard) (sym e) (close x sits.came sits.heard heard refl sits.path))
    (then_closed x sits.came sits.heard (Ok heard) turn sits.path (sym e))
chain_up g own place world s turn (Connect seat) st up comes h =
    let x : Scope = scope_of g own place world s st true [] in
    ends_up x turn (taken_events place.node (front_of s) true (Connect seat)) refl refl
    (subst (λ (t : Turn). Sits x t (taken_events place.node (front_of s) true (Connect seat))) (sym (ok_is turn (connecting seat s) h))
    (connect_sits x s seat (runs_in g own place world s st up true []) refl comes))
    (subst (λ (t : Turn). IsSettled place t.after) (sym (ok_is turn (connecting seat s) h)) (st.of.runs up).settled)
chain_up g own place world s turn (Drop seat) st up comes h =
    let x : Scope = scope_of g own place world s st true [] in
    ends_up x turn (taken_events place.node (front_of s) true (Drop seat)) refl refl
    (subst (λ (t : Turn). Sits x t (taken_events place.node (front_of s) true (Drop seat))) (sym (ok_is turn (dropping seat s) h))
    (drop_sits x s seat (runs_in g own place world s st up true []) refl comes))
    (subst (λ (t : Turn). IsSettled place t.after) (sym (ok_is turn (dropping seat s) h)) (st.of.runs up).settled)
chain_up g own place world s turn Stop st up comes h =
    subst (λ (t : Turn). Taken own place world.ever (world.nodes place.node) (log_before place s) [] ([] ∷ []) t.frames t.shown t.after) (sym (ok_is turn (stopping place s) h))
    (stop_taken own place world.ever (world.nodes place.node) (log_before place s) ([] ∷ []) s st.of up (inl refl))

-- ---- one that is down

chain_down : (g : Given) (own : ℕ → Command → Bool) (place : Place) (world : World) (s : Standing) (turn : Turn) (called : Call) (st : Stands own place world s) → s.up ≡ false
    → IsTurnDown place s called (Ok turn)
    → Taken own place world.ever (world.nodes place.node) (log_before place s) (came_in called) (taken_events place.node (front_of s) false called) turn.frames turn.shown turn.after
chain_down g own place world s turn (Start found) st down (found_left, h) =
    let x : Scope = record {
      given = g;
      own = own;
      place = place;
      world = world;
      is_place = st.is_place;
      reached = st.reached;
      start = suc (world.nodes place.node).starts;
      had = [];
      log = log_before place s;
      messages = [];
      ends = true;
    } in
    subst (λ (t : Turn). Taken own place world.ever (world.nodes place.node) (log_before place s) [] (taken_events place.node (front_of s) false (Start found)) t.frames t.shown t.after) (sym (ok_is turn (starting place found) h))
    (finish x ((record { event = Started place.node; sent = length world.ever }) ∷ []) (record { bytes = λ seat. None; talks = no_sessions place }) (starting place found)
    (taken_events place.node (front_of s) false (Start found)) refl
    (start_goes x s found st.of down found_left refl refl refl (no_log place s down) refl)
    (λ m k. absurd k) (nobody place) (inl refl) (λ leads_on. absurd (true≢false (sym leads_on))))
chain_down g own place world s turn Tick st down h = absurd (ok_not turn Down h)
chain_down g own place world s turn Away st down h = absurd (ok_not turn Down h)
chain_down g own place world s turn (call.Frame from bytes) st down h = absurd (ok_not turn Down h)
chain_down g own place world s turn (Line seat bytes) st down h = absurd (ok_not turn Down h)
chain_down g own place world s turn (Connect seat) st down h = absurd (ok_not turn Down h)
chain_down g own place world s turn (Drop seat) st down h = absurd (ok_not turn Down h)
chain_down g own place world s turn Stop st down h =
    subst (λ (t : Turn). Taken own place world.ever (world.nodes place.node) (log_before place s) [] ([] ∷ []) t.frames t.shown t.after) (sym (ok_is turn (still s) h))
    (nothing_all own place world.ever (world.nodes place.node) (log_before place s) ([] ∷ []) s st.of (λ y. log_is place s y) (inl refl))

-- ---- either

chain_by : (g : Given) (own : ℕ → Command → Bool) (place : Place) (world : World) (s : Standing) (turn : Turn) (called : Call) (b : Bool) (st : Stands own place world s) → s.up ≡ b
    → Comes place world.ever called → IsTurnBy b place s called (Ok turn)
    → Taken own place world.ever (world.nodes place.node) (log_before place s) (came_in called) (taken_events place.node (front_of s) b called) turn.frames turn.shown turn.after
chain_by g own place world s turn called true st e comes h = chain_up g own place world s turn called st e comes h
chain_by g own place world s turn called false st e comes h = chain_down g own place world s turn called st e h

pub turns_are_chains : Given → TurnsAreChains
turns_are_chains g called own place world s turn st comes h = chain_by g own place world s turn called s.up st refl comes h
