-- The ways on of a cluster, in the runs of the rules.
use Rattle.std.proofs.Common.{◌≡◌, ◌≢◌, ℕ, ◌<◌, ◌⊎◌, inl, inr, Bool, true, false, ◌==◌, if◌then◌else◌, List, [], ◌∷◌, ◌++◌, map, length, Result, Ok, Err, refl, ap, sym, ◌∙◌, subst, arith, get_or, set, get_or-set_same, get_or-set_other}
use Rattle.std.specs.Prelude.{slice_get, take}
use Rattle.std.proofs.lemmas.List.{get_or_default, take-append-le}
use Rattle.std.proofs.lemmas.Bool.Decides.{eqb_tells}
use Rattle.std.proofs.Math.Seq.{take-append_seam}
use Rattle.paxos_wire.specs.Faults.{reading}
use Rattle.paxos_wire.specs.Spelling.{frame as bytes_of}
use Rattle.protocol_model.specs.Sets.{In, put}
use Rattle.protocol_model.specs.Stores.{empty_store}
use Rattle.protocol_model.specs.Worlds.{World, Reached}
use Rattle.dealer_kind.specs.Kind.{Setting, dealer_of}
use Rattle.dealer_kind.specs.Plans.{Plan}
use Rattle.dealer_kind.specs.declared.source.Source.{Source}
use Rattle.node_rules.specs.Standings.{Place, Standing, place_of, deals_from, stopped, front_of}
use Rattle.node_rules.specs.Sending.{Frame as Outgoing}
use Rattle.node_rules.specs.Showing.{Piece as Shown}
use Rattle.node_rules.specs.Turns.{Turn, Refusal}
use Rattle.node_rules.specs.Calls.{Call}
use Rattle.node_rules.specs.Rules.{IsTurn}
use Rattle.node_rules.specs.Called.{Ends, took, refused, failed, unchanged}
use Rattle.node_rules.specs.Calm.{Event, Ticks, Delivers}
use Rattle.node_rules.specs.CalmRound.{node_of, call_of, Sent, sent_by, IsOnItsWay, AreReadBack, GoOn, HasMovedOn, AreOf}
use Rattle.node_rules.specs.Ways.{IsWay, CalmIsMovable, NoDeadEnd as RulesHaveNoDeadEnd}
use Rattle.dealer_world.specs.Records.{Frame, Record, Arrived, Arrival, log_of, last_start}
use Rattle.dealer_world.specs.Unforged.{IsAmong, IsUnforged, ArePlaced}
use Rattle.dealer_world.specs.Headline.{Era}
use Rattle.dealer_world.specs.Calls.{Made}
use Rattle.dealer_world.specs.Views.{placed_at, grown}
use Rattle.dealer_world.specs.Runs.{AreWritten, arrived_at, Keeps}
use Rattle.dealer_world.specs.RuleRuns.{State, plan_of}
use Rattle.dealer_world.specs.CalmRun.{standing_at, IsUntroubled, TakesEvent, TakesEvents, IsNextTaken, NoDeadEnd, RoundsMoveOn}
use Rattle.dealer_world.specs.Given.{Given}
use Rattle.node_rules.proofs.Results.{ok_is, ok_not}
use Rattle.protocol_model.proofs.Sets.{in_first, in_later, in_split}
use Rattle.node_rules.proofs.Members.{above_all}
use Rattle.dealer_world.proofs.Saying.{placed_after}
use Rattle.dealer_world.proofs.Keeping.{Kept, own_of, IsNode, is_place, each_here, run_keeps}

-- ---- frames with their bytes

abbrev written : ℕ → Outgoing → Frame
written i o = record { from = i; to = o.to; bytes = bytes_of o.message }

written_in : (i : ℕ) (frames : List Outgoing) (made : List Frame) (o : Outgoing) → AreWritten i frames made → In o frames → In (written i o) made
written_in i [] made o are h = absurd h
written_in i (f ∷ fs) [] o are h = absurd are
written_in i (f ∷ fs) (m ∷ ms) o (from, to, bytes, reads, are) (inl e) =
    inl (ap (written i) e ∙ sym (λ j. record { from = from j; to = to j; bytes = bytes j }))
written_in i (f ∷ fs) (m ∷ ms) o (from, to, bytes, reads, are) (inr h) = inr (written_in i fs ms o are h)

pub written_reads : (i : ℕ) (frames : List Outgoing) (made : List Frame) → AreWritten i frames made → AreReadBack frames
written_reads i [] made are o h = absurd h
written_reads i (f ∷ fs) [] are o h = absurd are
written_reads i (f ∷ fs) (m ∷ ms) (from, to, bytes, reads, are) o (inl e) =
    subst (λ (x : Outgoing). reading (bytes_of x.message) ≡ Ok x.message) (sym e) (ap reading (sym bytes) ∙ reads)
written_reads i (f ∷ fs) (m ∷ ms) (from, to, bytes, reads, are) o (inr h) = written_reads i fs ms are o h

-- what is on its way stands in the record, with its bytes
abbrev pub IsRecorded : List Sent → List Frame → Type 0
IsRecorded sent frames = (s : Sent) → In s sent → In (record { from = s.from; to = s.to; bytes = bytes_of s.message }) frames

in_sent : (i : ℕ) (some : List Outgoing) (made : List Frame) (s : Sent) → In s (sent_by i some) → ((o : Outgoing) → In o some → In (written i o) made)
    → In (record { from = s.from; to = s.to; bytes = bytes_of s.message }) made
in_sent i [] made s h all = absurd h
in_sent i (f ∷ fs) made s (inl e) all = subst (λ (x : Sent). In (record { from = x.from; to = x.to; bytes = bytes_of x.message }) made) (sym e) (all f (inl refl))
in_sent i (f ∷ fs) made s (inr h) all = in_sent i fs made s h (λ o k. all o (inr k))

pub sent_recorded : (i : ℕ) (frames : List Outgoing) (made : List Frame) → AreWritten i frames made → IsRecorded (sent_by i frames) made
sent_recorded i frames made are s h = in_sent i frames made s h (λ o k. written_in i frames made o are k)

-- ---- one event

-- the turn of a call that was taken, as it is where none is refused
pub record Turned (place : Place) (s : Standing) (called : Call) (after : Standing) (frames : List Outgoing) (arrived : List Arrived) : Type 0 where
  pub turn : Turn
  pub rule : IsTurn place s called (Ok turn)
  pub after_is : after ≡ turn.after
  pub frames_are : frames ≡ turn.frames
  pub came : arrived ≡ arrived_at s.up place.node (front_of s) called

pub turned : (place : Place) (s : Standing) (called : Call) (after : Standing) (frames : List Outgoing) (shown : List Shown) (ends : Ends place s called after frames shown) (arrived : List Arrived) (began : Bool)
    → ((refusal : Refusal) → IsTurn place s called (Err refusal) → ⊥)
    → IsUntroubled place s called after frames shown ends → Keeps place s called after frames shown ends arrived began → Turned place s called after frames arrived
turned place s called after frames shown (took turn rule e f g) arrived began never is keeps = record { turn = turn; rule = rule; after_is = e; frames_are = f; came = keeps.0 }
turned place s called after frames shown (refused refusal rule e f g) arrived began never is keeps = absurd (never refusal rule)
turned place s called after frames shown (failed outcome begun up rule b e f g) arrived began never is keeps = absurd is
turned place s called after frames shown (unchanged e f g) arrived began never is keeps = absurd is

-- what it brings was sent
pub brought : (event : Event) (sent : List Sent) (frames : List Frame) (up : Bool) (front : ℕ) (what : Arrived) → IsOnItsWay sent event → IsRecorded sent frames → In what (arrived_at up (node_of event) front (call_of event))
    → IsAmong frames what
brought (Ticks node) sent frames true front what way known h = absurd h
brought (Ticks node) sent frames false front what way known h = absurd h
brought (Delivers from to bytes) sent frames false front what way known h = absurd h
brought (Delivers from to bytes) sent frames true front what (message, same, here) known (inl e) =
    subst (IsAmong frames) (sym e) (subst (λ (b : List ℕ). In (record { from = from; to = to; bytes = b }) frames) (sym same) (known (record { from = from; to = to; message = message }) here))
brought (Delivers from to bytes) sent frames true front what way known (inr none) = absurd none

-- what is placed now
placed_what : (count : ℕ) (arrived : List Arrived) (arrival : Arrival) → In arrival (map (placed_at count) arrived) → In arrival.what arrived × (arrival.sent_before ≡ count)
placed_what count [] arrival h = absurd h
placed_what count (what ∷ more) arrival (inl e) = (inl (ap (λ (a : Arrival). a.what) e), ap (λ (a : Arrival). a.sent_before) e)
placed_what count (what ∷ more) arrival (inr h) = let t = placed_what count more arrival h in (inr t.0, t.1)

-- the record stays unforged
pub unforged_after : (now : Record) (i : ℕ) (arrived : List Arrived) (made : Made) → IsUnforged now.sent now.delivered → ArePlaced now.sent now.delivered → ((what : Arrived) → In what arrived → IsAmong now.sent what)
    → IsUnforged (grown now i arrived made).sent (grown now i arrived made).delivered
unforged_after now i arrived made unforged placed among arrival h = elim (in_split now.delivered (map (placed_at (length now.sent)) arrived) arrival h) [
  | inl old ↦ subst (λ (l : List Frame). IsAmong l arrival.what) (sym (take-append-le arrival.sent_before now.sent made.frames (placed arrival old))) (unforged arrival old)
  | inr new ↦ by_new arrived among new
]
  where
    by_new : (some : List Arrived) → ((what : Arrived) → In what some → IsAmong now.sent what) → In arrival (map (placed_at (length now.sent)) some)
        → IsAmong (take arrival.sent_before (now.sent ++ made.frames)) arrival.what
    by_new some all k =
        let w = placed_what (length now.sent) some arrival k in
        subst (λ (n : ℕ). IsAmong (take n (now.sent ++ made.frames)) arrival.what) (sym w.1)
        (subst (λ (l : List Frame). IsAmong l arrival.what) (sym (take-append_seam now.sent made.frames)) (all arrival.what w.0))

-- ---- all standings, one changed

pub changed : (plan : Plan) (old new : State) (node : ℕ) (after : Standing) → node < length old.standings → new.standings ≡ set old.standings node after
    → put (standing_at plan old) node after ≡ standing_at plan new
changed plan old new node after low e = λ j k. at_node k j
  where
    by_node : (k : ℕ) → ((k == node) ≡ true) × (k ≡ node) ⊎ ((k == node) ≡ false) × (k ≢ node)
        → put (standing_at plan old) node after k ≡ get_or (set old.standings node after) k (stopped (place_of plan k) empty_store empty_store)
    by_node k (inl same) =
        ap (λ (b : Bool). if b then after else standing_at plan old k) same.0
        ∙ sym (ap (λ (m : ℕ). get_or (set old.standings node after) m (stopped (place_of plan k) empty_store empty_store)) same.1
        ∙ get_or-set_same old.standings node after (stopped (place_of plan k) empty_store empty_store) low)
    by_node k (inr other) =
        ap (λ (b : Bool). if b then after else standing_at plan old k) other.0
        ∙ sym (get_or-set_other old.standings node k after (stopped (place_of plan k) empty_store empty_store) other.1)

    at_node : (k : ℕ) → put (standing_at plan old) node after k ≡ standing_at plan new k
    at_node k = by_node k (eqb_tells k node) ∙ ap (λ (l : List Standing). get_or l k (stopped (place_of plan k) empty_store empty_store)) (sym e)

-- ---- all events

-- where the round has come to
pub record IsOn (plan : Plan) (st : ℕ → Standing) (sent : List Sent) (state : State) : Type 0 where
  pub standings : st ≡ standing_at plan state
  pub known : IsRecorded sent state.now.sent
  pub unforged : IsUnforged state.now.sent state.now.delivered
  pub placed : ArePlaced state.now.sent state.now.delivered

-- one event further
pub record Further (plan : Plan) (IsSo : (ℕ → Standing) → Type 0) (events : List Event) (state : State) : Type 0 where
  pub st : ℕ → Standing
  pub sent : List Sent
  pub on : IsOn plan st sent state
  pub go : GoOn (place_of plan) IsSo st sent events

further : (plan : Plan) (IsSo : (ℕ → Standing) → Type 0) (event : Event) (events : List Event) (st : ℕ → Standing) (sent : List Sent) (old new : State) → IsOn plan st sent old
    → GoOn (place_of plan) IsSo st sent (event ∷ events) → TakesEvent plan old event new → Further plan IsSo events new
unfolding GoOn
further plan IsSo event events st sent old new on (way, goes) t =
    let s = t.steps in
    let here : s.before ≡ st (node_of event) =
    sym s.at ∙ (get_or_default old.standings s.node s.before (stopped (place_of plan s.node) empty_store empty_store) s.is_node
    ∙ (ap (standing_at plan old) t.node ∙ ap (λ (f : ℕ → Standing). f (node_of event)) (sym on.standings))) in
    let rule : (outcome : Result Turn Refusal) → IsTurn (place_of plan s.node) s.before s.called outcome → IsTurn (place_of plan (node_of event)) (st (node_of event)) (call_of event) outcome =
    (λ outcome is. subst (λ (n : ℕ). IsTurn (place_of plan n) (st (node_of event)) (call_of event) outcome) t.node
    (subst (λ (b : Standing). IsTurn (place_of plan s.node) b (call_of event) outcome) here
    (subst (λ (c : Call). IsTurn (place_of plan s.node) s.before c outcome) t.called is))) in
    let never : (refusal : Refusal) → IsTurn (place_of plan s.node) s.before s.called (Err refusal) → ⊥ =
    (λ refusal is. let g = goes (Err refusal) (rule (Err refusal) is) in ok_not g.0 refusal (sym g.1)) in
    let r = turned (place_of plan s.node) s.before s.called s.after s.ruled.frames s.ruled.shown s.ruled.ends s.arrived s.made.began never t.untroubled s.ruled.keeps in
    let g = goes (Ok r.turn) (rule (Ok r.turn) r.rule) in
    let same : r.turn ≡ g.0 = ok_is r.turn g.0 g.1 in
    let frames : s.ruled.frames ≡ g.0.frames = r.frames_are ∙ ap (λ (x : Turn). x.frames) same in
    let back : AreReadBack g.0.frames = subst AreReadBack frames (written_reads s.node s.ruled.frames s.made.frames s.ruled.written) in
    let after : s.after ≡ g.0.after = r.after_is ∙ ap (λ (x : Turn). x.after) same in
    let among : (what : Arrived) → In what s.arrived → IsAmong old.now.sent what =
    (λ what h. brought event sent old.now.sent s.before.up (front_of s.before) what way on.known
    (subst (λ (n : ℕ). In what (arrived_at s.before.up n (front_of s.before) (call_of event))) t.node
    (subst (λ (c : Call). In what (arrived_at s.before.up s.node (front_of s.before) c)) t.called (subst (In what) r.came h)))) in
    record {
      st = put st (node_of event) g.0.after;
      sent = sent_by (node_of event) g.0.frames ++ sent;
      on = record {
        standings = (λ j. put (on.standings j) (sym t.node j) (sym after j)) ∙ changed plan old new s.node s.after s.is_node s.standings;
        known = λ x h. subst (λ (now : Record). In (record { from = x.from; to = x.to; bytes = bytes_of x.message }) now.sent) (sym s.grows)
            (elim (in_split (sent_by (node_of event) g.0.frames) sent x h) [
              | inl new_one ↦ in_later old.now.sent s.made.frames (record { from = x.from; to = x.to; bytes = bytes_of x.message })
                  (sent_recorded s.node s.ruled.frames s.made.frames s.ruled.written x
                  (subst (λ (l : List Outgoing). In x (sent_by s.node l)) (sym frames) (subst (λ (n : ℕ). In x (sent_by n g.0.frames)) (sym t.node) new_one)))
              | inr before ↦ in_first old.now.sent s.made.frames (record { from = x.from; to = x.to; bytes = bytes_of x.message }) (on.known x before)
            ]);
        unforged = subst (λ (now : Record). IsUnforged now.sent now.delivered) (sym s.grows) (unforged_after old.now s.node s.arrived s.made on.unforged on.placed among);
        placed = subst (λ (now : Record). ArePlaced now.sent now.delivered) (sym s.grows) (placed_after old.now.sent s.made.frames old.now.delivered s.arrived on.placed);
      };
      go = g.2 back;
    }

at_end : (plan : Plan) (IsSo : (ℕ → Standing) → Type 0) (rest : List Event) (st : ℕ → Standing) (sent : List Sent) → GoOn (place_of plan) IsSo st sent rest → rest ≡ [] → IsSo st
unfolding GoOn
at_end plan IsSo [] st sent go e = go
at_end plan IsSo (event ∷ rest) st sent go e = absurd (cc)

next_taken : (plan : Plan) (IsSo : (ℕ → Standing) → Type 0) (rest : List Event) (sent : List Sent) (state : State) → GoOn (place_of plan) IsSo (standing_at plan state) sent rest → IsNextTaken plan state rest
unfolding GoOn
next_taken plan IsSo [] sent state go = tt
next_taken plan IsSo (event ∷ rest) sent state (way, goes) = λ outcome rule. let g = goes outcome rule in (g.0, g.1)

walk : (plan : Plan) (IsSo : (ℕ → Standing) → Type 0) (first rest : List Event) (st : ℕ → Standing) (sent : List Sent) (old new : State) → IsOn plan st sent old
    → GoOn (place_of plan) IsSo st sent (first ++ rest) → TakesEvents plan old first new
    → IsUnforged new.now.sent new.now.delivered × IsNextTaken plan new rest × (rest ≡ [] → IsSo (standing_at plan new))
walk plan IsSo [] rest st sent old new on go e = (
  subst (λ (s : State). IsUnforged s.now.sent s.now.delivered) (sym e) on.unforged,
  subst (λ (s : State). IsNextTaken plan s rest) (sym e) (next_taken plan IsSo rest sent old (subst (λ (now : ℕ → Standing). GoOn (place_of plan) IsSo now sent rest) on.standings go)),
  λ none. subst (λ (s : State). IsSo (standing_at plan s)) (sym e) (subst IsSo on.standings (at_end plan IsSo rest st sent go none)),
)
walk plan IsSo (event ∷ first) rest st sent old new on go (between, one, more) =
    let f = further plan IsSo event (first ++ rest) st sent old between on go one in
    walk plan IsSo first rest f.st f.sent between new f.on f.go more

-- ---- the law

pub members_of : (laws : Given) (setting : Setting) (n : ℕ) (before : List Era) (sources : List Source) (old : State) (members : List ℕ) → (was : Kept setting n before sources old) → IsUnforged old.now.sent old.now.delivered
    → ((k : ℕ) → In k members → k < length sources) → (world : World) × AreOf (own_of setting sources before) setting (length sources) (λ k. deals_from setting.game.players (slice_get sources k)) world (standing_at (plan_of setting sources) old) members
members_of laws setting n before sources old members was unforged low =
    let b = was.behind unforged in
    let IsSo : ℕ → Standing → Type 0 = λ i k. IsNode setting sources before i k (b.world.nodes i) (log_of old.now.shown i (last_start old.now.starts i)) in
    let count : length old.standings ≡ length sources = was.count ∙ sym was.sources_are in (
      b.world,
      record {
        reached = subst (λ (m : ℕ). Reached (dealer_of setting (own_of setting sources before)) m b.world) count b.reached;
        is_place = λ k h. is_place setting sources before k was.plan (low k h);
        of = λ k h. (each_here IsSo k old.standings (stopped (place_of (plan_of setting sources) k) empty_store empty_store) (let l = low k h in omega (arith, l, count)) b.are_of).of;
      },
    )

pub no_dead_end : Given → RulesHaveNoDeadEnd → NoDeadEnd
no_dead_end laws rules setting n before sources old new i members commands run unforged movable =
    let was = run_keeps laws setting n before sources old run in
    let plan : Plan = plan_of setting sources in
    let are = members_of laws setting n before sources old members was unforged (λ k h. (above_all 0 (length sources) members k movable.quorum.rise h).1) in
    let ways = rules (own_of setting sources before) setting (length sources) (λ k. deals_from setting.game.players (slice_get sources k)) are.0 (standing_at plan old) i members commands are.1 movable in (
      ways.0,
      λ first rest way takes.
          walk plan (HasMovedOn i (front_of (standing_at plan old i)) commands) first rest (standing_at plan old) [] old new
          (record { standings = refl; known = λ s h. absurd h; unforged = unforged; placed = was.placed }) (ways.1 (first ++ rest) way) takes,
    )

-- a cluster at rest moves
pub rounds_move_on : NoDeadEnd → CalmIsMovable → RoundsMoveOn
rounds_move_on law is_movable setting n before sources old new i members commands first rest run unforged calm e takes =
    let plan : Plan = plan_of setting sources in
    let m = is_movable (place_of plan i) (standing_at plan old) i members commands calm in
    (law setting n before sources old new i members commands run unforged m.0).1 first rest (subst (IsWay (standing_at plan old) i members commands) e m.1) takes
