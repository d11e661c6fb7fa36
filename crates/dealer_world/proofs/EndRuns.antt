-- Every match can be ended, in the runs of the rules.
use Rattle.std.proofs.Common.{◌≡◌, ℕ, zero, suc, ◌<◌, inl, inr, Bool, true, false, List, [], ◌++◌, length, Result, Ok, Err, refl, ap, sym, ◌∙◌, subst, slice_get}
use Rattle.std.proofs.lemmas.List.{get_or_default}
use Rattle.paxos_wire.specs.Spelling.{frame as bytes_of}
use Rattle.protocol_model.specs.Sets.{In, put}
use Rattle.protocol_model.specs.Stores.{empty_store}
use Rattle.protocol_model.proofs.Sets.{in_first, in_later, in_split}
use Rattle.dealer_kind.specs.Plans.{Plan}
use Rattle.node_rules.specs.Standings.{Standing, place_of, deals_from, stopped, front_of}
use Rattle.node_rules.specs.Sending.{Frame as Outgoing}
use Rattle.node_rules.specs.Turns.{Turn, Refusal}
use Rattle.node_rules.specs.Calls.{Call, Start, Away}
use Rattle.node_rules.specs.Rules.{IsTurn}
use Rattle.node_rules.specs.Calm.{Ticks, Delivers}
use Rattle.node_rules.specs.CalmRound.{Sent, sent_by, AreReadBack}
use Rattle.node_rules.specs.Endings.{Help, Starts, Orders, Gives, node_helped, IsCall, MayCome, HasEnded, CanEnd, front_now, most_events, MatchesCanEnd}
use Rattle.node_rules.proofs.Results.{ok_is, ok_not}
use Rattle.node_rules.proofs.Members.{above_all}
use Rattle.dealer_world.specs.Records.{Frame, Record, Arrived}
use Rattle.dealer_world.specs.Unforged.{IsAmong, IsUnforged, ArePlaced}
use Rattle.dealer_world.specs.Runs.{arrived_at}
use Rattle.dealer_world.specs.RuleRuns.{State, plan_of}
use Rattle.dealer_world.specs.CalmRun.{standing_at}
use Rattle.dealer_world.specs.EndRuns.{TakesHelp, CanEndRun, RunsCanEnd}
use Rattle.dealer_world.specs.Given.{Given}
use Rattle.dealer_world.proofs.Saying.{placed_after}
use Rattle.dealer_world.proofs.Dealt.{DrawsAreDeals}
use Rattle.dealer_world.proofs.Keeping.{own_of, run_keeps}
use Rattle.dealer_world.proofs.CalmRun.{IsRecorded, written_reads, sent_recorded, turned, brought, unforged_after, changed, IsOn, members_of}
use Rattle.dealer_world.proofs.CaseRuns.{plan_has_deals}

-- ---- one event that helps

-- what it brings was sent, or is no frame
among_sent : (help : Help) (called : Call) (i : ℕ) (members : List ℕ) (sent : List Sent) (frames : List Frame) (up : Bool) (front : ℕ) (what : Arrived) → IsCall help called → MayCome i members sent help
    → IsRecorded sent frames → In what (arrived_at up (node_helped help) front called) → IsAmong frames what
among_sent (Starts node) called i members sent frames up front what is may known h = by_up up (subst (λ (c : Call). In what (arrived_at up node front c)) is.1 h)
  where
    by_up : (b : Bool) → In what (arrived_at b node front (Start is.0)) → IsAmong frames what
    by_up true k = absurd k
    by_up false k = absurd k
among_sent (Orders node) called i members sent frames up front what is may known h = by_up up (subst (λ (c : Call). In what (arrived_at up node front c)) is h)
  where
    by_up : (b : Bool) → In what (arrived_at b node front Away) → IsAmong frames what
    by_up true (inl e) = subst (IsAmong frames) (sym e) tt
    by_up true (inr none) = absurd none
    by_up false k = absurd k
among_sent (Gives (Ticks node)) called i members sent frames up front what is may known h = brought (Ticks node) sent frames up front what tt known (subst (λ (c : Call). In what (arrived_at up node front c)) is h)
among_sent (Gives (Delivers from to bytes)) called i members sent frames up front what is may known h =
    brought (Delivers from to bytes) sent frames up front what may known (subst (λ (c : Call). In what (arrived_at up to front c)) is h)

-- where the list has come to, one event further
record Helped (plan : Plan) (i : ℕ) (members : List ℕ) (more : ℕ) (state : State) (sent : List Sent) : Type 0 where
  st : ℕ → Standing
  on : IsOn plan st sent state
  go : CanEnd (place_of plan) i members more st sent

helped : (plan : Plan) (i : ℕ) (members : List ℕ) (more : ℕ) (help : Help) (st : ℕ → Standing) (sent : List Sent) (old new : State) → IsOn plan st sent old → MayCome i members sent help
    → ((called : Call) (outcome : Result Turn Refusal) → IsCall help called → IsTurn (place_of plan (node_helped help)) (st (node_helped help)) called outcome
    → (turn : Turn) × (outcome ≡ Ok turn)
    × (AreReadBack turn.frames → CanEnd (place_of plan) i members more (put st (node_helped help) turn.after) (sent_by (node_helped help) turn.frames ++ sent)))
    → (t : TakesHelp plan old help new) → Helped plan i members more new (sent_by (node_helped help) t.steps.ruled.frames ++ sent)
helped plan i members more help st sent old new on may goes t =
    let s = t.steps in
    let here : s.before ≡ st (node_helped help) =
    sym s.at ∙ (get_or_default old.standings s.node s.before (stopped (place_of plan s.node) empty_store empty_store) s.is_node
    ∙ (ap (standing_at plan old) t.node ∙ ap (λ (f : ℕ → Standing). f (node_helped help)) (sym on.standings))) in
    let rule : (outcome : Result Turn Refusal) → IsTurn (place_of plan s.node) s.before s.called outcome → IsTurn (place_of plan (node_helped help)) (st (node_helped help)) s.called outcome =
    (λ outcome is. subst (λ (n : ℕ). IsTurn (place_of plan n) (st (node_helped help)) s.called outcome) t.node
    (subst (λ (b : Standing). IsTurn (place_of plan s.node) b s.called outcome) here is)) in
    let never : (refusal : Refusal) → IsTurn (place_of plan s.node) s.before s.called (Err refusal) → ⊥ =
    (λ refusal is. let h = goes s.called (Err refusal) t.called (rule (Err refusal) is) in ok_not h.0 refusal (sym h.1)) in
    let r = turned (place_of plan s.node) s.before s.called s.after s.ruled.frames s.ruled.shown s.ruled.ends s.arrived s.made.began never t.untroubled s.ruled.keeps in
    let h = goes s.called (Ok r.turn) t.called (rule (Ok r.turn) r.rule) in
    let same : r.turn ≡ h.0 = ok_is r.turn h.0 h.1 in
    let frames : s.ruled.frames ≡ (h.0).frames = r.frames_are ∙ ap (λ (x : Turn). x.frames) same in
    let back : AreReadBack (h.0).frames = subst AreReadBack frames (written_reads s.node s.ruled.frames s.made.frames s.ruled.written) in
    let after : s.after ≡ (h.0).after = r.after_is ∙ ap (λ (x : Turn). x.after) same in
    let among : (what : Arrived) → In what s.arrived → IsAmong old.now.sent what =
    (λ what k. among_sent help s.called i members sent old.now.sent s.before.up (front_of s.before) what t.called may on.known
    (subst (λ (n : ℕ). In what (arrived_at s.before.up n (front_of s.before) s.called)) t.node (subst (In what) r.came k))) in
    record {
      st = put st (node_helped help) (h.0).after;
      on = record {
        standings = (λ j. put (on.standings j) (sym t.node j) (sym after j)) ∙ changed plan old new s.node s.after s.is_node s.standings;
        known = λ x k. subst (λ (now : Record). In (record { from = x.from; to = x.to; bytes = bytes_of x.message }) now.sent) (sym s.grows)
            (elim (in_split (sent_by (node_helped help) s.ruled.frames) sent x k) [
              | inl new_one ↦ in_later old.now.sent s.made.frames (record { from = x.from; to = x.to; bytes = bytes_of x.message })
                  (sent_recorded s.node s.ruled.frames s.made.frames s.ruled.written x (subst (λ (n : ℕ). In x (sent_by n s.ruled.frames)) (sym t.node) new_one))
              | inr before ↦ in_first old.now.sent s.made.frames (record { from = x.from; to = x.to; bytes = bytes_of x.message }) (on.known x before)
            ]);
        unforged = subst (λ (now : Record). IsUnforged now.sent now.delivered) (sym s.grows) (unforged_after old.now s.node s.arrived s.made on.unforged on.placed among);
        placed = subst (λ (now : Record). ArePlaced now.sent now.delivered) (sym s.grows) (placed_after old.now.sent s.made.frames old.now.delivered s.arrived on.placed);
      };
      go = subst (λ (fs : List Outgoing). CanEnd (place_of plan) i members more (put st (node_helped help) (h.0).after) (sent_by (node_helped help) fs ++ sent)) (sym frames) (h.2 back);
    }

-- ---- all of them

can_end_run : (plan : Plan) (i : ℕ) (members : List ℕ) (k : ℕ) (st : ℕ → Standing) (sent : List Sent) (state : State) → IsOn plan st sent state → CanEnd (place_of plan) i members k st sent
    → CanEndRun plan i members k state sent
unfolding CanEnd CanEndRun
can_end_run plan i members zero st sent state on ended = subst (λ (f : ℕ → Standing). HasEnded (place_of plan i) (f i)) on.standings ended
can_end_run plan i members (suc k) st sent state on (inl ended) = inl (subst (λ (f : ℕ → Standing). HasEnded (place_of plan i) (f i)) on.standings ended)
can_end_run plan i members (suc k) st sent state on (inr (help, may, goes)) = inr (
  help,
  may,
  λ called outcome is rule. let h = goes called outcome is (subst (λ (f : ℕ → Standing). IsTurn (place_of plan (node_helped help)) (f (node_helped help)) called outcome) (sym on.standings) rule) in (h.0, h.1),
  λ new takes. let x = helped plan i members k help st sent state new on may goes takes in
      (x.on.unforged, can_end_run plan i members k x.st (sent_by (node_helped help) takes.steps.ruled.frames ++ sent) new x.on x.go),
)

pub runs_can_end : Given → DrawsAreDeals → MatchesCanEnd → RunsCanEnd
runs_can_end laws draws ends setting n before sources state i members round run unforged quorum among met room =
    let was = run_keeps laws setting n before sources state run in
    let plan : Plan = plan_of setting sources in
    let low : (k : ℕ) → In k members → k < length sources = (λ k h. (above_all 0 (length sources) members k quorum.rise h).1) in
    let are = members_of laws setting n before sources state members was unforged low in
    can_end_run plan i members (most_events setting (length members) (front_now (standing_at plan state i))) (standing_at plan state) [] state (record { standings = refl; known = λ s h. absurd h; unforged = unforged; placed = was.placed })
    (ends (own_of setting sources before) setting (length sources) (λ k. deals_from setting.game.players (slice_get sources k)) are.0 (standing_at plan state) i members round are.1 quorum among
    (plan_has_deals draws plan i was.plan (low i among)) met room)
