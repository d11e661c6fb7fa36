-- Where no frame was forged, each frame goes from a node to another, and no node of a run of the rules ever knows another command at a slot where one was chosen.
use Rattle.std.proofs.Common.{◌≡◌, ℕ, ◌<◌, Bool, true, false, List, [], ◌++◌, map, length, get_or, Err, refl, sym, ◌∙◌, subst}
use Rattle.std.proofs.lemmas.List.{append-nil}
use Rattle.slot_log.specs.declared.command.Command.{Command}
use Rattle.protocol_model.specs.Sets.{In}
use Rattle.protocol_model.specs.Stores.{Store}
use Rattle.protocol_model.specs.Worlds.{World, Reached}
use Rattle.dealer_kind.specs.Kind.{Setting, dealer_of}
use Rattle.dealer_kind.specs.declared.source.Source.{Source}
use Rattle.node_rules.specs.Standings.{Place, Standing, place_of, front_of}
use Rattle.node_rules.specs.Turns.{Conflict}
use Rattle.node_rules.specs.Calls.{Call, Start, Tick, Away, Line, Connect, Drop, Stop}
use Rattle.node_rules.specs.Calls as call
use Rattle.node_rules.specs.Rules.{IsTurn, IsTurnBy, IsTurnDown}
use Rattle.node_rules.specs.Called.{Comes}
use Rattle.node_rules.specs.Sound.{Stands}
use Rattle.node_rules.specs.LawsRefused.{Refuses, RefusalsHaveReasons}
use Rattle.dealer_world.specs.Records.{Arrived, Frame, log_of, last_start}
use Rattle.dealer_world.specs.Unforged.{IsUnforged}
use Rattle.dealer_world.specs.Headline.{Era}
use Rattle.dealer_world.specs.Calls.{IsSound}
use Rattle.dealer_world.specs.Views.{placed_at}
use Rattle.dealer_world.specs.Runs.{IsSeated, arrived_by, arrived_at}
use Rattle.dealer_world.specs.RuleRuns.{State, plan_of, RunsTo, IsAddressed, RunsSendToNodes, RunsNeverConflict}
use Rattle.dealer_world.specs.Given.{Given}
use Rattle.dealer_world.proofs.Heard.{IsAt}
use Rattle.dealer_world.proofs.Saying.{unforged_before, came_was_sent}
use Rattle.dealer_world.proofs.Extends.{frame_at, sound_of}
use Rattle.dealer_world.proofs.Ruling.{comes_up}
use Rattle.dealer_world.proofs.Keeping.{own_of, IsNode, is_place, arrived_here, each_here, run_keeps}

pub runs_send_to_nodes : Given → RunsSendToNodes
runs_send_to_nodes laws setting n before sources state run unforged frame sent =
    let kept = run_keeps laws setting n before sources state run in
    let own = (kept.behind unforged).own frame sent in
    subst (λ m. IsAddressed m frame) kept.count (own.is_node, own.to_node, own.other)

-- the law of turns that this stands on
abbrev pub ConflictsNever : Type 0
ConflictsNever = (own : ℕ → Command → Bool) (place : Place) (world : World) (s : Standing) (called : Call) (store : Store)
    → Stands own place world s → Comes place world.ever called → IsTurn place s called (Err (Conflict store)) → ⊥

no_conflict : (laws : Given) → ConflictsNever → (setting : Setting) (n : ℕ) (before : List Era) (sources : List Source) (state : State) (node : ℕ) (s : Standing) (called : Call) (store : Store)
    → RunsTo setting n before sources state → node < length state.standings → get_or state.standings node s ≡ s → s.up ≡ true → IsSeated setting.game.players called
    → IsUnforged state.now.sent (state.now.delivered ++ map (placed_at (length state.now.sent)) (arrived_by node (front_of s) called))
    → IsTurn (place_of (plan_of setting sources) node) s called (Err (Conflict store)) → ⊥
no_conflict laws law setting n before sources state node s called store run less at up seated now_unforged turn =
    let unforged = subst (λ (l : List Frame). IsUnforged l (state.now.delivered ++ map (placed_at (length state.now.sent)) (arrived_by node (front_of s) called))) (sym (append-nil state.now.sent)) now_unforged in
    let kept = run_keeps laws setting n before sources state run in
    let own = own_of setting sources before in
    let dealer = dealer_of setting own in
    let place = place_of (plan_of setting sources) node in
    let count : length state.standings ≡ length sources = kept.count ∙ sym kept.sources_are in
    let arrived = arrived_by node (front_of s) called in
    let within : node < length sources = subst (λ m. node < m) count less in
    let b = kept.behind (unforged_before state.now.sent [] state.now.delivered _ kept.placed unforged) in
    let is_at : (what : Arrived) → In what arrived → IsAt node what = λ what there. arrived_here node (front_of s) true called what there in
    let IsSo : ℕ → Standing → Type 0 = λ i k. IsNode setting sources before i k (b.world.nodes i) (log_of state.now.shown i (last_start state.now.starts i)) in
    let of = subst (IsSo node) at (each_here IsSo node state.standings s less b.are_of) in
    let stands : Stands own place b.world s = record { is_place = is_place setting sources before node kept.plan within; reached = subst (λ m. Reached dealer m b.world) count b.reached; of = of.of } in
    let comes = comes_up place (front_of s) b.world.ever called arrived seated refl (λ frame there.
    subst (λ m. IsSound m node b.world.ever frame) count
    (sound_of (IsNode setting sources before) dealer state.standings state.now before node b frame (came_was_sent state.now.sent [] state.now.delivered arrived unforged frame there) (frame_at node arrived frame is_at there))) in
    law own place b.world s called store stands comes turn

-- a refusal that has its reason is none of these
other_reason : (up : Bool) (called : Call) (store : Store) → Refuses up called (Conflict store) → ⊥
other_reason true (Start found) store is = is
other_reason true Tick store is = cc
other_reason true Away store is = cc
other_reason true (call.Frame from bytes) store (why, reads, is) = cc
other_reason true (Line seat bytes) store is = is
other_reason true (Connect seat) store is = is
other_reason true (Drop seat) store is = is
other_reason true Stop store is = is
other_reason false (Start found) store is = is
other_reason false Tick store is = cc
other_reason false Away store is = cc
other_reason false (call.Frame from bytes) store is = cc
other_reason false (Line seat bytes) store is = cc
other_reason false (Connect seat) store is = cc
other_reason false (Drop seat) store is = cc
other_reason false Stop store is = is

-- a node that is down answers otherwise
other_down : (place : Place) (s : Standing) (called : Call) (store : Store) → IsTurnDown place s called (Err (Conflict store)) → ⊥
other_down place s (Start found) store (finds, is) = cc
other_down place s Tick store is = cc
other_down place s Away store is = cc
other_down place s (call.Frame from bytes) store is = cc
other_down place s (Line seat bytes) store is = cc
other_down place s (Connect seat) store is = cc
other_down place s (Drop seat) store is = cc
other_down place s Stop store is = cc

pub runs_never_conflict : Given → RefusalsHaveReasons → RunsNeverConflict
runs_never_conflict laws law setting n before sources state node s called store run less at seated unforged turn = by_up s.up refl
  where
    by_up : (up : Bool) → s.up ≡ up → ⊥
    by_up true up = no_conflict laws
        (λ own place world k other kept stands comes is. other_reason (world.nodes place.node).up other kept (law own place world k other (Conflict kept) stands comes is))
        setting n before sources state node s called store run less at up seated
        (subst (λ b. IsUnforged state.now.sent (state.now.delivered ++ map (placed_at (length state.now.sent)) (arrived_at b node (front_of s) called))) up unforged) turn
    by_up false down = other_down (place_of (plan_of setting sources) node) s called store (subst (λ b. IsTurnBy b (place_of (plan_of setting sources) node) s called (Err (Conflict store))) down turn)
