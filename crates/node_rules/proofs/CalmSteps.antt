-- Events of members' nodes, one after another: each comes to its turn, and the frames of the turns before it are on their way.
use Rattle.std.proofs.Common.{◌≡◌, ℕ, ◌<◌, inl, inr, Bool, true, false, List, [], ◌∷◌, ◌++◌, Result, Ok, refl, ap, subst, ◌∙◌}
use Rattle.paxos_wire.specs.declared.fault.FrameFault.{FrameFault}
use Rattle.paxos_wire.specs.declared.message.Message.{Message as Wire}
use Rattle.paxos_wire.specs.Spelling.{frame as bytes_of}
use Rattle.paxos_wire.specs.Faults.{reading}
use Rattle.protocol_model.specs.Sets.{In, put}
use Rattle.node_rules.specs.Standings.{Place, Standing}
use Rattle.node_rules.specs.Sending.{Frame, to_others}
use Rattle.node_rules.specs.Turns.{Turn, Refusal, and_then}
use Rattle.dealer_kind.specs.Plans.{HasNodes}
use Rattle.node_rules.specs.Proposing.{is_over, is_spent, ticking, closing}
use Rattle.node_rules.specs.Calls.{Tick}
use Rattle.node_rules.specs.Calls as call
use Rattle.node_rules.specs.Rules.{on_message, on_read, IsTurnBy, IsTurn}
use Rattle.node_rules.specs.Calm.{Event, Ticks, Delivers, delivers}
use Rattle.node_rules.specs.CalmRound.{place_in, node_of, call_of, Sent, sent_by, IsOnItsWay, AreReadBack, GoOn}
use Rattle.protocol_model.proofs.Sets.{Within, in_first, in_later, in_split}
use Rattle.node_rules.proofs.Carrying.{has_to}
use Rattle.node_rules.proofs.CalmTurns.{Round, place_at, ticked_turn, tick_turn, prepare_in}

-- ---- frames on their way

pub sent_in : (from : ℕ) (frames : List Frame) (to : ℕ) (m : Wire) → In (record { to = to; message = m }) frames → In (record { from = from; to = to; message = m }) (sent_by from frames)
sent_in from [] to m h = absurd h
sent_in from (f ∷ fs) to m (inl e) = inl (ap (λ (x : Frame). let y : Sent = record { from = from; to = x.to; message = x.message } in y) e)
sent_in from (f ∷ fs) to m (inr h) = inr (sent_in from fs to m h)

-- ---- steps

pub ended : (places : ℕ → Place) (IsSo : (ℕ → Standing) → Type 0) (st : ℕ → Standing) (sent : List Sent) → IsSo st → GoOn places IsSo st sent []
unfolding GoOn
ended places IsSo st sent h = h

pub step : (places : ℕ → Place) (IsSo : (ℕ → Standing) → Type 0) (st : ℕ → Standing) (sent : List Sent) (event : Event) (events : List Event) (t : Turn) → IsOnItsWay sent event
    → ((outcome : Result Turn Refusal) → IsTurn (places (node_of event)) (st (node_of event)) (call_of event) outcome → outcome ≡ Ok t)
    → (AreReadBack t.frames → GoOn places IsSo (put st (node_of event) t.after) (sent_by (node_of event) t.frames ++ sent) events)
    → GoOn places IsSo st sent (event ∷ events)
unfolding GoOn
step places IsSo st sent event events t way only later = (way, λ outcome is. (t, only outcome is, later))

turn_of : (place : Place) (s : Standing) (from : ℕ) (w : Wire) (t : Turn) (outcome : Result Turn Refusal) → s.up ≡ true → reading (bytes_of w) ≡ Ok w → on_message place from w s ≡ Ok t
    → IsTurn place s (call.Frame from (bytes_of w)) outcome → outcome ≡ Ok t
turn_of place s from w t outcome up read e is =
    let by : outcome ≡ on_read place from (reading (bytes_of w)) s = subst (λ (b : Bool). IsTurnBy b place s (call.Frame from (bytes_of w)) outcome) up is in
    by ∙ (ap (λ (x : Result Wire FrameFault). on_read place from x s) read ∙ e)

pub deliver : (r : Round) (IsSo : (ℕ → Standing) → Type 0) (st : ℕ → Standing) (sent : List Sent) (from to : ℕ) (w : Wire) (events : List Event) (t : Turn) → (st to).up ≡ true → reading (bytes_of w) ≡ Ok w
    → In (record { from = from; to = to; message = w }) sent → on_message (place_at r to) from w (st to) ≡ Ok t
    → (AreReadBack t.frames → GoOn (place_in r.setting r.n r.deals) IsSo (put st to t.after) (sent_by to t.frames ++ sent) events)
    → GoOn (place_in r.setting r.n r.deals) IsSo st sent (delivers from to w ∷ events)
deliver r IsSo st sent from to w events t up read way e later =
    step (place_in r.setting r.n r.deals) IsSo st sent (delivers from to w) events t (w, refl, way) (λ outcome is. turn_of (place_at r to) (st to) from w t outcome up read e is) later

-- with less said of the end

pub go_on_to : (places : ℕ → Place) (IsSo Less : (ℕ → Standing) → Type 0) (st : ℕ → Standing) (sent : List Sent) (events : List Event) → ((new : ℕ → Standing) → IsSo new → Less new)
    → GoOn places IsSo st sent events → GoOn places Less st sent events
unfolding GoOn
go_on_to places IsSo Less st sent [] less go = less st go
go_on_to places IsSo Less st sent (event ∷ events) less (way, goes) = (
  way,
  λ outcome is. let g = goes outcome is in (
    g.0,
    g.1,
    λ back. go_on_to places IsSo Less (put st (node_of event) (g.0).after) (sent_by (node_of event) (g.0).frames ++ sent) events less (g.2 back),
  ),
)

-- with more frames on their way

way_with : (sent more : List Sent) (event : Event) → Within sent more → IsOnItsWay sent event → IsOnItsWay more event
way_with sent more (Ticks node) inside way = tt
way_with sent more (Delivers from to bytes) inside (message, same, here) = (message, same, inside (record { from = from; to = to; message = message }) here)

still_within : (new sent more : List Sent) → Within sent more → Within (new ++ sent) (new ++ more)
still_within new sent more inside x h = elim (in_split new sent x h) [ inl l ↦ in_first new more x l | inr k ↦ in_later new more x (inside x k) ]

pub with_more_sent : (places : ℕ → Place) (IsSo : (ℕ → Standing) → Type 0) (st : ℕ → Standing) (sent more : List Sent) (events : List Event) → Within sent more → GoOn places IsSo st sent events
    → GoOn places IsSo st more events
unfolding GoOn
with_more_sent places IsSo st sent more [] inside go = go
with_more_sent places IsSo st sent more (event ∷ events) inside (way, goes) = (
  way_with sent more event inside way,
  λ outcome is. let g = goes outcome is in (
    g.0,
    g.1,
    λ back. with_more_sent places IsSo (put st (node_of event) (g.0).after) (sent_by (node_of event) (g.0).frames ++ sent) (sent_by (node_of event) (g.0).frames ++ more) events
        (still_within (sent_by (node_of event) (g.0).frames) sent more inside) (g.2 back),
  ),
)

pub prepare_framed : (r : Round) (k : ℕ) → k < r.n → (k ≡ r.i → ⊥) → In (record { to = k; message = prepare_in r }) (ticked_turn r).frames
prepare_framed r k low other = in_first (to_others (place_at r r.i) (prepare_in r)) [] (record { to = k; message = prepare_in r }) (has_to r.n r.i k (prepare_in r) low other)

-- the tick, whatever comes behind it
pub tick_first : (r : Round) (IsSo : (ℕ → Standing) → Type 0) (events : List Event) → (r.standings r.i).up ≡ true → HasNodes r.n → is_over (place_at r r.i) (r.standings r.i) ≡ false → is_spent (r.standings r.i) ≡ false
    → (AreReadBack (ticked_turn r).frames → GoOn (place_in r.setting r.n r.deals) IsSo (put r.standings r.i (ticked_turn r).after) (sent_by r.i (ticked_turn r).frames ++ []) events)
    → GoOn (place_in r.setting r.n r.deals) IsSo r.standings [] (Ticks r.i ∷ events)
tick_first r IsSo events up few not_over not_spent later =
    step (place_in r.setting r.n r.deals) IsSo r.standings [] (Ticks r.i) events (ticked_turn r) tt
    (λ outcome is. (let by : outcome ≡ and_then (ticking (place_at r r.i) (r.standings r.i)) (closing (place_at r r.i)) =
    subst (λ (b : Bool). IsTurnBy b (place_at r r.i) (r.standings r.i) Tick outcome) up is in by) ∙ tick_turn r few not_over not_spent) later
