-- Members' calls in the worlds behind them: a member that helps goes on running, and the members' standings are of a reached world again.
use Rattle.std.proofs.Common.{◌≡◌, ◌≢◌, ℕ, Option, ◌<◌, ◌⊎◌, inl, inr, Bool, true, false, ◌==◌, List, [], ◌∷◌, ◌++◌, Result, Ok, refl, sym, ap, subst, ◌∙◌}
use Rattle.std.proofs.lemmas.Bool.Decides.{eqb_tells}
use Rattle.paxos_wire.specs.declared.fault.FrameFault.{FrameFault}
use Rattle.paxos_wire.specs.declared.message.Message.{Message as Wire}
use Rattle.paxos_wire.specs.Spelling.{frame as bytes_of}
use Rattle.paxos_wire.specs.Faults.{reading}
use Rattle.slot_log.specs.declared.command.Command.{Command}
use Rattle.protocol_model.specs.Sets.{In, put}
use Rattle.protocol_model.specs.Messages.{Message, sender_of}
use Rattle.protocol_model.specs.Frames.{carried}
use Rattle.protocol_model.specs.Worlds.{World, Reached, IsAfter, new_world}
use Rattle.protocol_model.proofs.Sets.{Within, in_first, in_later, in_split, put_same, put_other}
use Rattle.dealer_kind.specs.Kind.{Setting, dealer_of}
use Rattle.node_rules.specs.Standings.{Place, Standing, front_of}
use Rattle.node_rules.specs.Sending.{Frame}
use Rattle.node_rules.specs.Turns.{Turn, Down, still, joined}
use Rattle.node_rules.specs.Calls.{Call, Start, Tick, Away, Line, Connect, Drop, Stop}
use Rattle.node_rules.specs.Calls as call
use Rattle.node_rules.specs.Rules.{starting, IsTurnBy, IsTurn}
use Rattle.node_rules.specs.Being.{IsOf}
use Rattle.node_rules.specs.Called.{came_in, said_in, IsSent, Comes, log_before, taken_events, Called}
use Rattle.node_rules.specs.Given.{Given}
use Rattle.node_rules.specs.Sound.{Stands}
use Rattle.node_rules.specs.Calm.{Event, Ticks, Delivers}
use Rattle.node_rules.specs.CalmRound.{place_in, node_of, call_of, Sent, sent_by, IsOnItsWay, AreReadBack, GoOn, AreOf}
use Rattle.node_rules.proofs.Results.{ok_is, ok_not}
use Rattle.node_rules.proofs.Asked.{asked_same}
use Rattle.node_rules.proofs.Noting.{played_for}
use Rattle.node_rules.proofs.Led.{tick_splits, order_turn, frame_turn}
use Rattle.node_rules.proofs.Resting.{Closed, rests, proposes}
use Rattle.node_rules.proofs.Chaining.{turns_are_chains}
use Rattle.node_rules.proofs.WayMembers.{AllIn}

-- ---- it goes on running

closed_up : (place : Place) (s : Standing) (turn : Turn) → Closed place s turn → turn.after.up ≡ s.up
closed_up place s turn (rests campaign e) = ap (λ (t : Turn). t.after.up) e
closed_up place s turn (proposes made) = ap (λ (t : Turn). t.after.up) made.turn_is

-- a start, a tick, an order or a frame
abbrev pub IsHelpful : Call → Type 0
IsHelpful (Start found) = Unit {0}
IsHelpful Tick = Unit {0}
IsHelpful Away = Unit {0}
IsHelpful (call.Frame from bytes) = Unit {0}
IsHelpful (Line seat bytes) = ⊥
IsHelpful (Connect seat) = ⊥
IsHelpful (Drop seat) = ⊥
IsHelpful Stop = ⊥

runs_by : (g : Given) (own : ℕ → Command → Bool) (place : Place) (world : World) (s : Standing) (called : Call) (turn : Turn) (b : Bool) (st : Stands own place world s) → s.up ≡ b → IsHelpful called
    → Comes place world.ever called → IsTurnBy b place s called (Ok turn) → turn.after.up ≡ true
runs_by g own place world s (Start found) turn true st up helps comes h = ap (λ (t : Turn). t.after.up) (ok_is turn (still s) h) ∙ up
runs_by g own place world s (Start found) turn false st down helps comes (from, h) = ap (λ (t : Turn). t.after.up) (ok_is turn (starting place found) h)
runs_by g own place world s Tick turn true st up helps comes h = elim (tick_splits g own place world s st up) [
  | inl split ↦ ap (λ (t : Turn). t.after.up) (ok_is turn (joined split.first split.closes.turn) (h ∙ split.whole))
      ∙ (closed_up place split.first.after split.closes.turn split.closes.closed ∙ split.path.runs)
  | inr none ↦ absurd (ok_not turn none.0 (h ∙ none.2))
]
runs_by g own place world s Tick turn false st down helps comes h = absurd (ok_not turn Down h)
runs_by g own place world s Away turn true st up helps comes h =
    let o = order_turn g own place world s st up turn h in
    ap (λ (t : Turn). t.after.up) o.whole ∙ (closed_up place (played_for place o.act s).after o.closes.turn o.closes.closed ∙ o.sits.path.runs)
runs_by g own place world s Away turn false st down helps comes h = absurd (ok_not turn Down h)
runs_by g own place world s (call.Frame from bytes) turn true st up helps comes h =
    let f = frame_turn g own place world s st up from bytes turn comes h in
    let c : Turn = f.split.closes.turn in
    ap (λ (t : Turn). t.after.up) f.whole ∙ (ap (λ (y : Standing). y.up) (asked_same from f.message c.after) ∙ (closed_up place f.split.first.after c f.split.closes.closed ∙ f.split.path.runs))
runs_by g own place world s (call.Frame from bytes) turn false st down helps comes h = absurd (ok_not turn Down h)
runs_by g own place world s (Line seat bytes) turn b st is helps comes h = absurd helps
runs_by g own place world s (Connect seat) turn b st is helps comes h = absurd helps
runs_by g own place world s (Drop seat) turn b st is helps comes h = absurd helps
runs_by g own place world s Stop turn b st is helps comes h = absurd helps

-- ---- the world behind a call

-- what is on its way was sent in the world, and is read back
pub record IsSaidSo (n : ℕ) (ever : List Message) (s : Sent) : Type 0 where
  pub node : s.from < n
  pub other : s.from ≢ s.to
  pub sent : (m : Message) → In m (carried s.from s.message) → In m ever
  pub sender : (m : Message) → In m (carried s.from s.message) → sender_of m ≡ s.from
  pub reads : reading (bytes_of s.message) ≡ Ok s.message

pub said_later : (n : ℕ) (ever more : List Message) (s : Sent) → Within ever more → IsSaidSo n ever s → IsSaidSo n more s
said_later n ever more s inside so = record { node = so.node; other = so.other; sent = λ m h. inside m (so.sent m h); sender = so.sender; reads = so.reads }

-- members of a reached world, of which this one's call came to this turn
pub record Behind (own : ℕ → Command → Bool) (setting : Setting) (n : ℕ) (deals : ℕ → ℕ → Option (List ℕ)) (old : World) (members : List ℕ) (node : ℕ) (turn : Turn) (new : ℕ → Standing) : Type 0 where
  pub world : World
  pub are : AreOf own setting n deals world new members
  pub ever : Within old.ever world.ever
  pub up : turn.after.up ≡ true
  pub said : AreReadBack turn.frames → (s : Sent) → In s (sent_by node turn.frames) → IsSaidSo n world.ever s

-- a frame on its way is one of those that were sent
sent_frame : (P : Sent → Type 0) (from : ℕ) (frames : List Frame) → ((f : Frame) → In f frames → P (record { from = from; to = f.to; message = f.message }))
    → (s : Sent) → In s (sent_by from frames) → P s
sent_frame P from [] all s h = absurd h
sent_frame P from (f ∷ fs) all s (inl e) = subst P (sym e) (all f (inl refl))
sent_frame P from (f ∷ fs) all s (inr h) = sent_frame P from fs (λ x k. all x (inr k)) s h

pub behind_call : (g : Given) (own : ℕ → Command → Bool) (setting : Setting) (n : ℕ) (deals : ℕ → ℕ → Option (List ℕ)) (world : World) (st : ℕ → Standing) (members : List ℕ) (node : ℕ) (called : Call) (turn : Turn)
    → AreOf own setting n deals world st members → In node members → IsHelpful called → Comes (place_in setting n deals node) world.ever called
    → IsTurn (place_in setting n deals node) (st node) called (Ok turn) → Behind own setting n deals world members node turn (put st node turn.after)
behind_call g own setting n deals world st members node called turn are among helps comes rule = record {
  world = later.0;
  are = record {
    reached = later.1;
    is_place = are.is_place;
    of = λ k h. of_at k h (eqb_tells k node);
  };
  ever = λ m h. subst (In m) (sym later.2.ever) (in_later c.output.sent world.ever m h);
  up = runs_by g own (place_in setting n deals node) world (st node) called turn (st node).up stands refl helps comes rule;
  said = λ back. sent_frame (IsSaidSo n later.0.ever) node turn.frames (λ f h. record {
    node = (are.is_place node among).node;
    other = λ e. (c.carry.others f h).1 (sym e);
    sent = λ m k. subst (In m) (sym later.2.ever) (in_first c.output.sent world.ever m (c.carry.said m (f.to, (f, h, refl, k))));
    sender = λ m k. c.carry.own m (c.carry.said m (f.to, (f, h, refl, k)));
    reads = back f h;
  });
}
  where
    stands : Stands own (place_in setting n deals node) world (st node)
    stands = record { is_place = are.is_place node among; reached = are.reached; of = are.of node among }

    c : Called own (place_in setting n deals node) world.ever (world.nodes node) (log_before (place_in setting n deals node) (st node)) (came_in called)
        (taken_events node (front_of (st node)) (st node).up called) turn.frames turn.shown turn.after
    c = (turns_are_chains g called own (place_in setting n deals node) world (st node) turn (record { is_place = are.is_place node among; reached = are.reached; of = are.of node among }) comes rule).called

    later : (new : World) × Reached (dealer_of setting own) n new × IsAfter world node c.output c.last new
    later = g.reach (dealer_of setting own) n node new_world world c.output c.last are.reached (are.is_place node among).node c.chain

    of_at : (k : ℕ) → In k members → ((k == node) ≡ true) × (k ≡ node) ⊎ ((k == node) ≡ false) × (k ≢ node) → IsOf own (place_in setting n deals k) (put st node turn.after k) (later.0.nodes k)
    of_at k h (inl same) = subst (λ (m : ℕ). IsOf own (place_in setting n deals m) (put st node turn.after m) (later.0.nodes m)) (sym same.1)
        (subst (λ (s : Standing). IsOf own (place_in setting n deals node) s (later.0.nodes node)) (sym (put_same st node turn.after))
        (subst (IsOf own (place_in setting n deals node) turn.after) (sym later.2.moved) c.of))
    of_at k h (inr other) = subst (λ (s : Standing). IsOf own (place_in setting n deals k) s (later.0.nodes k)) (sym (put_other st node turn.after k other.1))
        (subst (IsOf own (place_in setting n deals k) (st k)) (sym (later.2.others k other.1)) (are.of k h))

-- ---- the worlds behind events

-- members that run, of a reached world
pub record Live (own : ℕ → Command → Bool) (setting : Setting) (n : ℕ) (deals : ℕ → ℕ → Option (List ℕ)) (st : ℕ → Standing) (members : List ℕ) : Type 0 where
  pub world : World
  pub are : AreOf own setting n deals world st members
  pub up : (k : ℕ) → In k members → (st k).up ≡ true

-- and they go on running by a call of theirs
up_behind : (st : ℕ → Standing) (members : List ℕ) (node : ℕ) (after : Standing) → ((k : ℕ) → In k members → (st k).up ≡ true) → after.up ≡ true → (k : ℕ) → In k members → (put st node after k).up ≡ true
up_behind st members node after up runs k h = up_at (eqb_tells k node)
  where
    up_at : ((k == node) ≡ true) × (k ≡ node) ⊎ ((k == node) ≡ false) × (k ≢ node) → (put st node after k).up ≡ true
    up_at (inl same) = ap (λ (m : ℕ). (put st node after m).up) same.1 ∙ (ap (λ (s : Standing). s.up) (put_same st node after) ∙ runs)
    up_at (inr other) = ap (λ (s : Standing). s.up) (put_other st node after k other.1) ∙ up k h

pub live_behind : (own : ℕ → Command → Bool) (setting : Setting) (n : ℕ) (deals : ℕ → ℕ → Option (List ℕ)) (old : World) (st : ℕ → Standing) (members : List ℕ) (node : ℕ) (turn : Turn)
    → ((k : ℕ) → In k members → (st k).up ≡ true) → Behind own setting n deals old members node turn (put st node turn.after) → Live own setting n deals (put st node turn.after) members
live_behind own setting n deals old st members node turn up b = record { world = b.world; are = b.are; up = up_behind st members node turn.after up b.up }

helpful_event : (event : Event) → IsHelpful (call_of event)
helpful_event (Ticks node) = tt
helpful_event (Delivers from to bytes) = tt

-- what is delivered comes
comes_by : (setting : Setting) (n : ℕ) (deals : ℕ → ℕ → Option (List ℕ)) (ever : List Message) (sent : List Sent) (event : Event) → ((s : Sent) → In s sent → IsSaidSo n ever s) → IsOnItsWay sent event
    → Comes (place_in setting n deals (node_of event)) ever (call_of event)
comes_by setting n deals ever sent (Ticks node) said way = tt
comes_by setting n deals ever sent (Delivers from to bytes) said (message, same, here) =
    let so = said (record { from = from; to = to; message = message }) here in
    let read : reading bytes ≡ Ok message = ap reading same ∙ so.reads in
    subst (λ (r : Result Wire FrameFault). IsSent (place_in setting n deals to) ever from (said_in from r)) (sym read)
    (record { node = so.node; other = so.other; sent = so.sent; sender = so.sender })

-- wherever such events lead, the members run, and are of a reached world
pub go_in_worlds : (g : Given) (own : ℕ → Command → Bool) (setting : Setting) (n : ℕ) (deals : ℕ → ℕ → Option (List ℕ)) (members : List ℕ) (IsSo : (ℕ → Standing) → Type 0) (st : ℕ → Standing) (sent : List Sent)
    (events : List Event) → AllIn members events → (live : Live own setting n deals st members) → ((s : Sent) → In s sent → IsSaidSo n live.world.ever s)
    → GoOn (place_in setting n deals) IsSo st sent events → GoOn (place_in setting n deals) (λ new. IsSo new × Live own setting n deals new members) st sent events
unfolding GoOn
go_in_worlds g own setting n deals members IsSo st sent [] all live said go = (go, live)
go_in_worlds g own setting n deals members IsSo st sent (event ∷ events) all live said (way, goes) = (
  way,
  λ outcome is. let h = goes outcome is in
      let b = behind_call g own setting n deals live.world st members (node_of event) (call_of event) h.0 live.are (all event (inl refl)) (helpful_event event)
      (comes_by setting n deals live.world.ever sent event said way)
      (subst (IsTurn (place_in setting n deals (node_of event)) (st (node_of event)) (call_of event)) h.1 is) in (
        h.0,
        h.1,
        λ back.
            let later : Live own setting n deals (put st (node_of event) (h.0).after) members =
            record { world = b.world; are = b.are; up = up_behind st members (node_of event) (h.0).after live.up b.up } in
            go_in_worlds g own setting n deals members IsSo (put st (node_of event) (h.0).after) (sent_by (node_of event) (h.0).frames ++ sent) events (λ y k. all y (inr k)) later
            (λ s k. elim (in_split (sent_by (node_of event) (h.0).frames) sent s k) [
              | inl new ↦ b.said back s new
              | inr old ↦ said_later n live.world.ever b.world.ever s b.ever (said s old)
            ])
            (h.2 back),
      ),
)
