-- Three nodes that start, of which node 0 ticks, and node 1 is brought its Prepare and promises: what each did is by the rules, byte for byte, in an order in
-- which the frame had been sent before it came.
use Rattle.std.proofs.Common.{◌≡◌, ℕ, zero, suc, ◌<◌, ◌∙◌, inl, inr, List, [], ◌∷◌, Result, Ok, false, refl, ap, sym, subst, arith, take}
use Rattle.paxos_wire.specs.declared.message.Message.{Message}
use Rattle.paxos_wire.specs.declared.message.Message.TheVariants.{Prepare, Promise}
use Rattle.paxos_wire.specs.declared.fault.FrameFault.{FrameFault}
use Rattle.paxos_wire.specs.Spelling.{frame as bytes_of, frame_of}
use Rattle.paxos_wire.specs.Faults.{header_fault, reading}
use Rattle.paxos_wire.specs.Reading.{body_of, message_at, of_ballot_at, ballot_at, below_at, promise_at, entries_at}
use Rattle.protocol_model.specs.Stores.{empty_store}
use Rattle.dealer_kind.specs.Plans.{Plan, IsPlan}
use Rattle.dealer_kind.specs.declared.source.Source.{Source}
use Rattle.dealer_kind.specs.declared.source.Source.TheVariants.{Seed}
use Rattle.node_rules.specs.Standings.{Place, Standing, place_of, started}
use Rattle.node_rules.specs.Sending.{Frame as Outgoing}
use Rattle.node_rules.specs.Turns.{Turn, and_then}
use Rattle.node_rules.specs.Proposing.{ticking, closing}
use Rattle.node_rules.specs.Rules.{on_message, on_read}
use Rattle.node_rules.specs.Called.{took}
use Rattle.node_rules.specs.Calls.{Tick}
use Rattle.node_rules.specs.Calls as call
use Rattle.node_rules.proofs.Examples.{opened, setting, ballot, to, done}
use Rattle.dealer_world.specs.Records.{Frame, Delivered, Arrival}
use Rattle.dealer_world.specs.Runs.{AreWritten}
use Rattle.dealer_world.specs.RuleRuns.{plan_of}
use Rattle.dealer_world.specs.Unforged.{IsAmong}
use Rattle.stations.specs.Deeds.{Deed, Did, new_at, Doing, deeds_of}
use Rattle.stations.specs.Joining.{IsTrueOrder, AreProcesses}
use Rattle.stations.proofs.Examples.{starts, one_that_starts, by}

abbrev sources : List Source
sources = Seed 7 ∷ Seed 8 ∷ Seed 9 ∷ []

abbrev plan : Plan
plan = plan_of setting sources

abbrev place : ℕ → Place
place i = place_of plan i

-- node i, just started over a new store
abbrev first : ℕ → Standing
first i = started (place i) empty_store

-- ---- the frames

abbrev prepare : Message
prepare = Prepare (ballot 1 0) 0

abbrev prepare_bytes : List ℕ
prepare_bytes = 0 ∷ 0 ∷ 0 ∷ 11 ∷ 2 ∷ 1 ∷ 0 ∷ 0 ∷ 0 ∷ 1 ∷ 0 ∷ 0 ∷ 0 ∷ 0 ∷ 0 ∷ []

prepare_is : prepare_bytes ≡ bytes_of prepare
unfolding frame_of
prepare_is = refl

prepare_reads : reading prepare_bytes ≡ Ok prepare
unfolding reading header_fault body_of message_at of_ballot_at ballot_at below_at
prepare_reads = refl

abbrev promise : Message
promise = Promise (ballot 1 0) 0 []

abbrev promise_bytes : List ℕ
promise_bytes = 0 ∷ 0 ∷ 0 ∷ 12 ∷ 2 ∷ 2 ∷ 0 ∷ 0 ∷ 0 ∷ 1 ∷ 0 ∷ 0 ∷ 0 ∷ 0 ∷ 0 ∷ 0 ∷ []

promise_is : promise_bytes ≡ bytes_of promise
unfolding frame_of
promise_is = refl

promise_reads : reading promise_bytes ≡ Ok promise
unfolding reading header_fault body_of message_at of_ballot_at ballot_at below_at promise_at entries_at
promise_reads = refl

abbrev prepare_to : ℕ → Frame
prepare_to i = record { from = 0; to = i; bytes = prepare_bytes }

abbrev promised : Frame
promised = record { from = 1; to = 0; bytes = promise_bytes }

-- ---- node 0 ticks

abbrev ticks : Deed
ticks = record { arrived = []; made = record { frames = prepare_to 1 ∷ prepare_to 2 ∷ []; texts = []; began = false } }

abbrev ticked : Turn
ticked = done (and_then (ticking (place 0) (first 0)) (closing (place 0)))

tick_is_taken : Ok ticked ≡ and_then (ticking (place 0) (first 0)) (closing (place 0))
unfolding opened
tick_is_taken = refl

tick_asks : to 1 prepare ∷ to 2 prepare ∷ [] ≡ ticked.frames
unfolding opened
tick_asks = refl

tick_shows_nothing : [] ≡ ticked.shown
unfolding opened
tick_shows_nothing = refl

one_that_ticks : Did (place 0) (new_at (place 0)) (ticks ∷ starts (place 0) ∷ []) ticked.after
one_that_ticks = (
  first 0,
  one_that_starts (place 0),
  (
    Tick,
    record {
      frames = to 1 prepare ∷ to 2 prepare ∷ [];
      shown = [];
      ends = took ticked tick_is_taken refl tick_asks tick_shows_nothing;
      seated = tt;
      written = (refl, refl, prepare_is, prepare_reads, (refl, refl, prepare_is, prepare_reads, tt));
      texts = refl;
      keeps = (refl, refl);
    },
  ),
)

-- ---- node 1 is brought its Prepare

abbrev gets : Deed
gets = record { arrived = Delivered (prepare_to 1) ∷ []; made = record { frames = promised ∷ []; texts = []; began = false } }

abbrev promising : Turn
promising = done (on_message (place 1) 0 prepare (first 1))

prepare_is_taken : Ok promising ≡ on_message (place 1) 0 prepare (first 1)
unfolding opened
prepare_is_taken = refl

promise_goes_back : to 0 promise ∷ [] ≡ promising.frames
unfolding opened
promise_goes_back = refl

promise_shows_nothing : [] ≡ promising.shown
unfolding opened
promise_shows_nothing = refl

one_that_promises : Did (place 1) (new_at (place 1)) (gets ∷ starts (place 1) ∷ []) promising.after
one_that_promises = (
  first 1,
  one_that_starts (place 1),
  (
    call.Frame 0 prepare_bytes,
    record {
      frames = to 0 promise ∷ [];
      shown = [];
      ends = took promising (prepare_is_taken ∙ sym (ap (λ (read : Result Message FrameFault). on_read (place 1) 0 read (first 1)) prepare_reads)) refl promise_goes_back promise_shows_nothing;
      seated = tt;
      written = (refl, refl, promise_is, promise_reads, tt);
      texts = refl;
      keeps = (refl, refl);
    },
  ),
)

-- ---- in an order of all

abbrev done_by : ℕ → List Deed
done_by zero = ticks ∷ starts (place 0) ∷ []
done_by (suc zero) = gets ∷ starts (place 1) ∷ []
done_by (suc (suc i)) = starts (place (suc (suc i))) ∷ []

abbrev in_order : List Doing
in_order = by 1 gets ∷ by 0 ticks ∷ by 2 (starts (place 2)) ∷ by 1 (starts (place 1)) ∷ by 0 (starts (place 0)) ∷ []

each_did : (i : ℕ) → i < 3 → ∥ ((s : Standing) × Did (place i) (new_at (place i)) (done_by i) s) ∥₁
each_did zero less = ∣ (ticked.after, one_that_ticks) ∣₁
each_did (suc zero) less = ∣ (promising.after, one_that_promises) ∣₁
each_did (suc (suc i)) less = ∣ (first (suc (suc i)), one_that_starts (place (suc (suc i)))) ∣₁

each_in_order : (i : ℕ) → i < 3 → deeds_of in_order i ≡ done_by i
each_in_order zero less = refl
each_in_order (suc zero) less = refl
each_in_order (suc (suc zero)) less = refl
each_in_order (suc (suc (suc i))) less = absurd (omega (arith, less))

abbrev IsNode : Doing → Type 0
IsNode doing = doing.node < 3

a_prepare_that_was_sent_and_came : IsTrueOrder 3 done_by in_order
a_prepare_that_was_sent_and_came = record {
  order = record {
    nodes = λ doing there. elim there [
      | inl is ↦ subst IsNode (sym is) (omega arith)
      | inr (inl is) ↦ subst IsNode (sym is) (omega arith)
      | inr (inr (inl is)) ↦ subst IsNode (sym is) (omega arith)
      | inr (inr (inr (inl is))) ↦ subst IsNode (sym is) (omega arith)
      | inr (inr (inr (inr (inl is)))) ↦ subst IsNode (sym is) (omega arith)
      | inr (inr (inr (inr (inr none)))) ↦ absurd none
    ];
    each = each_in_order;
  };
  unforged = λ arrival there. elim there [
    | inl is ↦ subst (λ (a : Arrival). IsAmong (take a.sent_before (prepare_to 1 ∷ prepare_to 2 ∷ promised ∷ [])) a.what) (sym is) (inl refl)
    | inr none ↦ absurd none
  ];
}

-- so they are processes of a match, and what the laws say holds of them
three_processes : IsPlan plan → AreProcesses setting sources done_by in_order
three_processes is = record { plan = is; did = each_did; order = a_prepare_that_was_sent_and_came }

-- the same deeds in an order in which it came first
came_first : IsTrueOrder 3 done_by (by 0 ticks ∷ by 1 gets ∷ by 2 (starts (place 2)) ∷ by 1 (starts (place 1)) ∷ by 0 (starts (place 0)) ∷ []) → ⊥
came_first order = order.unforged (record { what = Delivered (prepare_to 1); sent_before = 0 }) (inl refl)

-- one that came to node 1 where it was sent to node 2 alone
abbrev asks_node_2_alone : Deed
asks_node_2_alone = record { arrived = []; made = record { frames = prepare_to 2 ∷ []; texts = []; began = false } }

sent_to_another : (histories : ℕ → List Deed) → IsTrueOrder 3 histories (by 1 gets ∷ by 0 asks_node_2_alone ∷ []) → ⊥
sent_to_another histories order = elim (order.unforged (record { what = Delivered (prepare_to 1); sent_before = 1 }) (inl refl)) [
  | inl same ↦ let to : 1 ≡ 2 = ap (λ (f : Frame). f.to) same in omega (arith, to)
  | inr none ↦ absurd none
]

-- ---- what is no frame is sent by no call

abbrev seven : Frame
seven = record { from = 0; to = 1; bytes = 7 ∷ [] }

seven_reads_as_none : (message : Message) → reading (7 ∷ []) ≡ Ok message → ⊥
unfolding reading header_fault
seven_reads_as_none message reads = cc

what_is_no_frame : (frames : List Outgoing) → AreWritten 0 frames (seven ∷ []) → ⊥
what_is_no_frame [] written = written
what_is_no_frame (outgoing ∷ more) (sender, receiver, is, reads, rest) = seven_reads_as_none outgoing.message reads

a_node_that_sends_it : (s : Standing) → Did (place 0) (new_at (place 0)) (record { arrived = []; made = record { frames = seven ∷ []; texts = []; began = false } } ∷ []) s → ⊥
a_node_that_sends_it s (old, same, (called, ruled)) = what_is_no_frame ruled.frames ruled.written
