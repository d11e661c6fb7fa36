-- No frame is forged by an event that brings one which was sent.
use Rattle.std.proofs.Common.{◌≡◌, ℕ, zero, suc, Bool, true, false, List, [], ◌∷◌, ◌++◌, map, length, take, slice_get, Some, Result, inl, inr, subst, sym}
use Rattle.std.specs.List.{AllByRecursion}
use Rattle.std.proofs.lemmas.Option.{same_Some}
use Rattle.promise_store.specs.declared.disk.Disk.{Ghosts}
use Rattle.protocol_model.specs.Sets.{In}
use Rattle.protocol_model.proofs.Sets.{in_split}
use Rattle.dealer_node.specs.Nodes.{Node}
use Rattle.dealer_node.specs.Outs.{Told}
use Rattle.dealer_node.specs.Seeing.{runs, front_in}
use Rattle.dealer_node.specs.declared.fault.NodeFault.{NodeFault}
use Rattle.dealer_world.specs.declared.event.Event.{Event}
use Rattle.dealer_world.specs.declared.event.Event.TheVariants as event
use Rattle.dealer_world.specs.Events.{node_of, brought_by}
use Rattle.dealer_world.specs.Records.{Record, Frame, Arrived, Arrival, Delivered, Came, Connected, Dropped, Ordered}
use Rattle.dealer_world.specs.Recordings.{made_by}
use Rattle.dealer_world.specs.Views.{placed_at}
use Rattle.dealer_world.specs.Stepping.{View, Stepped, Gains, nothing, call, arrived_by_event, begins_by_event}
use Rattle.dealer_world.specs.Unforged.{IsAmong, IsUnforged}
use Rattle.dealer_world.specs.Promise.{HasNoForged}

-- ---- lists

in_first : {A : Type 0} (x : A) (n : ℕ) (xs ys : List A) → In x (take n xs) → In x (take n (xs ++ ys))
in_first x zero xs ys here = absurd here
in_first x (suc n) [] ys here = absurd here
in_first x (suc n) (y ∷ xs) ys (inl is) = inl is
in_first x (suc n) (y ∷ xs) ys (inr more) = inr (in_first x n xs ys more)

in_all : {A : Type 0} (x : A) (xs ys : List A) → In x xs → In x (take (length xs) (xs ++ ys))
in_all x [] ys here = absurd here
in_all x (y ∷ xs) ys (inl is) = inl is
in_all x (y ∷ xs) ys (inr more) = inr (in_all x xs ys more)

pub in_at : {A : Type 0} (xs : List A) (k : ℕ) (x : A) → slice_get xs k ≡ Some x → In x xs
in_at [] k x is = cc
in_at (y ∷ xs) zero x is = inl (sym (same_Some y x is))
in_at (y ∷ xs) (suc k) x is = inr (in_at xs k x is)

-- ---- frames

among_more : (n : ℕ) (sent frames : List Frame) (what : Arrived) → IsAmong (take n sent) what → IsAmong (take n (sent ++ frames)) what
among_more n sent frames (Delivered frame) here = in_first frame n sent frames here
among_more n sent frames (Came node seat bytes) here = tt
among_more n sent frames (Connected node seat) here = tt
among_more n sent frames (Dropped node seat) here = tt
among_more n sent frames (Ordered node front) here = tt

among_all : (sent frames : List Frame) (what : Arrived) → IsAmong sent what → IsAmong (take (length sent) (sent ++ frames)) what
among_all sent frames (Delivered frame) here = in_all frame sent frames here
among_all sent frames (Came node seat bytes) here = tt
among_all sent frames (Connected node seat) here = tt
among_all sent frames (Dropped node seat) here = tt
among_all sent frames (Ordered node front) here = tt

arrived_among : (sent frames : List Frame) (arrived : List Arrived) (arrival : Arrival) → AllByRecursion (IsAmong sent) arrived
    → In arrival (map (placed_at (length sent)) arrived) → IsAmong (take arrival.sent_before (sent ++ frames)) arrival.what
arrived_among sent frames [] arrival all here = absurd here
arrived_among sent frames (what ∷ arrived) arrival all (inl is) =
    subst (λ (a : Arrival). IsAmong (take a.sent_before (sent ++ frames)) a.what) (sym is) (among_all sent frames what all.0)
arrived_among sent frames (what ∷ arrived) arrival all (inr more) = arrived_among sent frames arrived arrival all.1 more

all_at : (up : Bool) (front : ℕ) (e : Event) (sent : List Frame) → AllByRecursion (IsAmong sent) (brought_by front e) → AllByRecursion (IsAmong sent) (arrived_by_event up front e)
all_at true front e sent all = all
all_at false front e sent all = tt

gains_unforged : {N : Type 0} (e : Event) (up : Bool) (front : ℕ) (told : Told) (old new : View N) (answer : Result (Unit {0}) NodeFault)
    → Gains e up front told old new answer → AllByRecursion (IsAmong old.all.sent) (brought_by front e) → HasNoForged old → HasNoForged new
gains_unforged e up front told old new answer (nothing a is same last) all unforged = subst (λ (r : Record). IsUnforged r.sent r.delivered) (sym same) unforged
gains_unforged e up front told old new answer (call a ample grows last) all unforged =
    let made = made_by (node_of e) told (begins_by_event up e answer) in
    let arrived = arrived_by_event up front e in
    let each : IsUnforged (old.all.sent ++ made.frames) (old.all.delivered ++ map (placed_at (length old.all.sent)) arrived) =
    λ arrival here. elim (in_split old.all.delivered (map (placed_at (length old.all.sent)) arrived) arrival here) [
      | inl before ↦ among_more arrival.sent_before old.all.sent made.frames arrival.what (unforged arrival before)
      | inr now ↦ arrived_among old.all.sent made.frames arrived arrival (all_at up front e old.all.sent all) now
    ] in
    subst (λ (r : Record). IsUnforged r.sent r.delivered) (sym grows) each

-- whatever front its node has, an event brings the same frames
pub by_any_front : (sent : List Frame) (front other : ℕ) (e : Event) → AllByRecursion (IsAmong sent) (brought_by front e) → AllByRecursion (IsAmong sent) (brought_by other e)
by_any_front sent front other (event.Frame from to bytes) all = all
by_any_front sent front other (event.Line node seat bytes) all = all
by_any_front sent front other (event.Tick node) all = all
by_any_front sent front other (event.Away node) all = all
by_any_front sent front other (event.Connect node seat) all = all
by_any_front sent front other (event.Drop node seat) all = all
by_any_front sent front other (event.Stop node pick) all = all
by_any_front sent front other (event.Start node) all = all

-- where the frame that is given was sent, no frame is forged by it
pub unforged_after : {D : Type 0} (g : Ghosts D) (old new : View (Node D)) (e : Event) (answer : Result (Unit {0}) NodeFault)
    → Stepped g old e answer new → ((front : ℕ) → AllByRecursion (IsAmong old.all.sent) (brought_by front e)) → HasNoForged old → HasNoForged new
unforged_after g old new e answer stepped all unforged =
    let front = front_in stepped.before in
    gains_unforged e (runs stepped.before) front stepped.told old new answer stepped.gains (all front) unforged
