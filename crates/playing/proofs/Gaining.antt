-- What an event adds to a cluster's frames.
use Rattle.std.proofs.Common.{◌≡◌, ℕ, ◌+◌, ◌≤◌, Bool, List, ◌++◌, length, ap, subst, sym, ◌∙◌, refl, arith, length-append, Result, Err}
use Rattle.std.specs.Prelude.{map}
use Rattle.std.proofs.lemmas.List.{length-map}
use Rattle.promise_store.specs.declared.disk.Disk.{Ghosts}
use Rattle.dealer_node.specs.Nodes.{Node}
use Rattle.dealer_node.specs.Outs.{Told}
use Rattle.dealer_node.specs.declared.fault.NodeFault.{NodeFault}
use Rattle.dealer_node.specs.declared.fault.NodeFault.TheVariants.{OutOfMemory}
use Rattle.dealer_world.specs.declared.event.Event.{Event}
use Rattle.dealer_world.specs.Events.{node_of}
use Rattle.dealer_world.specs.Recordings.{frame_by}
use Rattle.dealer_world.specs.Stepping.{View, Gains, nothing, call, Stepped}

gained_frames : {N : Type 0} (e : Event) (is_up : Bool) (front : ℕ) (told : Told) (old new : View N) (answer : Result (Unit {0}) NodeFault) → (answer ≡ Err OutOfMemory → ⊥)
    → Gains e is_up front told old new answer → length new.all.sent ≡ length old.all.sent + length new.last.frames
gained_frames e is_up front told old new answer finds gains = elim gains [
  | nothing a is all last ↦ absurd (finds is)
  | call a ample all last ↦
      ap (λ r. length r.sent) all ∙ length-append old.all.sent (map (frame_by (node_of e)) told.frames)
      ∙ ap (λ (n : ℕ). length old.all.sent + n) (length-map told.frames (frame_by (node_of e)) ∙ ap (λ t. length t.frames) (sym last))
]

gained_least : {N : Type 0} (e : Event) (is_up : Bool) (front : ℕ) (told : Told) (old new : View N) (answer : Result (Unit {0}) NodeFault)
    → Gains e is_up front told old new answer → length old.all.sent ≤ length new.all.sent
gained_least e is_up front told old new answer gains = elim gains [
  | nothing a is all last ↦ omega (arith, ap (λ r. length r.sent) all)
  | call a ample all last ↦ omega (arith, ap (λ r. length r.sent) all ∙ length-append old.all.sent (map (frame_by (node_of e)) told.frames))
]

-- an event that finds memory adds the frames of its call
pub frames_gained : {D : Type 0} (g : Ghosts D) (old : View (Node D)) (e : Event) (answer : Result (Unit {0}) NodeFault) (new : View (Node D))
    → Stepped g old e answer new → (answer ≡ Err OutOfMemory → ⊥) → length new.all.sent ≡ length old.all.sent + length new.last.frames
frames_gained g old e answer new stepped finds = gained_frames e _ _ stepped.told old new answer finds stepped.gains

-- no event takes frames away
pub frames_stay : {D : Type 0} (g : Ghosts D) (old : View (Node D)) (e : Event) (answer : Result (Unit {0}) NodeFault) (new : View (Node D))
    → Stepped g old e answer new → length old.all.sent ≤ length new.all.sent
frames_stay g old e answer new stepped = gained_least e _ _ stepped.told old new answer stepped.gains
