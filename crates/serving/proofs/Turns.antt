-- A turn as a whole: what its steps made is what it did.
use Rattle.std.proofs.Common.{◌≡◌, ◌≤◌, ℕ, Bool, true, List, [], ◌++◌, length, Option, Some, None, Result, Err, refl, ap, sym, subst, arith, ◌∙◌}
use Rattle.std.proofs.lemmas.Result.{on_ok_weaker}
use Rattle.std.proofs.lemmas.List.{append_assoc, append-nil, length-append}
use Rattle.promise_store.specs.declared.disk.Disk.{Ghosts}
use Rattle.match_links.specs.Passages.{Passage}
use Rattle.dealer_node.specs.Nodes.{Node}
use Rattle.dealer_node.specs.Outs.{Told}
use Rattle.dealer_node.specs.Seeing.{runs, front_in}
use Rattle.dealer_node.specs.declared.fault.NodeFault.{NodeFault}
use Rattle.dealer_world.specs.declared.event.Event.{Event}
use Rattle.dealer_world.specs.Records.{Record}
use Rattle.dealer_world.specs.Stepping.{View, Stepped, Gains, nothing, call}
use Rattle.serving.specs.declared.progress.Progress.{Progress}
use Rattle.serving.specs.declared.waiting.Waiting.{Waiting}
use Rattle.serving.specs.declared.waiting.Taking.TheVariants.{Gives, Waits as NotYet, Over as AllOver}
use Rattle.serving.specs.declared.turn.Turn.{Turn}
use Rattle.serving.specs.declared.turn.Turn.TheVariants as turn
use Rattle.serving.specs.declared.serve_fault.ServeFault.{ServeFault}
use Rattle.serving.specs.Dues.{IsNext, TakesNext, SentNothing}
use Rattle.serving.specs.Served.{Served}
use Rattle.dealer_node.specs.declared.fault.NodeFault.TheVariants as fault
use Rattle.dealer_world.specs.Events.{node_of}
use Rattle.serving.specs.Giving.{Gives as GivesPieces, taken, to_give}
use Rattle.serving.specs.Going.{IsKept, OnlyLeave, piece_after}
use Rattle.serving.specs.Placed.{places_in}
use Rattle.serving.specs.Turned.{Went, Gave, Ends, Mends, Passes}
use Rattle.serving.specs.Turning.{IsWaiting}
use Rattle.serving.proofs.Giving.{gives_none}

abbrev made : {N : Type 0} → View N → Progress → Option Waiting → List Passage → ℕ → ℕ → Option NodeFault → List ℕ → Served N
made view progress waiting passed shown called refused piece = record {
  view = view;
  progress = progress;
  waiting = waiting;
  passed = passed;
  shown = shown;
  called = called;
  refused = refused;
  piece = piece;
}

-- a server is all that is seen of it
pub same_served : {N : Type 0} (a b : Served N) → a.view ≡ b.view → a.progress ≡ b.progress → a.waiting ≡ b.waiting → a.passed ≡ b.passed → a.shown ≡ b.shown
    → a.called ≡ b.called → a.refused ≡ b.refused → a.piece ≡ b.piece → a ≡ b
same_served {N} a b view progress waiting passed shown called refused piece =
    ap (λ (v : View N). made v a.progress a.waiting a.passed a.shown a.called a.refused a.piece) view
    ∙ ap (λ (n : Progress). made b.view n a.waiting a.passed a.shown a.called a.refused a.piece) progress
    ∙ ap (λ (w : Option Waiting). made b.view b.progress w a.passed a.shown a.called a.refused a.piece) waiting
    ∙ ap (λ (p : List Passage). made b.view b.progress b.waiting p a.shown a.called a.refused a.piece) passed
    ∙ ap (λ (k : ℕ). made b.view b.progress b.waiting b.passed k a.called a.refused a.piece) shown
    ∙ ap (λ (i : ℕ). made b.view b.progress b.waiting b.passed b.shown i a.refused a.piece) called
    ∙ ap (λ (f : Option NodeFault). made b.view b.progress b.waiting b.passed b.shown b.called f a.piece) refused
    ∙ ap (made b.view b.progress b.waiting b.passed b.shown b.called b.refused) piece

-- the event that was taken is the next one
pub gives_the_next : {D : Type 0} (g : Ghosts D) (view : View (Node D)) (progress : Progress) (waiting : Option Waiting) (w : Waiting)
    → TakesNext g view progress waiting (Gives w) → IsNext g view progress waiting (Some w)
gives_the_next g view progress None w takes = takes
gives_the_next g view progress (Some before) w takes = cc

-- where all is over nothing is next
pub over_is_next : {D : Type 0} (g : Ghosts D) (view : View (Node D)) (progress : Progress) (waiting : Option Waiting) → TakesNext g view progress waiting AllOver
    → IsNext g view progress waiting None
over_is_next g view progress None takes = takes
over_is_next g view progress (Some before) takes = cc

-- a seat sends nothing only where no event waits
pub sent_nothing : {D : Type 0} (g : Ghosts D) (view : View (Node D)) (progress : Progress) (waiting : Option Waiting) (seat node : ℕ)
    → TakesNext g view progress waiting (NotYet seat node) → SentNothing g view progress waiting (turn.Waits seat node)
sent_nothing g view progress None seat node (what, is_due, slow) = record { free = refl; what = what; is_due = is_due; slow = slow }
sent_nothing g view progress (Some before) seat node takes = cc

-- nothing is next only where nothing waits
pub none_waits : {D : Type 0} (g : Ghosts D) (view : View (Node D)) (progress : Progress) (waiting : Option Waiting) → IsNext g view progress waiting None → waiting ≡ None
none_waits g view progress None next = refl
none_waits g view progress (Some w) next = cc

-- what was taken before, and what was given then
abbrev pub passes_from : {N : Type 0} (took : List Passage) (between old new : Served N) → between.shown ≡ old.shown → between.passed ≡ old.passed ++ took
    → Passes [] between new → Passes took old new
passes_from took between old new shown passed passes = record {
  given = passes.given;
  passed = passes.passed ∙ ap (λ (ps : List Passage). ps ++ passes.given) passed ∙ append_assoc old.passed took passes.given;
  gives = subst (λ (k : ℕ). GivesPieces (places_in new.progress.places) new.view.all.shown k new.shown passes.given) shown passes.gives;
}

-- nothing passed
pub passes_none : {N : Type 0} (old new : Served N) → new.passed ≡ old.passed → new.shown ≡ old.shown → new.shown ≤ length new.view.all.shown → Passes [] old new
passes_none old new passed shown within = record {
  given = [];
  passed = passed ∙ sym (append-nil old.passed);
  gives = subst (λ (k : ℕ). GivesPieces (places_in new.progress.places) new.view.all.shown k new.shown []) shown
      (gives_none (places_in new.progress.places) new.view.all.shown new.shown within);
}

-- a record only grows
no_shorter : {A : Type 0} (n : ℕ) (xs ys : List A) → n ≤ length xs → n ≤ length (xs ++ ys)
no_shorter n xs ys within = omega (arith, within, length-append xs ys)

grows : {N : Type 0} (n : ℕ) (e : Event) (up : Bool) (front : ℕ) (told : Told) (old new : View N) (answer : Result (Unit {0}) NodeFault) → Gains e up front told old new answer
    → n ≤ length old.all.shown → n ≤ length new.all.shown
grows n e up front told old new answer (nothing a is same last) within = subst (λ (all : Record). n ≤ length all.shown) (sym same) within
grows n e up front told old new answer (call a ample more last) within =
    subst (λ (all : Record). n ≤ length all.shown) (sym more) (no_shorter n old.all.shown _ within)

pub still_within : {D : Type 0} (g : Ghosts D) (n : ℕ) (old new : View (Node D)) (e : Event) (answer : Result (Unit {0}) NodeFault) → Stepped g old e answer new
    → n ≤ length old.all.shown → n ≤ length new.all.shown
still_within g n old new e answer stepped = grows n e (runs stepped.before) (front_in stepped.before) stepped.told old new answer stepped.gains

-- what waited is none of what an event changes
pub gave_from : {D : Type 0} (g : Ghosts D) (w : Waiting) (took : List Passage) (between old : Served (Node D)) (answer : Result Turn ServeFault) (new : Served (Node D))
    → between.view ≡ old.view → between.progress ≡ old.progress → between.shown ≡ old.shown → between.piece ≡ old.piece → between.passed ≡ old.passed ++ took
    → Gave g w [] between answer new → Gave g w took old answer new
gave_from {D} g w took between old answer new view progress shown piece passed gave = record {
  called = gave.called;
  of_match = subst (λ (v : View (Node D)). IsWaiting v w) view gave.of_match;
  stepped = subst (λ (v : View (Node D)). Stepped g v w.event gave.called new.view) view gave.stepped;
  tells = gave.tells;
  again = λ none. let all = gave.again none in (all.0, all.1 ∙ progress, all.2 ∙ piece);
  given = gave.given;
  passes = passes_from took between old new shown passed gave.passes;
  went = on_ok_weaker answer (λ went. subst (λ (k : ℕ). Went g new.view w gave.called (to_give new.view.all.shown k new.shown) gave.passes.given old.progress new.progress) shown
      (subst (λ (n : Progress). Went g new.view w gave.called (to_give new.view.all.shown between.shown new.shown) gave.passes.given n new.progress) progress went)) gave.went;
  all_given = gave.all_given;
  refused = gave.refused;
  named = gave.named;
  piece = λ ample. gave.piece ample ∙ ap (piece_after w.event) piece;
}

as_it_was : (lines given : List Passage) (old mended new : Progress) → mended ≡ old → IsKept mended new → OnlyLeave lines given (places_in mended.places) (places_in new.places)
    → IsKept old new × OnlyLeave lines given (places_in old.places) (places_in new.places)
as_it_was lines given old mended new same kept leave = subst (λ (p : Progress). IsKept p new × OnlyLeave lines given (places_in p.places) (places_in new.places)) same (kept, leave)

-- a fault that was mended, and what was shown behind it
pub mended_ends : (why : NodeFault) (w : Waiting) (lines given : List Passage) (old mended new : Progress) → Mends why (node_of w.event) old true mended → IsKept mended new
    → OnlyLeave lines given (places_in mended.places) (places_in new.places) → Ends (Err why) w lines given old new
mended_ends (fault.Store why) w lines given old mended new asks kept leave = (mended, asks, kept, leave)
mended_ends fault.Down w lines given old mended new (goes, same) kept leave = as_it_was lines given old mended new same kept leave
mended_ends fault.OutOfMemory w lines given old mended new (goes, same) kept leave = as_it_was lines given old mended new same kept leave
mended_ends fault.Spent w lines given old mended new (goes, same) kept leave = as_it_was lines given old mended new same kept leave
mended_ends (fault.BadFrame bytes) w lines given old mended new (goes, same) kept leave = as_it_was lines given old mended new same kept leave
mended_ends fault.Conflict w lines given old mended new (goes, same) kept leave = as_it_was lines given old mended new same kept leave
mended_ends fault.NothingToAct w lines given old mended new (goes, same) kept leave = as_it_was lines given old mended new same kept leave

-- where there is no event nothing is taken
pub taken_nothing : (waiting : Option Waiting) → taken waiting None ≡ []
taken_nothing None = refl
taken_nothing (Some w) = refl
