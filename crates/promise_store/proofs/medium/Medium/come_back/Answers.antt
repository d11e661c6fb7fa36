use Rattle.std.proofs.lemmas.Grind.{common_steps}
use Rattle.std.proofs.Common.{◌≡◌, ◌∷◌, ℕ, List, sym, subst, rules, arith}
use Rattle.promise_store.specs.Calls.{Event, stopped, events, contents, IsImage}
use Rattle.promise_store.proofs.Calls.{stop_leaves, only_stopped}
use Rattle.promise_store.proofs.medium.Medium.come_back.Goals as goal

pub returns-clause-left : goal.returns-clause-left
returns-clause-left c =
    let calls = c.args.self.now.calls.items in
    let step : events c.note.new.calls.items ≡ stopped c.args.pick ∷ events calls = search rules in
    subst (λ (l : List Event). IsImage (contents (events calls)) (contents l).seen) (sym step) (stop_leaves (events calls) c.args.pick)

pub returns-clause-crash : goal.returns-clause-crash
returns-clause-crash c =
    let calls = c.args.self.now.calls.items in
    let step : events c.note.new.calls.items ≡ stopped c.args.pick ∷ events calls = search rules in
    subst (λ (l : List Event). (image : List ℕ) → IsImage (contents l) image → IsImage (contents (events calls)) image) (sym step) (only_stopped (events calls) c.args.pick)

pub invariant_of-self-2 : goal.invariant_of-self-2
invariant_of-self-2 c = grind (arith, common_steps)
