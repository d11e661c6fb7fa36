use Rattle.std.proofs.Common.{ℕ, refl, subst, rules}
use Rattle.std.proofs.lemmas.Option.{same_Some}
use Rattle.dealer_world.specs.Promise.{IsForMatch}
use Rattle.dealer_world.specs.Stepping.{View}
use Rattle.dealer_world.specs.Viewing.{view_of}
use Rattle.dealer_world.specs.declared.event.Event.{Event}
use Rattle.dealer_world.specs.declared.event.Event.TheVariants as event
use Rattle.serving.specs.declared.due.Due.TheVariants.{Await}
use Rattle.serving.specs.declared.waiting.Waiting.{Waiting}
use Rattle.serving.specs.Turning.{IsForDue, IsWaiting, MayFail}
use Rattle.serving.proofs.Outside.{may_fail}
use Rattle.serving.proofs.taking.accept_of.Goals as goal

-- what comes of a seat that is awaited is of the match where its drop is
of_match_too : {N : Type 0} (view : View N) (seat node : ℕ) (e : Event) → IsForDue (Await seat node) 0 0 e → IsForMatch view.config (event.Drop node seat)
    → IsWaiting view (record { event = e; number = 0; seat = 0 })
of_match_too view seat node (event.Connect i s) (at, of) dropped = (rw (at, of) dropped, tt)
of_match_too view seat node (event.Drop i s) (at, of) dropped = (rw (at, of) dropped, tt)
of_match_too view seat node (event.Frame from to bytes) due dropped = absurd due
of_match_too view seat node (event.Tick i) due dropped = absurd due
of_match_too view seat node (event.Away i) due dropped = absurd due
of_match_too view seat node (event.Line i s bytes) due dropped = absurd due
of_match_too view seat node (event.Stop i pick) due dropped = absurd due
of_match_too view seat node (event.Start i) due dropped = absurd due

pub returns-in-Some-clause-waiting : goal.returns-in-Some-clause-waiting
returns-in-Some-clause-waiting g c = λ w is.
    let view = view_of c.args.cluster.now in
    let e = c.in-Some.event in
    let drop : Waiting = record { event = event.Drop c.args.node c.args.seat; number = 0; seat = 0 } in
    let dropped : IsForMatch view.config drop.event = (rw c.in_ok-checked.ensures.event at c.in_ok-checked.ensures.waiting drop refl).0 in
    let due : IsForDue (Await c.args.seat c.args.node) 0 0 e = search rules in
    subst (IsWaiting view) (same_Some _ _ is) (of_match_too view c.args.seat c.args.node e due dropped)

pub returns-in_err-checked-clause-fault : goal.returns-in_err-checked-clause-fault
returns-in_err-checked-clause-fault g c =
    let what = Await c.args.seat c.args.node in
    let plan = (view_of c.args.cluster.now).config in
    let fails : MayFail plan what c.in_err-checked.field-0.0 = may_fail plan what _ (c.in_err-checked.ensures.fault what (refl, refl)) in
    search rules
