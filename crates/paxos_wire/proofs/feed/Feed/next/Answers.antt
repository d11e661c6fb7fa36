use Rattle.std.proofs.Common.{◌∙◌, ap, sym, subst, refl, List, ℕ, drop}
use Rattle.byte_queue.specs.Queued.{Queued}
use Rattle.paxos_wire.specs.Stream.{IsInFront, IsFaulty}
use Rattle.paxos_wire.proofs.StreamLaws.{not_partial}
use Rattle.paxos_wire.proofs.feed.Feed.next.Goals as goal

pub returns-in-Some-clause-only : goal.returns-in-Some-clause-only
returns-in-Some-clause-only c =
    let faulty = rw c.in-Some.is at c.self.invariant in
    let waiting_is = ap (λ (f : Queued). f.waiting) c.self.view_is in
    λ m rest fits there. absurd (faulty.none m rest fits (subst (λ (b : List ℕ). IsInFront m b rest) (sym waiting_is) there))

pub returns-in-Some-clause-fault : goal.returns-in-Some-clause-fault
returns-in-Some-clause-fault c =
    let faulty = rw c.in-Some.is at c.self.invariant in
    (subst (λ (b : List ℕ). IsFaulty b c.in-Some.fault) (ap (λ (f : Queued). f.waiting) c.self.view_is) faulty, refl)

pub returns-in_default-frame_in_front-clause-only : goal.returns-in_default-frame_in_front-clause-only
returns-in_default-frame_in_front-clause-only c =
    let waiting = c.waiting.ensures ∙ ap (λ (f : Queued). f.waiting) c.self.view_is in
    λ m rest fits there. absurd (not_partial m c.waiting.result.now rest fits (subst (λ (b : List ℕ). IsInFront m b rest) (sym waiting) there) (c.in_default-frame_in_front.ensures.partial.0 refl))

pub returns-in-Ok-clause-found : goal.returns-in-Ok-clause-found
returns-in-Ok-clause-found c =
    let waiting = c.waiting.ensures ∙ ap (λ (f : Queued). f.waiting) c.self.view_is in
    let behind = c.skip.ensures.waiting ∙ ap (drop c.in-Some-frame_in_front.end) (sym c.waiting.ensures) in
    let found = rw c.in-Ok.is at c.in-Some-frame_in_front.ensures.found in
    let there = subst (λ (r : List ℕ). IsInFront c.in-Ok.message c.waiting.result.now r) (sym behind) found.1 in
    (found.0, subst (λ (b : List ℕ). IsInFront c.in-Ok.message b c.skip.new.self.waiting) waiting there)

pub returns-in-Ok-clause-only : goal.returns-in-Ok-clause-only
returns-in-Ok-clause-only c =
    let waiting = c.waiting.ensures ∙ ap (λ (f : Queued). f.waiting) c.self.view_is in
    λ m rest fits there.
    let only = c.in-Some-frame_in_front.ensures.only m rest fits (subst (λ (b : List ℕ). IsInFront m b rest) (sym waiting) there) in
    (cc (only.0, c.in-Ok.is), c.skip.ensures.waiting ∙ ap (drop c.in-Some-frame_in_front.end) (sym c.waiting.ensures) ∙ only.1)

pub returns-in-Err-clause-fault : goal.returns-in-Err-clause-fault
returns-in-Err-clause-fault c =
    let waiting = c.waiting.ensures ∙ ap (λ (f : Queued). f.waiting) c.self.view_is in
    let faulty = rw c.in-Err.is at c.in-Some-frame_in_front.ensures.fault in
    (subst (λ (b : List ℕ). IsFaulty b c.in-Err.fault) waiting faulty, c.self.view_is)

pub returns-in-Err-clause-only : goal.returns-in-Err-clause-only
returns-in-Err-clause-only c =
    let waiting = c.waiting.ensures ∙ ap (λ (f : Queued). f.waiting) c.self.view_is in
    λ m rest fits there.
    let only = c.in-Some-frame_in_front.ensures.only m rest fits (subst (λ (b : List ℕ). IsInFront m b rest) (sym waiting) there) in
    absurd (cc (only.0, c.in-Err.is))
