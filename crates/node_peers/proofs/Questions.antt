-- What a frame asks, and lists of places.
use Rattle.std.proofs.Common.{◌≡◌, ℕ, zero, suc, ◌≤◌, List, [], ◌∷◌, Option, Some, None, set, get_or, length, refl, ap, sym, subst, ◌∙◌, arith}
use Rattle.node_links.specs.declared.owed.Owed.{Owed}
use Rattle.node_links.specs.declared.owed.Question.{Question}
use Rattle.node_links.specs.declared.owed.Subject.{Subject}
use Rattle.node_links.specs.Owing.{asked_by}
use Rattle.node_peers.specs.Asking.{newer_of, marked}

-- what is asked first is what was asked last
pub last_asked : (question : Option Question) → (asked_by question (record { last = None; unanswered = None })).last ≡ question
last_asked None = refl
last_asked (Some question) = refl

-- what is set where no place is changes nothing
pub set_beyond : {A : Type 0} → (xs : List A) (place : ℕ) (x : A) → length xs ≤ place → set xs place x ≡ xs
set_beyond [] place x beyond = refl
set_beyond (y ∷ xs) zero x beyond = absurd (omega (arith, beyond))
set_beyond (y ∷ xs) (suc place) x beyond = ap (λ (m : List _). y ∷ m) (set_beyond xs place x (omega (arith, beyond)))

-- what is put at a peer's place is its newest
pub marked_at : (from : ℕ) (asked : Option Question) (question : Question) (newest : List (Option Subject)) (was : Option Subject) (newer : Subject)
    → asked ≡ Some question → was ≡ get_or newest from None → newer ≡ newer_of was question.subject → set newest from (Some newer) ≡ marked from asked newest
marked_at from asked question newest was newer asks at is =
    ap (λ (s : Subject). set newest from (Some s)) (is ∙ ap (λ (w : Option Subject). newer_of w question.subject) at) ∙ ap (λ (a : Option Question). marked from a newest) (sym asks)

-- of a number without a place none is kept
pub marked_beyond : (from : ℕ) (asked : Option Question) (question : Question) (newest : List (Option Subject)) → asked ≡ Some question → length newest ≤ from → newest ≡ marked from asked newest
marked_beyond from asked question newest asks beyond =
    sym (set_beyond newest from (Some (newer_of (get_or newest from None) question.subject)) beyond) ∙ ap (λ (a : Option Question). marked from a newest) (sym asks)
