-- The commands that the front has passed are all applied, behind those before them.
use Rattle.std.proofs.Common.{◌≡◌, List, [], ◌∷◌, ◌++◌, Option, refl, sym, ap, ◌∙◌, length, drop, reverse, append_assoc}
use Rattle.std.proofs.lemmas.List.{reverse-append, reverse-reverse, length-reverse}
use Rattle.slot_log.specs.Slots.{Log, front}
use Rattle.slot_log.specs.declared.command.Command.{Command}
use Rattle.seat_session.specs.Session.{Standing as Talk}
use Rattle.dealer_kind.specs.Kind.{Setting}
use Rattle.node_rules.specs.Applying.{Scene, taking, taking_all, passed}

pub all_applied : (setting : Setting) (talks : List (Option Talk)) (cs : List Command) (scene : Scene)
    → (taking_all setting talks cs scene).applied ≡ reverse cs ++ scene.applied
unfolding taking_all
all_applied setting talks [] scene = refl
all_applied setting talks (c ∷ cs) scene =
    all_applied setting talks cs (taking setting talks c scene)
    ∙ (sym (append_assoc (reverse cs) (c ∷ []) scene.applied) ∙ ap (λ (l : List Command). l ++ scene.applied) (sym (reverse-append (c ∷ []) cs)))

drop_front : {A : Type 0} (xs ys : List A) → drop (length ys) (ys ++ xs) ≡ xs
drop_front xs [] = refl
drop_front xs (y ∷ ys) = drop_front xs ys

-- the commands that the front has passed, behind those before it, are all
pub passed_all : (old new : Log) (later : List Command) → new.below ≡ later ++ old.below → reverse (passed old new) ++ old.below ≡ new.below
passed_all old new later e =
    let turned : reverse new.below ≡ reverse old.below ++ reverse later = ap reverse e ∙ reverse-append later old.below in
    let rest : passed old new ≡ reverse later = ap (drop (front old)) turned ∙ (ap (λ k. drop k (reverse old.below ++ reverse later)) (sym (length-reverse old.below)) ∙ drop_front (reverse later) (reverse old.below)) in
    ap (λ (l : List Command). reverse l ++ old.below) rest ∙ (ap (λ (l : List Command). l ++ old.below) (reverse-reverse later) ∙ sym e)
