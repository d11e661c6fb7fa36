use Rattle.std.proofs.Common.{◌≡◌, refl, ℕ, Bool, true, false, not, IsSome, List, ◌∷◌, ◌++◌, option_map, Option, Some, None, Bor, ap, sym, subst, ◌∙◌}
use Rattle.std.proofs.lemmas.Slice.Eq.{slice_eq-Decides}
use Rattle.std.proofs.lemmas.Bool.Decides.{Decides-eqb}
use Rattle.game_def.specs.Game.{Game}
use Rattle.seat_relay.specs.Mending.{IsToAnswer, IsMendedAnswer}
use Rattle.relay_runs.proofs.saying.meant_by.Goals.{in_default-2-via-in-Some-2+else-ne, in_default-2-via-in_default-2}
use Rattle.relay_runs.proofs.Lines.{some_of}
use Rattle.relay_runs.proofs.saying.meant_by.Goals as goal

pub returns-in-Some-2-clause-some : goal.returns-in-Some-2-clause-some
returns-in-Some-2-clause-some c = record { game = c.in-Some-Some.game; by_it = c.in-Some-Some.is-0; line = c.in-Some-Some.last.now; field = c.in-Some.field.now; answer = c.in-Some.ensures.found; instead = some_of _ _ _ c.in-Some-2.is c.in_ok-answer.ensures.mended }

same_some : {A : Type 0} (x y : A) → Some x ≡ Some y → x ≡ y
same_some x y e = cc

unless_not : (t : Bool) → not t ≡ false → t ≡ true
unless_not true e = refl
unless_not false e = absurd cc

no_some : {A : Type 0} (o : Option A) → o ≡ None → IsSome o → ⊥
no_some None e is = cc
no_some (Some x) e is = cc

pub returns-in_default-2-clause-none : goal.returns-in_default-2-clause-none
returns-in_default-2-clause-none c = λ none game line field other by_it given whole is.
    let same_game : c.in-Some-Some.game ≡ game = same_some _ _ (sym c.in-Some-Some.is-0 ∙ by_it) in
    let same_line : c.in-Some-Some.last.now ≡ line = same_some _ _ (sym (ap (option_map (λ (l : Bor (List ℕ)). l.now)) c.in-Some-Some.is-1) ∙ given) in
    let own : c.in-Some.field.now ≡ field = c.in-Some.ensures.only field (whole ∙ ap (λ (l : List ℕ). l ++ 58 ∷ field) (sym same_line)) in
    let to_answer : IsToAnswer c.in-Some-Some.game c.in-Some-Some.last.now is.past =
    subst (λ (g : Game). IsToAnswer g c.in-Some-Some.last.now is.past) (sym same_game) (subst (λ (l : List ℕ). IsToAnswer game l is.past) (sym same_line) is.to_answer) in
    elim c.in_default-2.branch [
      | in_default-2-via-in-Some-2+else-ne w ↦
          subst (λ (g : Game). IsMendedAnswer g line field c.args.text.now) same_game
          (subst (λ (l : List ℕ). IsMendedAnswer c.in-Some-Some.game l field c.args.text.now) same_line
          (subst (λ (f : List ℕ). IsMendedAnswer c.in-Some-Some.game c.in-Some-Some.last.now f c.args.text.now) own
          (subst (λ (t : List ℕ). IsMendedAnswer c.in-Some-Some.game c.in-Some-Some.last.now c.in-Some.field.now t)
          (sym w.as_slice.ensures.value ∙ (slice_eq-Decides Decides-eqb w.as_slice.result.now c.args.text.now _ refl).0 (unless_not _ (sym w.ne.ensures ∙ w.if-ne.false)))
          (some_of _ _ _ w.in-Some-2.is c.in_ok-answer.ensures.mended))))
      | in_default-2-via-in_default-2 w ↦ absurd (no_some _ w.in_default-2.is (c.in_ok-answer.ensures.only is.past to_answer))
    ]
