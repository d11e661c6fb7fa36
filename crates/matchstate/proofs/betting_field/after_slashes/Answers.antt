use Rattle.std.proofs.Common.{◌≡◌, ℕ, zero, suc, ◌≤◌, [], ◌∷◌, ◌++◌, take, replicate, refl, ap, ◌∙◌, sym, arith}
use Rattle.std.proofs.lemmas.Slice.Eq.{strip_prefix_is}
use Rattle.std.proofs.lemmas.Bool.Decides.{Decides-eqb}
use Rattle.matchstate.proofs.Stripped.{stands, stood}
use Rattle.matchstate.proofs.betting_field.after_slashes.Goals as goal

slashes : (count : ℕ) → count ≤ 3 → take {A = ℕ} count (47 ∷ 47 ∷ 47 ∷ []) ≡ replicate count 47
slashes zero few = refl
slashes (suc zero) few = refl
slashes (suc (suc zero)) few = refl
slashes (suc (suc (suc zero))) few = refl
slashes (suc (suc (suc (suc count)))) few = absurd (omega arith)

pub returns-clause-only : goal.returns-clause-only
returns-clause-only c =
    λ behind is.
    stands c.strip_prefix.result c.args.bytes.now (take {A = ℕ} c.args.count (47 ∷ 47 ∷ 47 ∷ [])) behind
    (strip_prefix_is Decides-eqb c.args.bytes.now _ c.strip_prefix.result c.strip_prefix.ensures.cases)
    (is ∙ ap (λ s. s ++ behind) (sym (slashes c.args.count c.requires)))

pub returns-clause-found : goal.returns-clause-found
returns-clause-found c =
    stood c.strip_prefix.result c.args.bytes.now (take {A = ℕ} c.args.count (47 ∷ 47 ∷ 47 ∷ [])) (replicate c.args.count 47)
    (strip_prefix_is Decides-eqb c.args.bytes.now _ c.strip_prefix.result c.strip_prefix.ensures.cases)
    (slashes c.args.count c.requires)
