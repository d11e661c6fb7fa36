-- Where a test tells of each two actions whether they are equal, it tells so of lists.
use Rattle.std.proofs.Common.{◌≡◌, ℕ, Bool, true, eqb, List, sym, ap, ◌∙◌, arith}
use Rattle.std.proofs.lemmas.Bool.Decides.{nat_tests}
use lib.Pointwise.{pointwise, pointwise_decides}
use Rattle.betting.specs.declared.action.Action.{Action}
use Rattle.betting.specs.declared.action.Action.TheVariants.{Fold, Call, Raise}

abbrev pub Decided : (Action → Action → Bool) → Action → Action → Type 0
Decided eq x y = (eq x y ≡ true → x ≡ y) × (x ≡ y → eq x y ≡ true)

-- case by case
pub record Decides (eq : Action → Action → Bool) : Type 0 where
  pub folds : Decided eq Fold Fold
  pub fold_call : Decided eq Fold Call
  pub fold_raise : (amount : ℕ) → Decided eq Fold (Raise amount)
  pub call_fold : Decided eq Call Fold
  pub calls : Decided eq Call Call
  pub call_raise : (amount : ℕ) → Decided eq Call (Raise amount)
  pub raise_fold : (amount : ℕ) → Decided eq (Raise amount) Fold
  pub raise_call : (amount : ℕ) → Decided eq (Raise amount) Call
  pub raises : (amount other : ℕ) → Decided eq (Raise amount) (Raise other)

each_two : (eq : Action → Action → Bool) → Decides eq → (x y : Action) → Decided eq x y
each_two eq of Fold Fold = of.folds
each_two eq of Fold Call = of.fold_call
each_two eq of Fold (Raise amount) = of.fold_raise amount
each_two eq of Call Fold = of.call_fold
each_two eq of Call Call = of.calls
each_two eq of Call (Raise amount) = of.call_raise amount
each_two eq of (Raise amount) Fold = of.raise_fold amount
each_two eq of (Raise amount) Call = of.raise_call amount
each_two eq of (Raise amount) (Raise other) = of.raises amount other

pub raises_decided : (amount other : ℕ) → (eqb amount other ≡ true → Raise amount ≡ Raise other) × (Raise amount ≡ Raise other → eqb amount other ≡ true)
raises_decided amount other = (
  λ e. let same : amount ≡ other = grind (arith, nat_tests) in ap Raise same,
  λ e. let same : amount ≡ other = cc in grind (arith, nat_tests),
)

pub same_actions : (eq : Action → Action → Bool) (result : Bool) (xs ys : List Action) → result ≡ pointwise eq xs ys → Decides eq → (result ≡ true → xs ≡ ys) × (xs ≡ ys → result ≡ true)
same_actions eq result xs ys is decides =
    let told = pointwise_decides (each_two eq decides) xs ys in
    (λ passed. told.0 (sym is ∙ passed), λ same. is ∙ told.1 same)
