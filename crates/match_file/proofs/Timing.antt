-- Texts that say no time, and those that say one time alone.
use Rattle.std.proofs.Common.{◌≡◌, ℕ, ◌+◌, ◌*◌, ◌^◌, ◌<◌, List, [], ◌∷◌, ◌++◌, Option, Some, None, decimal, refl, sym, ◌∙◌, subst, arith}
use Rattle.toml.specs.Data.{string}
use Rattle.matchstate.specs.Free.{IsFreeOf}
use Rattle.matchstate.proofs.Fronts.{cut_alike}
use Rattle.match_log.proofs.Free.{decimal_text_free}
use Rattle.match_file.specs.Said.{IsAbsent}
use Rattle.match_file.specs.Times.{IsFraction, IsPointed, IsTime}

-- digits are one fraction
pub same_fraction : (digits : List ℕ) (a b : ℕ) → IsFraction digits a → IsFraction digits b → a ≡ b
same_fraction [] a b left right = absurd (omega (arith, left.least))
same_fraction (d ∷ []) a b left right = let both : a * 10 ≡ b * 10 = left.value ∙ sym right.value in omega (arith, both)
same_fraction (d ∷ e ∷ []) a b left right = let both : a * 100 ≡ b * 100 = left.value ∙ sym right.value in omega (arith, both)
same_fraction (d ∷ e ∷ f ∷ []) a b left right = let both : a * 1000 ≡ b * 1000 = left.value ∙ sym right.value in omega (arith, both)
same_fraction (d ∷ e ∷ f ∷ g ∷ more) a b left right = absurd (omega (arith, left.most))

module _ (text front digits : List ℕ) (cut : text ≡ front ++ 46 ∷ digits) (free : IsFreeOf 46 front) where
  -- the seconds stand before the first point, and the fraction behind it
  parts : (milliseconds : ℕ) (is : IsPointed text milliseconds) → (decimal is.seconds ≡ front) × (is.digits ≡ digits)
  parts milliseconds is = cut_alike 46 (decimal is.seconds) front is.digits digits (decimal_text_free 46 refl is.seconds) free (sym is.form ∙ cut)

  module _ (read : Option ℕ) (only : (number : ℕ) → number < 2 ^ 32 → front ≡ decimal number → read ≡ Some number) where
    seconds_read : (milliseconds : ℕ) (is : IsTime (string text) milliseconds) → read ≡ Some is.said.seconds
    seconds_read milliseconds is =
        let value = is.said.value in
        let most = is.most in
        only is.said.seconds (omega (arith, value, most)) (sym (parts milliseconds is.said).0)

    pub no_seconds : read ≡ None → IsAbsent (IsTime (string text))
    no_seconds none = λ milliseconds is. let clash : None ≡ Some is.said.seconds = sym none ∙ seconds_read milliseconds is in cc

    pub one_time : (seconds thousandths : ℕ) → read ≡ Some seconds → IsFraction digits thousandths → (milliseconds : ℕ) → IsTime (string text) milliseconds
        → milliseconds ≡ seconds * 1000 + thousandths
    one_time seconds thousandths found fraction milliseconds is =
        let both : Some seconds ≡ Some is.said.seconds = sym found ∙ seconds_read milliseconds is in
        let same : seconds ≡ is.said.seconds = cc in
        let behind : IsFraction digits is.said.thousandths = subst (λ (d : List ℕ). IsFraction d is.said.thousandths) (parts milliseconds is.said).1 is.said.fraction in
        let equal : is.said.thousandths ≡ thousandths = same_fraction digits is.said.thousandths thousandths behind fraction in
        let value = is.said.value in
        omega (arith, value, same, equal)

  pub no_fraction : IsAbsent (IsFraction digits) → IsAbsent (IsTime (string text))
  no_fraction none =
      λ milliseconds is. absurd (none is.said.thousandths (subst (λ (d : List ℕ). IsFraction d is.said.thousandths) (parts milliseconds is.said).1 is.said.fraction))
