-- Times of a match file in milliseconds, and near misses.
use Rattle.std.proofs.Common.{◌≡◌, ℕ, zero, suc, ◌^◌, ◌<◌, pos, negsuc, List, [], length, Some, None, decimal, refl, ap, subst, get_or, arith}
use Rattle.std.specs.Prelude.{codes}
use Rattle.std.specs.Fmt.{digits}
use Rattle.std.proofs.lemmas.Fmt.{decimal_nonempty, first_decimal}
use Rattle.toml.specs.Data.{Data, string, integer, boolean, Members, no_members, member}
use Rattle.matchstate.specs.Free.{IsFreeOf}
use Rattle.matchstate.proofs.Fronts.{stands_within}
use Rattle.match_file.specs.declared.key.Key.TheVariants.{Patience, Start}
use Rattle.match_file.specs.Keys.{key_text}
use Rattle.match_file.specs.Said.{IsAbsent}
use Rattle.match_file.specs.Times.{IsFraction, IsTime, SaysTime}
use Rattle.match_file.proofs.Timing.{no_seconds, no_fraction}

-- a file with one entry
abbrev waits : Data → Members
waits entry = member (key_text Patience) entry no_members

-- ---- none

waited_for_ever : SaysTime Patience no_members None
waited_for_ever = tt

none_of_another_key : SaysTime Start (waits (integer (pos 1))) None
none_of_another_key = tt

not_passed_over : SaysTime Patience (waits (integer (pos 1))) None → ⊥
not_passed_over says = says

-- ---- whole seconds

one_second : SaysTime Patience (waits (integer (pos 1))) (Some 1000)
one_second = record { said = refl; least = omega arith; most = omega arith }

a_day : SaysTime Patience (waits (integer (pos 86400))) (Some 86400000)
a_day = record { said = refl; least = omega arith; most = omega arith }

seconds_are_not_milliseconds : SaysTime Patience (waits (integer (pos 300))) (Some 300) → ⊥
seconds_are_not_milliseconds says = let e : 300 ≡ 300000 = says.said in omega (arith, e)

no_second : IsAbsent (IsTime (integer (pos 0)))
no_second milliseconds is = let e : milliseconds ≡ 0 = is.said in let least = is.least in omega (arith, e, least)

more_than_a_day : IsAbsent (IsTime (integer (pos 86401)))
more_than_a_day milliseconds is = let e : milliseconds ≡ 86401000 = is.said in let most = is.most in omega (arith, e, most)

below_nothing : IsAbsent (IsTime (integer (negsuc 0)))
below_nothing milliseconds is = is.said

no_flag : (flag : _) → IsAbsent (IsTime (boolean flag))
no_flag flag milliseconds is = is.said

-- ---- seconds with a point

least : IsTime (string (codes "0.1")) 100
unfolding digits
least = record {
  said = record {
    seconds = 0;
    digits = codes "1";
    thousandths = 100;
    form = refl;
    fraction = record { are_digits = refl; least = omega arith; most = omega arith; value = refl };
    value = refl;
  };
  least = omega arith;
  most = omega arith;
}

two_digits : IsTime (string (codes "12.05")) 12050
unfolding digits
two_digits = record {
  said = record {
    seconds = 12;
    digits = codes "05";
    thousandths = 50;
    form = refl;
    fraction = record { are_digits = refl; least = omega arith; most = omega arith; value = refl };
    value = refl;
  };
  least = omega arith;
  most = omega arith;
}

three_digits : IsTime (string (codes "0.999")) 999
unfolding digits
three_digits = record {
  said = record {
    seconds = 0;
    digits = codes "999";
    thousandths = 999;
    form = refl;
    fraction = record { are_digits = refl; least = omega arith; most = omega arith; value = refl };
    value = refl;
  };
  least = omega arith;
  most = omega arith;
}

greatest : IsTime (string (codes "86400.000")) 86400000
unfolding digits
greatest = record {
  said = record {
    seconds = 86400;
    digits = codes "000";
    thousandths = 0;
    form = refl;
    fraction = record { are_digits = refl; least = omega arith; most = omega arith; value = refl };
    value = refl;
  };
  least = omega arith;
  most = omega arith;
}

-- a tenth isn't a thousandth
tenths_are_not_thousandths : IsFraction (codes "5") 5 → ⊥
tenths_are_not_thousandths is = let e : 50 ≡ 5000 = is.value in omega (arith, e)

-- ---- near misses

abbrev zero_free : IsFreeOf 46 (codes "0")
zero_free = (λ same. omega (arith, same), tt)

four_digits : IsAbsent (IsTime (string (codes "0.1234")))
four_digits = no_fraction (codes "0.1234") (codes "0") (codes "1234") refl zero_free (λ thousandths is. let most = is.most in omega (arith, most))

no_digit : IsAbsent (IsTime (string (codes "0.")))
no_digit = no_fraction (codes "0.") (codes "0") [] refl zero_free (λ thousandths is. let least = is.least in omega (arith, least))

no_letter : IsAbsent (IsTime (string (codes "0.5s")))
no_letter = no_fraction (codes "0.5s") (codes "0") (codes "5s") refl zero_free (λ thousandths is. let e = is.are_digits in cc)

two_points : IsAbsent (IsTime (string (codes "0.5.5")))
two_points = no_fraction (codes "0.5.5") (codes "0") (codes "5.5") refl zero_free (λ thousandths is. let e = is.are_digits in cc)

-- whole seconds are no text
no_point : IsAbsent (IsTime (string (codes "30")))
no_point milliseconds is =
    stands_within 46 (decimal is.said.seconds) is.said.digits (subst (IsFreeOf 46) is.said.form (λ same. omega (arith, same), (λ same. omega (arith, same), tt)))

nothing_before_the_point : IsAbsent (IsTime (string (codes ".5")))
nothing_before_the_point =
    no_seconds (codes ".5") [] (codes "5") refl tt None
    (λ number within is. let some : 0 < length (decimal number) = decimal_nonempty number (omega (arith, within)) in let none : 0 ≡ length (decimal number) = ap length is in absurd (omega (arith, some, none))) refl

zero_in_front : (number : ℕ) → number < 2 ^ 32 → codes "01" ≡ decimal number → ⊥
unfolding digits
zero_in_front zero within is = let e : 2 ≡ 1 = ap length is in omega (arith, e)
zero_in_front (suc number) within is =
    let first : 48 < get_or (decimal (suc number)) 0 0 = first_decimal (suc number) (omega arith) (omega (arith, within)) in
    let same : 48 ≡ get_or (decimal (suc number)) 0 0 = ap (λ (text : List ℕ). get_or text 0 0) is in
    omega (arith, first, same)

no_zero_in_front : IsAbsent (IsTime (string (codes "01.5")))
no_zero_in_front =
    no_seconds (codes "01.5") (codes "01") (codes "5") refl (λ same. omega (arith, same), (λ same. omega (arith, same), tt)) None (λ number within is. absurd (zero_in_front number within is)) refl
