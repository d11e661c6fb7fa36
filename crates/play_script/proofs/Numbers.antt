-- Numbers of a script as texts of digits.
use Rattle.std.proofs.Common.{◌≡◌, ◌≢◌, ℕ, ◌<◌, ◌^◌, true, ◌&&◌, List, [], ◌∷◌, Result, Ok, refl, ap, ◌∙◌, sym, subst, arith}
use Rattle.std.specs.Char.{is_ascii_digit}
use Rattle.std.specs.List.{list_all}
use Rattle.std.specs.Str.{all_ascii_digits, IsUtf8}
use Rattle.std.specs.Str.Parse.{ParsesUnsigned, AllDigits}
use Rattle.std.proofs.lemmas.Fmt.{IsAscii-from_digits}
use Rattle.std.proofs.lemmas.Str.{IsUtf8-from_ascii}
use Rattle.std.proofs.lemmas.Str.Parse.{parse_gives, digit_from_value}
use Rattle.matchstate.specs.Free.{IsFreeOf}
use Rattle.matchstate.proofs.Words.{decimals_are_numerals}
use Rattle.play_script.specs.Orders.{IsNumber}

listed : (bs : List ℕ) → all_ascii_digits bs ≡ list_all is_ascii_digit bs
listed [] = refl
listed (b ∷ bs) = ap (λ t. is_ascii_digit b && t) (listed bs)

pub digits_listed : (bs : List ℕ) → list_all is_ascii_digit bs ≡ true → all_ascii_digits bs ≡ true
digits_listed bs digits = listed bs ∙ digits

pub number_absent : {E : Type 0} (bs : List ℕ) (r : Result ℕ E) → ParsesUnsigned 64 10 bs r → ((n : ℕ) → ¬ (r ≡ Ok n)) → (n : ℕ) → ¬ (IsNumber bs n)
number_absent bs r parsed none =
    λ n is. none n (parse_gives decimals_are_numerals 64 bs r parsed is.digits is.some (subst (λ (v : ℕ). v < 2 ^ 64) (sym is.value) is.fits) ∙ ap Ok is.value)

pub digits_are_text : (bs : List ℕ) → list_all is_ascii_digit bs ≡ true → IsUtf8 bs
digits_are_text bs digits = IsUtf8-from_ascii bs (IsAscii-from_digits bs (decimals_are_numerals.to bs (digits_listed bs digits)))

-- no space stands among digits
free_of_space : (bs : List ℕ) → AllDigits 10 bs → IsFreeOf 32 bs
free_of_space [] digits = tt
free_of_space (b ∷ bs) digits =
    let range = digit_from_value b digits.0 in
    let apart : b ≢ 32 = omega arith in
    (apart, free_of_space bs digits.1)

pub number_free : (bs : List ℕ) (n : ℕ) → IsNumber bs n → IsFreeOf 32 bs
number_free bs n is = free_of_space bs (decimals_are_numerals.to bs is.digits)
