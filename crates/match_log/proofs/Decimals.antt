-- Decimals and whole numbers, and texts of several with | between them.
use Rattle.std.proofs.Common.{◌≡◌, ◌≢◌, ℕ, ◌+◌, ◌-◌, ◌*◌, ◌/◌, ◌%◌, ◌<◌, ◌≤◌, Bool, true, false, IsTrue, List, [], ◌∷◌, ◌++◌, length, take, get_or, refl, sym, ap, ◌∙◌, subst, arith, inl, inr}
use Rattle.std.specs.Char.{is_ascii_digit, digit_value}
use Rattle.std.specs.List.{AllByRecursion, list_all}
use Rattle.std.specs.Str.Parse.{digits_value}
use Rattle.std.proofs.lemmas.Bool.{false≢true}
use Rattle.std.proofs.lemmas.Bool.Decides.{nat_tests}
use Rattle.std.proofs.lemmas.List.{append-nil}
use Rattle.std.proofs.lemmas.List.Elements.{All-from_recursion, recursion_from_All}
use Rattle.std.proofs.lemmas.List.Sums.{AllPass-from_list_all, list_all-from_AllPass}
use Rattle.std.proofs.lemmas.Int.Digits.{digits_value_more}
use Rattle.std.proofs.Math.Nat.{add-mul-mod_self_left, div-add-mod}
use Rattle.match_log.specs.Lines.{names_field}
use Rattle.match_log.specs.Numeral.{IsDecimal, IsWhole}
use Rattle.matchstate.specs.Free.{IsFreeOf}
use Rattle.matchstate.proofs.CardTexts.{All-at}

abbrev AreDigits : List ℕ → Type 0
AreDigits text = AllByRecursion (λ byte. is_ascii_digit byte ≡ true) text

-- ---- which bytes can't stand in a number

digits_free : (byte : ℕ) → is_ascii_digit byte ≡ false → (text : List ℕ) → AreDigits text → IsFreeOf byte text
digits_free byte no_digit [] all = tt
digits_free byte no_digit (first ∷ text) all = (λ same. false≢true (sym no_digit ∙ ap is_ascii_digit (sym same) ∙ all.0), digits_free byte no_digit text all.1)

pub decimal_free : (byte : ℕ) → is_ascii_digit byte ≡ false → (text : List ℕ) → IsDecimal text → IsFreeOf byte text
decimal_free byte no_digit text decimal = digits_free byte no_digit text decimal.digits

pub whole_free : (byte : ℕ) → is_ascii_digit byte ≡ false → byte ≢ 45 → (text : List ℕ) → IsWhole text → IsFreeOf byte text
whole_free byte no_digit no_minus text (inl decimal) = digits_free byte no_digit text decimal.digits
whole_free byte no_digit no_minus text (inr negative) =
    subst (IsFreeOf byte) (sym negative.whole) ((λ same. no_minus (sym same)), digits_free byte no_digit negative.digits negative.decimal.digits)

-- ---- a decimal by its tests

pub decimal_by_tests : (bytes : List ℕ) (digits : Bool) → 1 ≤ length bytes → (get_or bytes 0 0 ≡ 48 → length bytes ≡ 1) → digits ≡ list_all is_ascii_digit bytes
    → (IsTrue digits → IsDecimal bytes) × (IsDecimal bytes → IsTrue digits)
decimal_by_tests bytes digits some plain told = (
  λ passed.
      record {
        digits = recursion_from_All (λ byte. is_ascii_digit byte ≡ true) bytes (AllPass-from_list_all is_ascii_digit bytes (sym told ∙ passed));
        some = some;
        plain = plain;
      },
  λ decimal. told ∙ list_all-from_AllPass is_ascii_digit bytes (All-from_recursion (λ byte. is_ascii_digit byte ≡ true) bytes decimal.digits),
)

-- ---- the remainder, digit by digit

digit_range : (byte : ℕ) → is_ascii_digit byte ≡ true → (48 ≤ byte) × (byte ≤ 57)
digit_range byte digit = (grind (arith, nat_tests), grind (arith, nat_tests))

digit_is : (byte : ℕ) → is_ascii_digit byte ≡ true → digit_value byte ≡ byte - 48
digit_is byte digit = let range = digit_range byte digit in let low : 48 ≤ byte = range.0 in let high : byte ≤ 57 = range.1 in grind (arith, nat_tests)

pub remainder_step : (value digit divisor : ℕ) → (value % divisor * 10 + digit) % divisor ≡ (value * 10 + digit) % divisor
remainder_step value digit divisor =
    let parts : divisor * (value / divisor) + value % divisor ≡ value = div-add-mod value divisor in
    let whole : value * 10 + digit ≡ (value % divisor * 10 + digit) + divisor * (value / divisor * 10) = omega (arith, parts) in
    sym (ap (λ n. n % divisor) whole ∙ add-mul-mod_self_left (value % divisor * 10 + digit) divisor (value / divisor * 10))

pub remainder_more : (digits : List ℕ) (place left divisor : ℕ) → place < length digits → AreDigits digits → left ≡ digits_value 10 (take place digits) % divisor
    → (left * 10 + (get_or digits place 0 - 48)) % divisor ≡ digits_value 10 (take (place + 1) digits) % divisor
remainder_more digits place left divisor within all so_far =
    let digit = get_or digits place 0 in
    let value = digits_value 10 (take place digits) in
    ap (λ n. (n * 10 + (digit - 48)) % divisor) so_far
    ∙ remainder_step value (digit - 48) divisor
    ∙ ap (λ d. (value * 10 + d) % divisor) (sym (digit_is digit (All-at (λ byte. is_ascii_digit byte ≡ true) digits place within all)))
    ∙ ap (λ n. n % divisor) (sym (digits_value_more 10 digits place within))

-- ---- whole numbers with | between them

abbrev pub AreValues : ℕ → List ℕ → Type 0
AreValues count bytes = (values : List (List ℕ)) × (length values ≡ count) × AllByRecursion IsWhole values × (bytes ≡ names_field values)

pub one_value : (count : ℕ) (bytes : List ℕ) → count ≡ 1 → IsWhole bytes → AreValues count bytes
one_value count bytes one whole = (bytes ∷ [], sym one, (whole, tt), sym (append-nil bytes))

pub the_one_value : (count : ℕ) (bytes : List ℕ) → count ≡ 1 → AreValues count bytes → IsWhole bytes
the_one_value count bytes one are = by_values are.0 are.1 are.2 are.3
  where
    by_values : (values : List (List ℕ)) → length values ≡ count → AllByRecursion IsWhole values → bytes ≡ names_field values → IsWhole bytes
    by_values [] counted all is = absurd (omega arith)
    by_values (value ∷ []) counted all is = subst IsWhole (sym (is ∙ append-nil value)) all.0
    by_values (value ∷ other ∷ values) counted all is = absurd (omega arith)

pub more_values : (count : ℕ) (bytes first later : List ℕ) → 1 ≤ count → (count ≡ 1 → ⊥) → bytes ≡ first ++ 124 ∷ later → IsWhole first → AreValues (count - 1) later → AreValues count bytes
more_values count bytes first later some several is whole are = by_values are.0 are.1 are.2 are.3
  where
    by_values : (values : List (List ℕ)) → length values ≡ count - 1 → AllByRecursion IsWhole values → later ≡ names_field values → AreValues count bytes
    by_values [] counted all text = absurd (several (omega arith))
    by_values (value ∷ values) counted all text =
        (first ∷ value ∷ values, omega arith, (whole, all), is ∙ ap (λ (t : List ℕ). first ++ 124 ∷ t) text)

-- the first of several values, and the others
pub record FirstValue (count : ℕ) (bytes : List ℕ) : Type 0 where
  pub first : List ℕ
  pub later : List ℕ
  pub whole : IsWhole first
  pub free : IsFreeOf 124 first
  pub is : bytes ≡ first ++ 124 ∷ later
  pub others : AreValues (count - 1) later

pub first_value : (count : ℕ) (bytes : List ℕ) → 1 ≤ count → (count ≡ 1 → ⊥) → AreValues count bytes → FirstValue count bytes
first_value count bytes some several are = by_values are.0 are.1 are.2 are.3
  where
    by_values : (values : List (List ℕ)) → length values ≡ count → AllByRecursion IsWhole values → bytes ≡ names_field values → FirstValue count bytes
    by_values [] counted all text = absurd (omega arith)
    by_values (value ∷ []) counted all text = absurd (several (omega arith))
    by_values (value ∷ other ∷ values) counted all text =
        record {
          first = value;
          later = names_field (other ∷ values);
          whole = all.0;
          free = whole_free 124 refl (omega arith) value all.0;
          is = text;
          others = (other ∷ values, omega arith, all.1, refl);
        }
