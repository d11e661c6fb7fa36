-- Numbers as texts: their bytes, and that these are the texts of numbers.
use Rattle.std.proofs.Common.{◌≡◌, ℕ, ◌+◌, ◌/◌, ◌%◌, ◌^◌, ◌<◌, ◌≤◌, ◌&&◌, Bool, true, false, cond, eqb, leb, ltb, ℤ, pos, negsuc, List, [], ◌∷◌, ◌++◌, length, get_or, zero, suc, refl, sym, ap, subst, arith, inl, inr}
use Rattle.std.specs.List.{AllByRecursion}
use Rattle.std.specs.Prelude.{decimal}
use Rattle.std.specs.Char.{is_ascii_digit}
use Rattle.std.specs.Fmt.{signed_decimal, digits, digits_onto, digit_glyph}
use Rattle.std.specs.Int.Signed.{mag}
use Rattle.std.proofs.lemmas.Bool.Decides.{nat_tests}
use Rattle.std.proofs.lemmas.Fmt.{decimal_by_steps_wide, decimal_digit}
use Rattle.std.proofs.Math.ListN.{length-append}
use Rattle.match_log.specs.Numeral.{IsDecimal, IsWhole}

-- from 0 to 9
abbrev pub IsDigit : ℕ → Type 0
IsDigit byte = (48 ≤ byte) × (byte ≤ 57)

glyph_is_digit : (n : ℕ) → IsDigit (digit_glyph false (n % 10))
glyph_is_digit n = by (ltb (n % 10) 10) refl
  where
    by : (t : Bool) → ltb (n % 10) 10 ≡ t → IsDigit (cond t (48 + n % 10) (87 + n % 10))
    by true e = (omega arith, omega arith)
    by false e = absurd (grind (arith, nat_tests))

either : (b : Bool) (xs ys : List ℕ) → AllByRecursion IsDigit xs → AllByRecursion IsDigit ys → AllByRecursion IsDigit (cond b xs ys)
either true xs ys p q = p
either false xs ys p q = q

onto_digits : (k n : ℕ) (acc : List ℕ) → AllByRecursion IsDigit acc → AllByRecursion IsDigit (digits_onto k 10 false n acc)
onto_digits zero n acc all = all
onto_digits (suc k) n acc all =
    either (eqb (n / 10) 0) (digit_glyph false (n % 10) ∷ acc) (digits_onto k 10 false (n / 10) (digit_glyph false (n % 10) ∷ acc)) (glyph_is_digit n, all)
    (onto_digits k (n / 10) (digit_glyph false (n % 10) ∷ acc) (glyph_is_digit n, all))

pub decimal_digits : (n : ℕ) → AllByRecursion IsDigit (decimal n)
unfolding digits
decimal_digits n = onto_digits 64 n [] tt

-- a digit or a minus sign
abbrev pub IsSignedByte : ℕ → Type 0
IsSignedByte byte = (45 ≤ byte) × (byte ≤ 57)

digits_signed : (bytes : List ℕ) → AllByRecursion IsDigit bytes → AllByRecursion IsSignedByte bytes
digits_signed [] all = tt
digits_signed (byte ∷ bytes) all = let least = all.0.0 in let most = all.0.1 in ((omega arith, omega arith), digits_signed bytes all.1)

pub signed_bytes : (z : ℤ) → AllByRecursion IsSignedByte (signed_decimal z)
signed_bytes (pos n) = digits_signed (decimal n) (decimal_digits n)
signed_bytes (negsuc n) = ((omega arith, omega arith), digits_signed (decimal (suc n)) (decimal_digits (suc n)))

-- ---- the texts of numbers

digit_test : (byte : ℕ) → IsDigit byte → is_ascii_digit byte ≡ true
digit_test byte digit =
    let least : leb 48 byte ≡ true = grind (arith, nat_tests) in
    let most : leb byte 57 ≡ true = grind (arith, nat_tests) in
    rw (least, most) refl

pub digit_from_test : (byte : ℕ) → is_ascii_digit byte ≡ true → IsDigit byte
digit_from_test byte passes = by (leb 48 byte) (leb byte 57) refl refl passes
  where
    by : (a b : Bool) → leb 48 byte ≡ a → leb byte 57 ≡ b → (a && b) ≡ true → IsDigit byte
    by true true p q e = (grind (arith, nat_tests), grind (arith, nat_tests))
    by true false p q e = cc
    by false b p q e = cc

digits_tests : (bytes : List ℕ) → AllByRecursion IsDigit bytes → AllByRecursion (λ byte. is_ascii_digit byte ≡ true) bytes
digits_tests [] all = tt
digits_tests (byte ∷ bytes) all = (digit_test byte all.0, digits_tests bytes all.1)

get_or-front : (xs ys : List ℕ) → 0 < length xs → get_or (xs ++ ys) 0 0 ≡ get_or xs 0 0
get_or-front [] ys some = absurd (omega arith)
get_or-front (x ∷ xs) ys some = refl

-- at least one digit, and none but 0 begins with 0
begins_plain : (n : ℕ) → n < 10 ^ 64 → (0 < length (decimal n)) × (0 < n → 48 < get_or (decimal n) 0 0)
begins_plain =
    decimal_by_steps_wide (λ m ds. (0 < length ds) × (0 < m → 48 < get_or ds 0 0)) (λ m small. (omega arith, λ some. omega arith))
    (λ m ds more before. (
      omega (arith, length-append ds ((48 + m % 10) ∷ [])),
      λ some. omega (arith, get_or-front ds ((48 + m % 10) ∷ []) before.0, before.1 (omega arith)),
    ))

pub decimal_is_decimal : (n : ℕ) → n < 10 ^ 64 → IsDecimal (decimal n)
decimal_is_decimal zero small = record { digits = digits_tests (decimal 0) (decimal_digits 0); some = let begins = begins_plain 0 small in omega (arith, begins.0); plain = λ e. ap length (decimal_digit 0 (omega arith)) }
decimal_is_decimal (suc n) small =
    let begins = begins_plain (suc n) small in
    record {
      digits = digits_tests (decimal (suc n)) (decimal_digits (suc n));
      some = omega (arith, begins.0);
      plain = λ e. absurd (omega (arith, e, begins.1 (omega arith)));
    }

pub signed_is_whole : (z : ℤ) → mag z < 10 ^ 62 → IsWhole (signed_decimal z)
signed_is_whole (pos n) small = inl (decimal_is_decimal n (omega arith))
signed_is_whole (negsuc n) small = inr (record {
  digits = decimal (suc n);
  decimal = decimal_is_decimal (suc n) (omega arith);
  some = λ e. let first : ◌≡◌ {A = ℕ} (get_or (decimal (suc n)) 0 0) 48 = ap (λ (bytes : List ℕ). get_or bytes 0 0) e in omega (arith, first, (begins_plain (suc n) (omega arith)).1 (omega arith));
  whole = refl;
})

-- the bytes of any decimal, and of any whole number
pub decimal_bytes : (text : List ℕ) → IsDecimal text → AllByRecursion IsDigit text
decimal_bytes text is = by text is.digits
  where
    by : (bytes : List ℕ) → AllByRecursion (λ byte. is_ascii_digit byte ≡ true) bytes → AllByRecursion IsDigit bytes
    by [] all = tt
    by (byte ∷ bytes) all = (digit_from_test byte all.0, by bytes all.1)

pub whole_bytes : (text : List ℕ) → IsWhole text → AllByRecursion IsSignedByte text
whole_bytes text (inl is) = digits_signed text (decimal_bytes text is)
whole_bytes text (inr is) = subst (AllByRecursion IsSignedByte) (sym is.whole) ((omega arith, omega arith), digits_signed is.digits (decimal_bytes is.digits is.decimal))
