-- Worked examples of the definitions: each holds where it should, and a near miss doesn't meet it.
use Rattle.std.proofs.Common.{◌≡◌, ◌≢◌, ℕ, ◌<◌, List, [], ◌∷◌, ◌++◌, length, get_or, replicate, refl, ap, arith, codes, rules}
use Rattle.std.proofs.lemmas.List.{length-replicate}
use Rattle.std.proofs.lemmas.List.Elements.{All-replicate, All-from_recursion, recursion_from_All}
use Rattle.std.specs.Char.{IsAsciiDigit}
use Rattle.seat_session.specs.Lines.{HasNoFeed, text_of, Breaks, BeginsWith, IsPartial, IsOverlong}
use Rattle.seat_session.proofs.LineLemmas.{not_whole_and_overlong}
use Rattle.seat_session.specs.Version.{IsVersion}

-- CR LF and LF end a line alike
crlf_text : text_of (codes "VERSION:2.0.0" ++ 13 ∷ []) ≡ codes "VERSION:2.0.0"
crlf_text = refl

lf_text : text_of (codes "VERSION:2.0.0") ≡ codes "VERSION:2.0.0"
lf_text = refl

-- one carriage return belongs to the line's end, and one within the line to its text
double_return_text : text_of (97 ∷ 13 ∷ 13 ∷ []) ≡ 97 ∷ 13 ∷ []
double_return_text = refl

inner_return_text : text_of (97 ∷ 13 ∷ 98 ∷ []) ≡ 97 ∷ 13 ∷ 98 ∷ []
inner_return_text = refl

-- ab LF c
breaks_ab : Breaks (97 ∷ 98 ∷ 10 ∷ 99 ∷ []) (97 ∷ 98 ∷ []) (99 ∷ [])
breaks_ab = record { joined = refl; one_line = (λ e. omega (arith, e), (λ e. omega (arith, e), tt)) }

begins_with_ab : BeginsWith (97 ∷ 98 ∷ 10 ∷ 99 ∷ []) (97 ∷ 98 ∷ []) (99 ∷ [])
begins_with_ab = record { breaks = breaks_ab; short = omega arith }

-- a line has no line feed
not_breaks_a_lf_b : Breaks (97 ∷ 10 ∷ 98 ∷ 10 ∷ []) (97 ∷ 10 ∷ 98 ∷ []) [] → ⊥
not_breaks_a_lf_b breaks = breaks.one_line.1.0 refl

clear_replicate : (count : ℕ) → HasNoFeed (replicate count 97)
clear_replicate count = recursion_from_All (λ byte. byte ≢ 10) (replicate count 97) (All-replicate (λ byte. byte ≢ 10) count 97 (λ e. omega (arith, e)))

-- a line of 4096 bytes is whole, and one of 4097 isn't
begins_with_4096 : BeginsWith (replicate 4096 97 ++ 10 ∷ []) (replicate 4096 97) []
begins_with_4096 = record { breaks = record { joined = refl; one_line = clear_replicate 4096 }; short = omega (arith, length-replicate {A = ℕ} 4096 97) }

not_begins_with_4097 : BeginsWith (replicate 4097 97 ++ 10 ∷ []) (replicate 4097 97) [] → ⊥
not_begins_with_4097 begins = omega (arith, begins.short, length-replicate {A = ℕ} 4097 97)

-- it is overlong, whether its line feed came or not
pub overlong_4097 : (more : List ℕ) → IsOverlong (replicate 4097 97 ++ more) (replicate 4097 97) more
overlong_4097 more = record { joined = refl; one_line = clear_replicate 4097; long = length-replicate {A = ℕ} 4097 97 }

-- a feed after 4096 bytes comes in time
not_overlong_4096 : (front more : List ℕ) → IsOverlong (replicate 4096 97 ++ 10 ∷ []) front more → ⊥
not_overlong_4096 front more overlong = not_whole_and_overlong _ _ [] front more begins_with_4096 overlong

partial_4096 : IsPartial (replicate 4096 97)
partial_4096 = record { one_line = clear_replicate 4096; short = omega (arith, length-replicate {A = ℕ} 4096 97) }

not_partial_4097 : IsPartial (replicate 4097 97) → ⊥
not_partial_4097 partial = omega (arith, partial.short, length-replicate {A = ℕ} 4097 97)

-- with its line feed a line isn't partial
not_partial_line : IsPartial (97 ∷ 10 ∷ []) → ⊥
not_partial_line partial = partial.one_line.1.0 refl

pub version_zero : IsVersion (codes "VERSION:2.0.0")
version_zero =
    (codes "0", record { digits = All-from_recursion IsAsciiDigit (codes "0") (search rules); least = omega arith; most = omega arith }, refl)

version_nine_digits : IsVersion (codes "VERSION:2.0.001234567")
version_nine_digits =
    (codes "001234567", record { digits = All-from_recursion IsAsciiDigit (codes "001234567") (search rules); least = omega arith; most = omega arith }, refl)

pub not_version_one : IsVersion (codes "VERSION:2.1.0") → ⊥
not_version_one version = let differs = ap (λ (l : List ℕ). get_or l 10 0) version.2 in omega (arith, differs)

not_version_bare : IsVersion (codes "VERSION:2.0.") → ⊥
not_version_bare version = omega (arith, version.1.least, ap length version.2)

not_version_ten_digits : IsVersion (codes "VERSION:2.0.0123456789") → ⊥
not_version_ten_digits version = omega (arith, version.1.most, ap length version.2)

not_version_letter : IsVersion (codes "VERSION:2.0.1x") → ⊥
not_version_letter version =
    let inside : 1 < length version.0 = omega (arith, ap length version.2) in
    let letter = ap (λ (l : List ℕ). get_or l 13 0) version.2 in
    omega (arith, letter, version.1.digits 1 0 inside)
