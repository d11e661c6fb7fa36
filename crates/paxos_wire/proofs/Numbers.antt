-- Numbers: what is read is what is written, and what is written is read again.
use Rattle.std.proofs.Common.{◌≡◌, ℕ, suc, ◌^◌, ◌<◌, ◌≤◌, false, ltb, List, [], ◌∷◌, ◌++◌, length, take, drop, Some, refl, sym, subst, arith, inl, inr, length-append, length-take}
use Rattle.std.specs.Int.{w16, w32, from_be_bytes}
use Rattle.std.proofs.lemmas.Bool.{cases_lt, ltb-false, le-ltb, ltb-true, lt-ltb}
use Rattle.std.proofs.lemmas.List.{take-append-drop, get_or-take, get_or_past, drop_at}
use Rattle.std.proofs.lemmas.Nat.{be_bytes_2, be_bytes_4}
use Rattle.std.proofs.lemmas.Option.{same_Some}
use Rattle.std.proofs.NetLemmas.Options.{cond_none}
use Rattle.byteorder.specs.Endian.{big_bytes, big_number}
use Rattle.byteorder.specs.Numbers.{big_number-reads_back, length-bytes_high_first, big_from-lt}
use Rattle.paxos_wire.specs.Reading.{when, byte_at, number_at, below_at}
use Rattle.paxos_wire.proofs.Steps.{IsBytes, IsBytes-drop, bind_some, when_some, Takes}

pub IsBytes-take : (n : ℕ) (bytes : List ℕ) → IsBytes bytes → IsBytes (take n bytes)
IsBytes-take n bytes h i =
    elim (cases_lt i n) [
      | inl lt ↦ rw (get_or-take n bytes i 0 lt) (h i)
      | inr le ↦ rw (get_or_past (take n bytes) i 0 (omega (arith, length-take n bytes))) (omega arith)
    ]

-- a byte
abbrev pub byte_text : ℕ → List ℕ
byte_text byte = byte ∷ []

pub byte_takes : (bytes : List ℕ) (x : ℕ × List ℕ) → IsBytes bytes → byte_at bytes ≡ Some x → Takes byte_text (λ b. b < 256) bytes x
byte_takes [] x fits e = absurd cc
byte_takes (b ∷ bytes) x fits e = subst (λ (y : ℕ × List ℕ). Takes byte_text (λ b. b < 256) (b ∷ bytes) y) (same_Some (b, bytes) x e) (record { parts = refl; rest = λ i. fits (suc i); fits = fits 0 })

-- a number of n bytes is got back from them, and they from it
pub record IsWide (n : ℕ) : Type 0 where
  pub back : (bytes : List ℕ) → n ≤ length bytes → IsBytes bytes → big_bytes n (big_number n bytes) ≡ take n bytes

pub wide4 : IsWide 4
wide4 = record {
  back = λ bytes long fits.
      let same : big_number 4 bytes ≡ from_be_bytes w32 (take 4 bytes) = (let e0 = get_or-take 4 bytes 0 0 (omega arith) in let e1 = get_or-take 4 bytes 1 0 (omega arith) in let e2 = get_or-take 4 bytes 2 0 (omega arith) in let e3 = get_or-take 4 bytes 3 0 (omega arith) in omega (arith, e0, e1, e2, e3)) in
      be_bytes_4 (take 4 bytes) (big_number 4 bytes) (omega (arith, length-take 4 bytes)) (IsBytes-take 4 bytes fits) same;
}

pub wide2 : IsWide 2
wide2 = record {
  back = λ bytes long fits.
      let same : big_number 2 bytes ≡ from_be_bytes w16 (take 2 bytes) = (let e0 = get_or-take 2 bytes 0 0 (omega arith) in let e1 = get_or-take 2 bytes 1 0 (omega arith) in omega (arith, e0, e1)) in
      be_bytes_2 (take 2 bytes) (big_number 2 bytes) (omega (arith, length-take 2 bytes)) (IsBytes-take 2 bytes fits) same;
}

pub number_takes : (n : ℕ) → IsWide n → (bytes : List ℕ) (x : ℕ × List ℕ) → IsBytes bytes → number_at n bytes ≡ Some x → Takes (big_bytes n) (λ m. m < 256 ^ n) bytes x
number_takes n wide bytes x fits e =
    let g = cond_none (ltb (length bytes) n) (Some (big_number n bytes, drop n bytes)) x e in
    let long : n ≤ length bytes = ltb-false _ _ g.0 in
    subst (λ (y : ℕ × List ℕ). Takes (big_bytes n) (λ m. m < 256 ^ n) bytes y) (same_Some (big_number n bytes, drop n bytes) x g.1)
    (record { parts = rw (wide.back bytes long fits) (sym (take-append-drop n bytes)); rest = IsBytes-drop n bytes fits; fits = big_from-lt 0 n bytes fits })

pub number_again : (n m : ℕ) (rest : List ℕ) → m < 256 ^ n → number_at n (big_bytes n m ++ rest) ≡ Some (m, rest)
number_again n m rest lt =
    let len = length-bytes_high_first n m in
    let long : ltb (length (big_bytes n m ++ rest)) n ≡ false = le-ltb _ _ (omega (arith, length-append (big_bytes n m) rest, len)) in
    rw (long, big_number-reads_back n m rest lt, drop_at (big_bytes n m) rest n len) refl

pub below_takes : (n limit : ℕ) → IsWide n → (bytes : List ℕ) (x : ℕ × List ℕ) → IsBytes bytes → below_at n limit bytes ≡ Some x → Takes (big_bytes n) (λ m. m < limit) bytes x
unfolding below_at
below_takes n limit wide bytes x fits e =
    let a = bind_some (number_at n bytes) (λ number. when (ltb number.0 limit) number) x e in
    let t = number_takes n wide bytes a.0 fits a.1 in
    let g = when_some (ltb a.0.0 limit) a.0 x a.2 in
    subst (λ (y : ℕ × List ℕ). Takes (big_bytes n) (λ m. m < limit) bytes y) g.1 (record { parts = t.parts; rest = t.rest; fits = ltb-true _ _ g.0 })

pub below_again : (n limit m : ℕ) (rest : List ℕ) → m < limit → limit ≤ 256 ^ n → below_at n limit (big_bytes n m ++ rest) ≡ Some (m, rest)
unfolding below_at
below_again n limit m rest lt le = rw (number_again n m rest (omega arith), lt-ltb m limit lt) refl
