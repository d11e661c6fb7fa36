-- A shuffle of a list's last places by a stream of words: each index that it draws is one of the list, so it only changes places.
use Rattle.std.proofs.Common.{◌≡◌, ◌<◌, ◌≤◌, ℕ, zero, suc, ◌+◌, ◌-◌, ◌*◌, ◌/◌, ◌%◌, ◌^◌, ◌==◌, true, false, if◌then◌else◌, nat_lt, List, [], ◌∷◌, length, IsPermutation, inl, inr, refl, sym, ◌∙◌, arith, mul_comm, mul-lt-mul_of_pos_right, div-add-mod', lt_of_lt_of_le, le_of_eq}
use Rattle.std.proofs.lemmas.Bool.{cases_lt, cases_eq}
use Rattle.std.proofs.lemmas.Bool.Decides.{nat_tests}
use Rattle.std.proofs.lemmas.Nat.{mod_below, div_below}
use Rattle.std.proofs.lemmas.List.Sorted.{IsPermutation-refl, IsPermutation-trans, IsPermutation-swap, length_permutation}
use Rattle.rand_core.specs.Stream.{Call, u32_call, Stream, next_u32}
use Rattle.rand_core.specs.Steps.{stream_of}
use Rattle.rand_chacha.specs.Block.{block_word}
use Rattle.rand.specs.Uniform.{canon}
use Rattle.rand.specs.Shuffle.{rising, grow, chunk_of, Chooser, chooser_at, chooser_refill, chooser_next, narrow_swaps, partially_shuffled}
use Rattle.rand.proofs.UniformLemmas.{carry_room, if_below}
use Rattle.rand.proofs.ShuffleLemmas.{rising_more, rising_one, rising_positive, rest_below, last_below}
use Rattle.luck.specs.Draws.{stream_of_hand}

-- each word that the stream answers is below 2 ^ 32
abbrev pub AnswersWords : Stream → Type 0
AnswersWords s = (calls : List Call) → s.u32_after calls < 2 ^ 32

pub hand_answers_words : (key : List ℕ) (number : ℕ) → AnswersWords (stream_of_hand key number)
unfolding stream_of block_word
hand_answers_words key number calls = mod_below _ (2 ^ 32) (omega arith)

still_words : (s : Stream) → AnswersWords s → AnswersWords (next_u32 s).1
unfolding next_u32
still_words s words calls = words (u32_call ∷ calls)

first_word_below : (s : Stream) → AnswersWords s → (next_u32 s).0 < 2 ^ 32
unfolding next_u32
first_word_below s words = words []

-- a number below a range is drawn below it
canon_below : (range : ℕ) (s : Stream) → 0 < range → range < 2 ^ 32 → AnswersWords s
    → ((canon (2 ^ 32) next_u32 range s).0 < range) × AnswersWords (canon (2 ^ 32) next_u32 range s).1
unfolding canon
canon_below range s some narrow words =
    let w = (next_u32 s).0 in
    let high = w * range / 2 ^ 32 in
    let low = w * range % 2 ^ 32 in
    let word : w < 2 ^ 32 = first_word_below s words in
    let product : w * range < range * 2 ^ 32 = lt_of_lt_of_le (mul-lt-mul_of_pos_right word some) (le_of_eq (mul_comm (2 ^ 32) range)) in
    let below : high < range = div_below (w * range) (2 ^ 32) range (omega arith) product in
    elim (cases_lt (2 ^ 32 - range) low) [
      | inl carries ↦
          let test : nat_lt (2 ^ 32 - range) low ≡ true = grind (arith, nat_tests) in
          let room : high + 1 < range = carry_room (2 ^ 32) range w high low word (div-add-mod' (w * range) (2 ^ 32)) carries (omega arith) in
          rw test (if_below _ _ _ _ _ refl room below, still_words _ (still_words s words))
      | inr closed ↦
          let test : nat_lt (2 ^ 32 - range) low ≡ false = grind (arith, nat_tests) in
          rw test (below, still_words s words)
    ]

-- a draw serves some calls, and is below the product of their bounds
grown : (n a k product current : ℕ) → product ≡ rising a k → current ≡ a + k → 0 < k → product < 2 ^ 32
    → ((grow n product current k).0 ≡ rising a (grow n product current k).1) × (0 < (grow n product current k).1) × ((grow n product current k).0 < 2 ^ 32)
unfolding grow
grown zero a k product current is at some narrow = (is, some, narrow)
grown (suc n) a k product current is at some narrow =
    elim (cases_lt (2 ^ 32 - 1) (product * current)) [
      | inl over ↦
          let test : nat_lt (2 ^ 32 - 1) (product * current) ≡ true = grind (arith, nat_tests) in
          rw test (is, some, narrow)
      | inr fits ↦
          let test : nat_lt (2 ^ 32 - 1) (product * current) ≡ false = grind (arith, nat_tests) in
          let more : product * current ≡ rising a (k + 1) = rw (is, at) (sym (rising_more a k)) in
          rw test (grown n a (k + 1) (product * current) (current + 1) more (omega arith) (omega arith) (omega arith))
    ]

-- what is left of a draw is below the product of the bounds of the calls that it serves
abbrev IsReady : Chooser → Type 0
IsReady c = 0 < c.left → c.chunk < rising (c.n + 1) c.left

ready_at : (start : ℕ) → IsReady (chooser_at start)
ready_at start =
    elim (cases_eq start 0) [
      | inl none ↦
          let test : (start == 0) ≡ true = grind (arith, nat_tests) in
          rw test (λ some. rising_positive (start + 1) 1 (omega arith))
      | inr some ↦
          let test : (start == 0) ≡ false = grind (arith, nat_tests) in
          rw test (λ none. absurd (omega arith))
    ]

-- a draw that serves a call at least, and the stream behind it
abbrev IsFilled : ℕ → ℕ × ℕ × Stream → Type 0
IsFilled n r = (0 < r.1) × (r.0 < rising (n + 1) r.1) × AnswersWords r.2

refilled : (c : Chooser) (s : Stream) → c.n + 1 < 2 ^ 32 → IsReady c → AnswersWords s → IsFilled c.n (chooser_refill c s)
refilled c s narrow ready words =
    elim (cases_eq c.left 0) [
      | inl none ↦
          let test : (c.left == 0) ≡ true = grind (arith, nat_tests) in
          let chunk = grown 32 (c.n + 1) 1 (c.n + 1) (c.n + 1 + 1) (rising_one (c.n + 1)) refl (omega arith) narrow in
          let some : 0 < (chunk_of (c.n + 1)).0 = rw chunk.0 (rising_positive _ _ (omega arith)) in
          let drawn = canon_below (chunk_of (c.n + 1)).0 s some chunk.2 words in
          rw test (chunk.1, rw (← chunk.0) drawn.0, drawn.1)
      | inr some ↦
          let test : (c.left == 0) ≡ false = grind (arith, nat_tests) in
          rw test (omega arith, ready (omega arith), words)
    ]

-- an index up to n, and a chooser for those up to n + 1
abbrev IsNext : ℕ → ℕ × Chooser × Stream → Type 0
IsNext n d = (d.0 < n + 1) × (d.1.n ≡ n + 1) × IsReady d.1 × AnswersWords d.2

taken : (n : ℕ) (r : ℕ × ℕ × Stream) → IsFilled n r
    → IsNext n (if r.1 == 1 then (r.0, record { n = n + 1; chunk = r.0; left = 0 }, r.2) else (r.0 % (n + 1), record { n = n + 1; chunk = r.0 / (n + 1); left = r.1 - 1 }, r.2))
taken n r filled =
    elim (cases_eq r.1 1) [
      | inl last ↦
          let test : (r.1 == 1) ≡ true = grind (arith, nat_tests) in
          rw test (last_below r.0 (n + 1) (rw last at filled.1), refl, λ none. absurd (omega arith), filled.2)
      | inr others ↦
          let test : (r.1 == 1) ≡ false = grind (arith, nat_tests) in
          let more : suc (r.1 - 1) ≡ r.1 = omega (arith, filled.0) in
          rw test (mod_below r.0 (n + 1) (omega arith), refl, λ some. rest_below r.0 (n + 1) (r.1 - 1) (omega arith) (rw more filled.1), filled.2)
    ]

-- after some swaps the list has the same elements
abbrev IsSwapped : List ℕ → ℕ → List ℕ × Chooser × Stream → Type 0
IsSwapped xs at p = IsPermutation xs p.0 × (p.1.n ≡ at) × IsReady p.1 × AnswersWords p.2

swapped : (xs : List ℕ) (start : ℕ) (s : Stream) (k : ℕ) → start + k ≤ length xs → length xs < 2 ^ 32 → AnswersWords s → IsSwapped xs (start + k) (narrow_swaps xs (chooser_at start) s k)
unfolding narrow_swaps
swapped xs start s zero within narrow words = (IsPermutation-refl xs, omega arith, ready_at start, words)
swapped xs start s (suc k) within narrow words =
    let p = narrow_swaps xs (chooser_at start) s k in
    let before = swapped xs start s k (omega arith) narrow words in
    let next = taken p.1.n (chooser_refill p.1 p.2) (refilled p.1 p.2 (omega (arith, before.1)) before.2 before.3) in
    let many : length p.0 ≡ length xs = length_permutation xs p.0 before.0 in (
      IsPermutation-trans xs p.0 _ before.0 (IsPermutation-swap p.0 _ p.1.n (chooser_next p.1 p.2).0 (omega (arith, many, before.1)) (omega (arith, many, before.1, next.0)) refl),
      next.1 ∙ omega (arith, before.1),
      next.2,
      next.3,
    )

-- the last places are shuffled: the elements are the same, and the stream goes on
pub partly_shuffled : (xs : List ℕ) (amount : ℕ) (s : Stream) → length xs < 2 ^ 32 - 1 → AnswersWords s
    → IsPermutation xs (partially_shuffled xs amount s).0 × AnswersWords (partially_shuffled xs amount s).1
partly_shuffled xs amount s narrow words =
    let start = length xs - amount in
    let test : nat_lt (length xs) (2 ^ 32 - 1) ≡ true = grind (arith, nat_tests) in
    let all = swapped xs start s (length xs - start) (omega arith) (omega arith) words in
    rw test (all.0, all.3)
