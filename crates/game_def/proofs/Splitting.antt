-- The first line of a text, and the first word of a line.
use Rattle.std.proofs.Common.{◌≡◌, ℕ, suc, ◌+◌, ◌-◌, ◌<◌, ◌≤◌, Bool, true, false, not, cond, ltb, eqb, List, [], ◌∷◌, ◌||◌, length, get_or, take, drop, Some, None, refl, sym, ◌∙◌, arith, ◌⊎◌, inl, inr}
use Rattle.std.specs.List.{position, position_or_len, slice_split, onto_first, after_first, All}
use Rattle.std.proofs.lemmas.Bool.{cases_Bool, ltb-true, ltb-false, eqb-true, ne_eqb, or_parts, or_from}
use Rattle.std.proofs.lemmas.Grind.{common_steps}
use Rattle.std.proofs.lemmas.Option.{cond_some}
use Rattle.std.proofs.lemmas.List.Splits.{slice_split_first, slice_split_none}
use Rattle.std.proofs.lemmas.List.Sums.{fails_before_first}
use Rattle.std.proofs.lemmas.List.{nil_from_length}
use Rattle.std.specs.Prelude.{unwrap_or}
use Rattle.std.proofs.lemmas.List.Elements.{All-from_get_or}
use Rattle.game_def.specs.Text.{without_cr, lines_of, lines, is_blank, ends_word, goes_on, words}

found_at : {X : Type 0} (p : X → Bool) (xs : List X) (i : ℕ) → position p xs ≡ Some i → (position_or_len p xs < length xs) × (position_or_len p xs ≡ i)
found_at p xs i e =
    let both = cond_some (ltb (position_or_len p xs) (length xs)) (position_or_len p xs) i e in
    (ltb-true _ _ both.0, both.1)

not_found : {X : Type 0} (p : X → Bool) (xs : List X) → position p xs ≡ None → length xs ≤ position_or_len p xs
not_found p xs e =
    elim (cases_Bool (ltb (position_or_len p xs) (length xs))) [
      | inl is ↦ absurd (let f = rw is at e in cc)
      | inr is ↦ ltb-false _ _ is
    ]

none_passes : (p : ℕ → Bool) (xs : List ℕ) → length xs ≤ position_or_len p xs → All (λ x. p x ≡ false) xs
none_passes p xs h = All-from_get_or (λ x. p x ≡ false) xs 0 (λ i lt. fails_before_first p xs i 0 (omega arith))

onto_parts : {X : Type 0} (x : X) (parts : List (List X)) → (first : List X) × (others : List (List X)) × (onto_first x parts ≡ first ∷ others)
onto_parts x [] = (x ∷ [], [], refl)
onto_parts x (part ∷ parts) = (x ∷ part, parts, refl)

split_parts : {X : Type 0} (p : X → Bool) (xs : List X) → (first : List X) × (others : List (List X)) × (slice_split p xs ≡ first ∷ others)
split_parts p [] = ([], [], refl)
split_parts {X} p (x ∷ xs) =
    elim (p x) as (λ b. (first : List X) × (others : List (List X)) × (cond b ([] ∷ slice_split p xs) (onto_first x (slice_split p xs)) ≡ first ∷ others)) [
      | true ↦ ([], slice_split p xs, refl)
      | false ↦ onto_parts x (slice_split p xs)
    ]

pub lines_nil : lines [] ≡ []
unfolding lines lines_of
lines_nil = refl

pub lines_first : (text : List ℕ) (end : ℕ) → position (λ byte. eqb byte 10) text ≡ Some end → lines text ≡ without_cr (take end text) ∷ lines (drop (end + 1) text)
unfolding lines lines_of
lines_first text end e =
    let at = found_at (λ byte. eqb byte 10) text end e in
    let parts = split_parts (λ byte. eqb byte 10) (after_first (λ byte. eqb byte 10) text) in
    rw (slice_split_first (λ byte. eqb byte 10) text 0 at.0, ← at.1, parts.2) refl

pub lines_last : (text : List ℕ) → position (λ byte. eqb byte 10) text ≡ None → 0 < length text → lines text ≡ text ∷ lines []
unfolding lines lines_of
lines_last text e some =
    let none = none_passes (λ byte. eqb byte 10) text (not_found (λ byte. eqb byte 10) text e) in
    let filled : eqb (length text) 0 ≡ false = ne_eqb _ _ (omega arith) in
    rw (slice_split_none (λ byte. eqb byte 10) text none, filled) refl

pub words_nil : words [] ≡ []
unfolding words
words_nil = refl

blank_cons : (byte : ℕ) (rest : List ℕ) → is_blank byte ≡ true → words (byte ∷ rest) ≡ words rest
unfolding words
blank_cons byte rest h = rw h refl

-- where the blanks in front end
abbrev start : List ℕ → ℕ
start line = position_or_len (λ byte. not (is_blank byte)) line

start_cases : (byte : ℕ) (rest : List ℕ) → ((is_blank byte ≡ true) × (start (byte ∷ rest) ≡ suc (start rest))) ⊎ ((is_blank byte ≡ false) × (start (byte ∷ rest) ≡ 0))
start_cases byte rest =
    elim (cases_Bool (is_blank byte)) [
      | inl is ↦ inl (is, rw is (omega arith))
      | inr is ↦ inr (is, rw is refl)
    ]

pub words_skip : (line : List ℕ) → words (drop (start line) line) ≡ words line
words_skip [] = refl
words_skip (byte ∷ rest) =
    elim (start_cases byte rest) [
      | inl is ↦ rw is.1 (words_skip rest ∙ sym (blank_cons byte rest is.0))
      | inr is ↦ rw is.1 refl
    ]

pub skip_first : (line : List ℕ) → 0 < length (drop (start line) line) → is_blank (get_or (drop (start line) line) 0 0) ≡ false
skip_first [] h = absurd (omega arith)
skip_first (byte ∷ rest) h =
    elim (start_cases byte rest) [
      | inl is ↦ rw is.1 (skip_first rest (rw is.1 at h))
      | inr is ↦ rw is.1 is.0
    ]

pub skip_none : (line : List ℕ) → position (λ byte. not (is_blank byte)) line ≡ None → words [] ≡ words line
skip_none line e =
    let far = not_found (λ byte. not (is_blank byte)) line e in
    let gone : drop (start line) line ≡ [] = grind (arith, common_steps) in
    rw gone at (words_skip line)

pub skip_some : (line : List ℕ) (i : ℕ) → position (λ byte. not (is_blank byte)) line ≡ Some i → start line ≡ i
skip_some line i e = (found_at (λ byte. not (is_blank byte)) line i e).1

pub words_comment : (rest : List ℕ) → 0 < length rest → get_or rest 0 0 ≡ 35 → words rest ≡ []
unfolding words
words_comment [] h e = absurd (omega arith)
words_comment (byte ∷ rest) h e = rw e refl

-- where the word in front ends
abbrev end : List ℕ → ℕ
end text = position_or_len ends_word text

end_cons : (byte : ℕ) (rest : List ℕ) → ends_word byte ≡ false → end (byte ∷ rest) ≡ suc (end rest)
end_cons byte rest h = rw h (omega arith)

end_stop : (byte : ℕ) (rest : List ℕ) → ends_word byte ≡ true → end (byte ∷ rest) ≡ 0
end_stop byte rest h = rw h refl

letter_cons : (byte : ℕ) (rest : List ℕ) → ends_word byte ≡ false → words (byte ∷ rest) ≡ cond (goes_on rest) (onto_first byte (words rest)) ((byte ∷ []) ∷ words rest)
unfolding words
letter_cons byte rest h =
    let outer = or_parts (is_blank byte || eqb byte 61) (eqb byte 35) h in
    let inner = or_parts (is_blank byte) (eqb byte 61) outer.0 in
    rw (inner.0, outer.1, inner.1) refl

words_letter : (byte : ℕ) (rest : List ℕ) → ends_word byte ≡ false → words (byte ∷ rest) ≡ (byte ∷ take (end rest) rest) ∷ words (drop (end rest) rest)
words_letter byte [] h = letter_cons byte [] h
words_letter byte (next ∷ rest) h =
    elim (cases_Bool (ends_word next)) [
      | inl is ↦ letter_cons byte (next ∷ rest) h ∙ rw is refl
      | inr is ↦ letter_cons byte (next ∷ rest) h ∙ rw (end_cons next rest is, words_letter next rest is, is) refl
    ]

pub end_within : (rest : List ℕ) → end rest ≤ length rest
end_within [] = omega arith
end_within (byte ∷ rest) =
    elim (cases_Bool (ends_word byte)) [
      | inl is ↦ rw (end_stop byte rest is) (omega arith)
      | inr is ↦ rw (end_cons byte rest is) (omega (arith, end_within rest))
    ]

pub words_sign : (rest : List ℕ) → 0 < length rest → get_or rest 0 0 ≡ 61 → words rest ≡ take 1 rest ∷ words (drop 1 rest)
unfolding words
words_sign [] some e = absurd (omega arith)
words_sign (byte ∷ rest) some e = rw e refl

pub words_first : (rest : List ℕ) → 0 < length rest → is_blank (get_or rest 0 0) ≡ false → (get_or rest 0 0 ≡ 35 → ⊥) → (get_or rest 0 0 ≡ 61 → ⊥)
    → words rest ≡ take (end rest) rest ∷ words (drop (end rest) rest)
words_first [] some blank comment sign = absurd (omega arith)
words_first (byte ∷ rest) some blank comment sign =
    let letter : ends_word byte ≡ false = or_from _ _ (or_from _ _ blank (ne_eqb _ _ sign)) (ne_eqb _ _ comment) in
    words_letter byte rest letter ∙ rw (end_cons byte rest letter) refl

-- all that stands from a place on
pub from_place : (place : ℕ) (xs : List ℕ) → take (length xs - place) (drop place xs) ≡ drop place xs
from_place place xs = grind (arith, common_steps)

pub no_text : (text : List ℕ) → eqb (length text) 0 ≡ true → text ≡ []
no_text text h = nil_from_length text (eqb-true _ _ h)

pub some_text : (text : List ℕ) → eqb (length text) 0 ≡ false → 0 < length text
some_text [] h = absurd cc
some_text (byte ∷ rest) h = omega arith

pub end_by_position : (text : List ℕ) → unwrap_or (position ends_word text) (length text) ≡ end text
end_by_position text =
    elim (cases_Bool (ltb (end text) (length text))) [
      | inl is ↦ rw is refl
      | inr is ↦ let far = ltb-false (end text) (length text) is in rw is (omega (arith, end_within text, far))
    ]
