-- Lines that show tokens.
use Rattle.std.proofs.Common.{◌≡◌, inl, inr, ℕ, ◌+◌, ◌<◌, ◌≤◌, Bool, true, false, eqb, IsTrue, List, [], ◌∷◌, ◌++◌, length, take, drop, append_assoc, refl, sym, ap, subst, ◌∙◌, arith}
use Rattle.std.specs.Prelude.{codes, ◌||◌}
use Rattle.std.specs.List.{list_all, list_any}
use Rattle.std.proofs.lemmas.List.{length-append}
use Rattle.std.proofs.lemmas.List.Folds.{list_any-append}
use Rattle.std.proofs.Math.Seq.{take-append_seam, drop-append_seam}
use Rattle.sha2.specs.Sha256.{sha256}
use Rattle.node_seats.specs.Tokens.{is_token_digit, IsLineEnd, IsForm, IsTokenLine, has_end}

pub line_from_parts : (digest line word rest digits end : List ℕ) → line ≡ word ++ rest → rest ≡ digits ++ end → length digits ≡ 64 → IsForm word digits end → sha256 digits ≡ digest → IsTokenLine digest line
line_from_parts digest line word rest digits end whole behind count form right = record {
  digits = digits;
  count = count;
  are = form.2;
  right = right;
  end = end;
  ends = form.1;
  text = whole ∙ (ap (λ (w : List ℕ). w ++ rest) form.0 ∙ ap (λ (r : List ℕ). codes "#TOKEN " ++ r) behind);
}

same_front : (xs ys left right : List ℕ) → length xs ≡ length ys → xs ++ left ≡ ys ++ right → xs ≡ ys
same_front xs ys left right lengths e =
    sym (take-append_seam xs left) ∙ (ap (λ (n : ℕ). take n (xs ++ left)) lengths ∙ (ap (λ (l : List ℕ). take (length ys) l) e ∙ take-append_seam ys right))

same_back : (xs ys left right : List ℕ) → length xs ≡ length ys → xs ++ left ≡ ys ++ right → left ≡ right
same_back xs ys left right lengths e =
    sym (drop-append_seam xs left) ∙ (ap (λ (n : ℕ). drop n (xs ++ left)) lengths ∙ (ap (λ (l : List ℕ). drop (length ys) l) e ∙ drop-append_seam ys right))

pub parts_of_line : (digest line word rest digits end : List ℕ) → line ≡ word ++ rest → rest ≡ digits ++ end → length word ≡ 7 → length digits ≡ 64 → IsTokenLine digest line → IsForm word digits end × (sha256 digits ≡ digest)
parts_of_line digest line word rest digits end whole behind word_count count token =
    let text : word ++ rest ≡ codes "#TOKEN " ++ (token.digits ++ token.end) = sym whole ∙ token.text in
    let rests : digits ++ end ≡ token.digits ++ token.end = sym behind ∙ same_back word (codes "#TOKEN ") rest (token.digits ++ token.end) word_count text in
    let digits_are : digits ≡ token.digits = same_front digits token.digits end token.end (count ∙ sym token.count) rests in
    let ends : IsLineEnd end = subst IsLineEnd (sym (same_back digits token.digits end token.end (count ∙ sym token.count) rests)) token.ends in
    let are : IsTrue (list_all is_token_digit digits) = subst (λ (d : List ℕ). IsTrue (list_all is_token_digit d)) (sym digits_are) token.are in
    ((same_front word (codes "#TOKEN ") rest (token.digits ++ token.end) word_count text, ends, are), ap sha256 digits_are ∙ token.right)

length_by : (end : List ℕ) → IsLineEnd end → (1 ≤ length end) × (length end ≤ 2)
length_by end (inl lf) = (omega (arith, ap length lf), omega (arith, ap length lf))
length_by end (inr both) = (omega (arith, ap length both), omega (arith, ap length both))

-- 72 bytes, or 73
pub token_length : (digest line : List ℕ) → IsTokenLine digest line → (72 ≤ length line) × (length line ≤ 73)
token_length digest line token =
    let e : length line ≡ 7 + (64 + length token.end) = ap length token.text ∙ (length-append (codes "#TOKEN ") (token.digits ++ token.end) ∙ ap (λ (n : ℕ). 7 + n) (length-append token.digits token.end) ∙ ap (λ (n : ℕ). 7 + (n + length token.end)) token.count) in
    let bounds : (1 ≤ length token.end) × (length token.end ≤ 2) = length_by token.end token.ends in
    (omega (arith, e, bounds.0), omega (arith, e, bounds.1))

-- no shorter line shows one
pub too_short : (digest line : List ℕ) → length line < 71 → IsTokenLine digest line → ⊥
too_short digest line short token = omega (arith, short, (token_length digest line token).0)

-- ---- its end

last_by : (front end : List ℕ) → IsLineEnd end → (rest : List ℕ) × (front ++ end ≡ rest ++ 10 ∷ [])
last_by front end (inl lf) = (front, ap (λ (e : List ℕ). front ++ e) lf)
last_by front end (inr both) = (front ++ 13 ∷ [], ap (λ (e : List ℕ). front ++ e) both ∙ sym (append_assoc front (13 ∷ []) (10 ∷ [])))

or_true : (is : Bool) → is || true ≡ true
or_true true = refl
or_true false = refl

pub ends_line : (digest line : List ℕ) → IsTokenLine digest line → has_end line ≡ true
ends_line digest line token =
    let last : (rest : List ℕ) × ((codes "#TOKEN " ++ token.digits) ++ token.end ≡ rest ++ 10 ∷ []) = last_by (codes "#TOKEN " ++ token.digits) token.end token.ends in
    ap has_end (token.text ∙ (sym (append_assoc (codes "#TOKEN ") token.digits token.end) ∙ last.1)) ∙ (list_any-append (λ byte. eqb byte 10) last.0 (10 ∷ []) ∙ or_true (list_any (λ byte. eqb byte 10) last.0))
