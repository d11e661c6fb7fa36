-- A text is cut at the first of certain bytes.
use Rattle.std.proofs.Common.{◌≡◌, ◌≢◌, ℕ, Bool, true, false, not, eqb, List, [], ◌∷◌, ◌++◌, length, take, drop, refl, sym, ap, ◌∙◌, arith, inl, inr}
use Rattle.std.proofs.Math.Numerals.{one-add}
use Rattle.std.specs.List.{prefix_len}
use Rattle.std.proofs.lemmas.List.{take_at, drop_at}
use Rattle.std.proofs.lemmas.Bool.Decides.{eqb_tells, nat_tests}
use Rattle.matchstate.specs.Free.{IsFreeOf}

-- other than the byte
abbrev pub other_than : ℕ → ℕ → Bool
other_than byte other = not (eqb other byte)

-- a text in which the byte stands
pub stands_within : (byte : ℕ) (front behind : List ℕ) → IsFreeOf byte (front ++ byte ∷ behind) → ⊥
stands_within byte [] behind free = free.0 refl
stands_within byte (other ∷ front) behind free = stands_within byte front behind free.1

pub front_ends : (byte : ℕ) (front behind : List ℕ) → IsFreeOf byte front → prefix_len (other_than byte) (front ++ byte ∷ behind) ≡ length front
front_ends byte [] behind free = let same : eqb byte byte ≡ true = grind (arith, nat_tests) in rw same refl
front_ends byte (other ∷ front) behind free =
    let apart : other ≢ byte = free.0 in
    let test : eqb other byte ≡ false = grind (arith, nat_tests) in
    let more = front_ends byte front behind free.1 in
    rw test (omega arith)

-- two texts up to the first such byte, and what stands behind it, are cut in one way
pub cut_alike : (byte : ℕ) (first second rest behind : List ℕ) → IsFreeOf byte first → IsFreeOf byte second → first ++ byte ∷ rest ≡ second ++ byte ∷ behind → (first ≡ second) × (rest ≡ behind)
cut_alike byte [] [] rest behind p q e = (refl, cc)
cut_alike byte [] (y ∷ second) rest behind p q e = let same : y ≡ byte = cc in absurd (q.0 same)
cut_alike byte (x ∷ first) [] rest behind p q e = let same : x ≡ byte = cc in absurd (p.0 same)
cut_alike byte (x ∷ first) (y ∷ second) rest behind p q e =
    let heads : x ≡ y = cc in
    let tails : first ++ byte ∷ rest ≡ second ++ byte ∷ behind = cc in
    let more = cut_alike byte first second rest behind p.1 q.1 tails in
    (ap (λ (b : ℕ). b ∷ first) heads ∙ ap (λ (bs : List ℕ). y ∷ bs) more.0, more.1)

pub free_front : (byte : ℕ) (bytes : List ℕ) → IsFreeOf byte (take (prefix_len (other_than byte) bytes) bytes)
free_front byte [] = tt
free_front byte (other ∷ bytes) =
    elim (eqb_tells other byte) [
      | inl same ↦ rw same.0 tt
      | inr apart ↦ rw (apart.0, one-add) (apart.1, free_front byte bytes)
    ]

pub all_free : (byte : ℕ) (bytes : List ℕ) → IsFreeOf byte bytes → prefix_len (other_than byte) bytes ≡ length bytes
all_free byte [] free = refl
all_free byte (other ∷ bytes) free =
    let apart : other ≢ byte = free.0 in
    let test : eqb other byte ≡ false = grind (arith, nat_tests) in
    let more = all_free byte bytes free.1 in
    rw test (omega arith)

pub byte_behind : (byte : ℕ) (bytes : List ℕ) (found : ℕ) (rest : List ℕ) → drop (prefix_len (other_than byte) bytes) bytes ≡ found ∷ rest → found ≡ byte
byte_behind byte [] found rest e = cc
byte_behind byte (first ∷ bytes) found rest e =
    elim (eqb_tells first byte) [
      | inl same ↦
          let here : first ∷ bytes ≡ found ∷ rest = rw same.0 at e in
          let equal : first ≡ found = cc in
          sym equal ∙ same.1
      | inr apart ↦
          let there : drop (prefix_len (other_than byte) bytes) bytes ≡ found ∷ rest = rw (apart.0, one-add) at e in
          byte_behind byte bytes found rest there
    ]

-- where a text is cut
pub cut_at : (byte : ℕ) (bytes front behind before after : List ℕ) (n : ℕ) → IsFreeOf byte front → bytes ≡ front ++ byte ∷ behind → n ≡ prefix_len (other_than byte) bytes → before ≡ take n bytes → after ≡ drop n bytes → (before ≡ front) × (after ≡ byte ∷ behind)
cut_at byte bytes front behind before after n free is told b a =
    let at : n ≡ length front = told ∙ ap (prefix_len (other_than byte)) is ∙ front_ends byte front behind free in
    (b ∙ ap (take n) is ∙ take_at front (byte ∷ behind) n (sym at), a ∙ ap (drop n) is ∙ drop_at front (byte ∷ behind) n (sym at))
