-- A line in front of what came.
use Rattle.std.proofs.Common.{◌≡◌, ℕ, ◌+◌, ◌<◌, ◌≤◌, Bool, true, false, List, [], ◌∷◌, ◌++◌, drop, length, get_or, None, Some, Option, IfSome, IsNone, ◌⊎◌, Vec, Global, inl, inr, refl, ap, sym, subst, ◌∙◌, arith}
use Rattle.std.proofs.lemmas.Bool.{cases_eq, false≢true}
use Rattle.std.proofs.lemmas.List.{append_cancel_right}
use Rattle.std.proofs.Math.Seq.{drop-append-add}
use Rattle.game_def.specs.Game.{Game}
use Rattle.seat_relay.specs.declared.place.Place.{Place}
use Rattle.seat_relay.specs.Places.{IsPlaced}
use Rattle.seat_relay.specs.Relaying.{Line}
use Rattle.relay_runs.specs.Heard.{IsTextOf, IsLineOf, is_comment, IsPassedOver, IsVersion, IsMendedBy, AddsSaid}

pub behind_line : (raw rest : List ℕ) → drop (length raw + 1) (raw ++ 10 ∷ rest) ≡ rest
behind_line raw rest = drop-append-add raw (10 ∷ rest) 1

-- a line has one text
pub one_text : (raw first second : List ℕ) → IsTextOf raw first → IsTextOf raw second → first ≡ second
one_text raw first second one other =
    elim one [
      | inl ends ↦ elim other [
        | inl ends_too ↦ append_cancel_right first second (13 ∷ []) (sym ends ∙ ends_too)
        | inr whole ↦ absurd (whole.1 first ends)
      ]
      | inr whole ↦ elim other [
        | inl ends ↦ absurd (whole.1 second ends)
        | inr whole_too ↦ sym whole.0 ∙ whole_too.0
      ]
    ]

-- what has no place is no dealer's line
pub no_line : (raw text : List ℕ) (found : Option Place) → IsTextOf raw text → found ≡ None → ((place : Place) → IsPlaced text place → found ≡ Some place) → (line : Line) → ¬ IsLineOf raw line
no_line raw text found is_text none only line is =
    let placed : IsPlaced text line.place = subst (λ (t : List ℕ). IsPlaced t line.place) (one_text raw line.text text is.text is_text) is.placed in
    let both : None ≡ Some line.place = sym none ∙ only line.place placed in
    absurd cc

pub some_of : {A : Type 0} (P : A → Type 0) (found : Option A) (x : A) → found ≡ Some x → IfSome found P → P x
some_of P found x is holds = subst (λ f. IfSome f P) is holds

-- what is said is the text, or what is said instead of it
pub meant_as : (mended : Option Game) (found : Option (Vec ℕ Global)) (text said : List ℕ) → IfSome found (λ other. IsMendedBy mended text other.items) → (IsNone found → said ≡ text) → IfSome found (λ other. said ≡ other.items)
    → (said ≡ text) ⊎ IsMendedBy mended text said
meant_as mended None text said by own other = inl (own refl)
meant_as mended (Some found) text said by own other = inr (subst (IsMendedBy mended text) (sym other) by)

-- ---- texts

no_nil : (front : List ℕ) → [] ≡ front ++ 13 ∷ [] → ⊥
no_nil [] same = cc
no_nil (byte ∷ front) same = cc

ends_len : (text : List ℕ) → length (text ++ 13 ∷ []) ≤ length text + 1
ends_len [] = omega arith
ends_len (byte ∷ text) = let h : length (text ++ 13 ∷ []) ≤ length text + 1 = ends_len text in omega arith

front_len : (front rest : List ℕ) → length front ≤ length (front ++ rest)
front_len [] rest = omega arith
front_len (byte ∷ front) rest = let h : length front ≤ length (front ++ rest) = front_len front rest in omega arith

no_end : (byte : ℕ) (rest front : List ℕ) → byte ∷ rest ≡ front ++ 13 ∷ [] → (rest ≡ [] → byte ≡ 13 → ⊥) → ((other : List ℕ) → ¬ (rest ≡ other ++ 13 ∷ [])) → ⊥
no_end byte rest [] same one more = one (ap (λ (l : List ℕ). drop 1 l) same) (ap (λ (l : List ℕ). get_or l 0 0) same)
no_end byte rest (first ∷ front) same one more = more front (ap (λ (l : List ℕ). drop 1 l) same)

-- each line has a text
some_text : (raw : List ℕ) → (text : List ℕ) × IsTextOf raw text
some_text [] = ([], inr (refl, λ front same. no_nil front same))
some_text (byte ∷ []) =
    elim (cases_eq byte 13) [
      | inl is ↦ ([], inl (ap (λ (b : ℕ). b ∷ []) is))
      | inr isnt ↦ (byte ∷ [], inr (refl, λ front same. no_end byte [] front same (λ none is. isnt is) (λ other end. no_nil other end)))
    ]
some_text (byte ∷ next ∷ rest) =
    let h : (text : List ℕ) × IsTextOf (next ∷ rest) text = some_text (next ∷ rest) in
    elim h.1 [
      | inl ends ↦ (byte ∷ h.0, inl (ap (λ (l : List ℕ). byte ∷ l) ends))
      | inr whole ↦ (byte ∷ h.0, inr (ap (λ (l : List ℕ). byte ∷ l) whole.0, λ front same. no_end byte (next ∷ rest) front same (λ none is. absurd cc) whole.1))
    ]

text_len : (raw text : List ℕ) → IsTextOf raw text → length raw ≤ length text + 1
text_len raw text (inl ends) = let h : length (text ++ 13 ∷ []) ≤ length text + 1 = ends_len text in subst (λ (l : List ℕ). length l ≤ length text + 1) (sym ends) h
text_len raw text (inr whole) = subst (λ (l : List ℕ). length l ≤ length text + 1) (sym whole.0) (omega arith)

-- what begins too long is too long, whatever follows
pub too_long_joined : (front rest : List ℕ) → 4097 < length front → IsPassedOver (front ++ rest)
too_long_joined front rest long =
    let h : (text : List ℕ) × IsTextOf (front ++ rest) text = some_text (front ++ rest) in
    let whole : length (front ++ rest) ≤ length h.0 + 1 = text_len (front ++ rest) h.0 h.1 in
    let more : length front ≤ length (front ++ rest) = front_len front rest in
    record { text = h.0; is_text = h.1; reason = inr (omega arith) }

-- a text that is no comment, and not too long, isn't passed over
pub is_heard : (raw text : List ℕ) → IsTextOf raw text → is_comment text ≡ false → length text ≤ 4096 → ¬ IsPassedOver raw
is_heard raw text is_text comment short passed =
    let same : passed.text ≡ text = one_text raw passed.text text passed.is_text is_text in
    elim passed.reason [
      | inl is ↦ absurd (false≢true (sym comment ∙ (ap is_comment (sym same) ∙ is)))
      | inr long ↦ let h : 4096 < length text = subst (λ (l : List ℕ). 4096 < length l) same long in omega arith
    ]

-- the bot had no seat, and names the version
pub seats : (mended : Option Game) (raw text : List ℕ) (seated : Bool) → seated ≡ false → IsTextOf raw text → IsVersion text → AddsSaid mended raw seated true []
seats mended raw text seated off is_text version = subst (λ (t : Bool). AddsSaid mended raw t true []) (sym off) (AddsSaid.greets text is_text version)
